use Rattle.std.proofs.Common.{ap, sym, ◌∙◌}
use Rattle.proxy_config.specs.Clusters.{number_of}
use Rattle.proxy_config.proofs.Listed.{listed_has_number, read_alike}
use Rattle.proxy_config.proofs.routing.cluster_of.Goals as goal

pub unreachable-requires : goal.unreachable-requires
unreachable-requires c =
    let here = rw c.as_slice.ensures.rows at c.index-as_slice-row.is in
    let first = rw (c.as_slice-2.ensures.rows, c.as_slice-3.ensures) at c.first_named.ensures.first in
    listed_has_number c.args.config.now.clusters c.args.config.now.routes c.args.row c.index-as_slice-row.result c.requires.range.listed c.requires.row here (sym first ∙ c.in-None.is)

pub returns-clause-number : goal.returns-clause-number
returns-clause-number c d =
    let here = rw c.as_slice.ensures.rows at c.index-as_slice-row.is in
    let first = rw (c.as_slice-2.ensures.rows, c.as_slice-3.ensures) at c.first_named.ensures.first in
    let same = read_alike c.args.config.now.routes c.args.row d c.index-as_slice-row.result c.requires.row in
    ap (λ r. number_of c.args.config.now.clusters r.cluster) (same ∙ sym here) ∙ sym first ∙ c.in-Some.is
