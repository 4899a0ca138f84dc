use Rattle.std.proofs.Common.{sum_by, arith, ap}
use Rattle.hpack_codec.specs.Table.{line_size}
use Rattle.hpack_codec.proofs.Kept.{kept_fits}
use Rattle.hpack_codec.proofs.table.DynamicTable.resize.Goals as goal

pub invariant_of-self : goal.invariant_of-self
invariant_of-self c =
    let inv = c.self.invariant in
    let fits = kept_fits c.args.limit c.args.self.now.lines in
    (inv.0, omega (arith, ap (λ t. sum_by line_size t.lines) c.self.view_is, ap (sum_by line_size) c.evict.ensures.lines))
