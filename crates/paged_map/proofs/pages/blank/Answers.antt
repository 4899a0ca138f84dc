use Rattle.number_set.proofs.Tests.{same_is}
use Rattle.paged_map.proofs.Directory.{ordered_remove, remove_blank, stands}
use Rattle.paged_map.proofs.pages.blank.Goals as goal
use Rattle.paged_map.specs.Pages.{AreOrdered, entries_on}
use Rattle.std.proofs.Common.{ap, arith, subst, sym, ◌∙◌}
use Rattle.std.specs.Prelude.{length, ◌-◌, ◌<◌}

pub returns-clause-ordered : goal.returns-clause-ordered
returns-clause-ordered g c =
    let within : c.len-len.result - 1 < length c.args.pages.now.items = omega (arith, c.len-len.ensures, c.args.pages.now.ok.0, c.if-len-eq0.false) in
    subst AreOrdered (sym c.remove-page.ensures.items)
    (ordered_remove c.index.result.now.0 _ c.args.pages.now.items (stands _ c.index.result.now c.args.pages.now.items c.requires.ordered.order within c.index.ensures) c.requires.ordered)

pub returns-clause-same : goal.returns-clause-same
returns-clause-same g c =
    ap entries_on c.remove-page.ensures.items
    ∙ remove_blank _ c.index.result.now c.args.pages.now.items (omega (arith, c.len-len.ensures, c.args.pages.now.ok.0, c.if-len-eq0.false)) c.index.ensures (same_is _ 0 (sym c.is_blank.ensures ∙ c.if-not-is_blank.false))
