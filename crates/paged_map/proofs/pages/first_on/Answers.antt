use Rattle.paged_map.proofs.Following.{page_first, page_past}
use Rattle.paged_map.proofs.pages.first_on.Goals as goal
use Rattle.std.proofs.Common.{sym, ◌∙◌}

pub returns-then-is_some : goal.returns-then-is_some
returns-then-is_some g c =
    page_first c.in-Some.page.now c.loop-page.rest.now c.in-Some.later.now c.first_from-first.result c.in-Some.ensures.cases.0 c.first_from-first.ensures (sym c.is_some.ensures ∙ c.if-is_some.true)
    ∙ c.loop-page.invariant

pub loop-page-preserved : goal.loop-page-preserved
loop-page-preserved g c =
    page_past c.in-Some.page.now c.loop-page.rest.now c.in-Some.later.now c.first_from-first.result c.in-Some.ensures.cases.0 c.first_from-first.ensures (sym c.is_some.ensures ∙ c.if-is_some.false)
    ∙ c.loop-page.invariant
