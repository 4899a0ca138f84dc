use Rattle.paged_map.proofs.Directory.{page_at}
use Rattle.paged_map.proofs.pages.at_place.Goals as goal
use Rattle.std.proofs.Common.{sym, ◌∙◌}

pub returns-then-index : goal.returns-then-index
returns-then-index g c =
    let item = c.in-Some.ensures.lookup in
    page_at c.args.index c.args.place c.in-Some.page.now c.args.pages.now c.requires item.3.0 item.1 (sym c.index.ensures ∙ c.if-index.true)
