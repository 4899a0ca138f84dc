use Rattle.paged_map.proofs.Directory.{last_at}
use Rattle.paged_map.proofs.pages.find.Goals as goal
use Rattle.std.proofs.Common.{sym, ◌∙◌}

pub returns-then-index : goal.returns-then-index
returns-then-index g c =
    let item = c.in-Some.ensures.item in
    last_at c.args.index c.in-Some.last.now c.args.pages.now c.requires item.3.0 item.1 (sym c.index.ensures ∙ c.if-index.true)
