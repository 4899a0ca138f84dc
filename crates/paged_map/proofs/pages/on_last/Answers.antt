use Rattle.paged_map.proofs.Directory.{last_at}
use Rattle.paged_map.proofs.pages.on_last.Goals as goal
use Rattle.std.proofs.Common.{sym, ◌∙◌}

pub returns-then-index : goal.returns-then-index
returns-then-index g c =
    let item = c.in_ok-last.ensures.item in
    last_at c.args.index c.in_ok-last.last.now c.args.pages.now c.requires item.3.0 item.1 (sym c.index.ensures ∙ c.if-index.true)
