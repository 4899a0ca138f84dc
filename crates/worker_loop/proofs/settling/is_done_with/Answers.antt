-- Whether a connection is closed and nothing waits for it.
use Rattle.std.proofs.Common.{sym, ◌∙◌}
use Rattle.worker_loop.proofs.Closing.{done_with, open_still}
use Rattle.worker_loop.proofs.settling.is_done_with.Goals as goal

pub returns-then-not-closing : goal.returns-then-not-closing
returns-then-not-closing c = open_still c.args.core.now.kind c.args.conn (sym c.closing.ensures ∙ c.if-not-closing.true)

pub returns : goal.returns
returns c = done_with c.args.core.now.kind c.args.conn c.out_front.result.now c.is_empty.result (sym c.closing.ensures ∙ c.if-not-closing.false) c.out_front.ensures c.is_empty.ensures
