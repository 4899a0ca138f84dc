use Rattle.std.proofs.Common.{sym, ◌∙◌}
use Rattle.plain_core.proofs.FlowNexts.{next_is}
use Rattle.plain_core.proofs.flows.Flows.next_frame.Goals as goal

pub returns : goal.returns
returns c = next_is c.args.self.now c.next.result (sym c.is_above.ensures.above ∙ c.if-is_above.false) c.next.ensures
