-- The task on top is carried on.
use Rattle.std.proofs.Common.{ap, ◌∙◌}
use Rattle.std.specs.Prelude.{Some}
use Rattle.plain_core.proofs.plain.PlainCore.step.Goals as goal

pub drain-requires-clause-top : goal.drain-requires-clause-top
drain-requires-clause-top c = record { conn = c.in-Drain.conn; is = c.requires.top ∙ ap Some c.in-Drain.is }

pub tell-requires-clause-top : goal.tell-requires-clause-top
tell-requires-clause-top c = record { conn = c.in-Tell.conn; is = c.requires.top ∙ ap Some c.in-Tell.is }
