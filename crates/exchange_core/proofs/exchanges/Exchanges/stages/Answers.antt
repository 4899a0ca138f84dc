use Rattle.exchange_core.proofs.Untouched.{read_some, stages_seen}
use Rattle.exchange_core.proofs.exchanges.Exchanges.stages.Goals as goal
use Rattle.exchange_core.specs.Flow.{stages_of}
use Rattle.std.proofs.Common.{ap, sym, ◌∙◌}
use Rattle.std.specs.Prelude.{None, Some}

pub returns-in-Some : goal.returns-in-Some
returns-in-Some c = ap Some c.stages.ensures ∙ sym (read_some stages_of stages_seen (Some c.in-Some.flow.now) _ c.in-Some.ensures)

pub returns-in-None : goal.returns-in-None
returns-in-None c = sym (read_some stages_of stages_seen None _ c.in-None.ensures)
