use Rattle.exchange_core.proofs.exchanges.Exchanges.has_ended.Goals as goal
use Rattle.exchange_core.specs.Flow.{Flow}
use Rattle.exchange_core.specs.declared.message.Message.{Message}
use Rattle.std.proofs.Common.{ap, sym, ◌∙◌}
use Rattle.std.specs.Prelude.{Some, option_map}

pub returns : goal.returns
returns c = ap (λ (m : Message). Some m.ended) c.message.ensures ∙ sym (ap (option_map (λ (f : Flow). f.message.ended)) c.flow.ensures.same)
