use Rattle.exchange_core.proofs.exchanges.Exchanges.fields.Goals as goal
use Rattle.exchange_core.specs.Flow.{Flow}
use Rattle.exchange_core.specs.Message.{fields_of}
use Rattle.std.proofs.Common.{ap, sym, ◌∙◌}
use Rattle.std.specs.Prelude.{Some, option_map}

pub returns : goal.returns
returns c = ap Some c.fields.ensures ∙ sym (ap (option_map (λ (f : Flow). fields_of f.message)) c.flow.ensures.same)
