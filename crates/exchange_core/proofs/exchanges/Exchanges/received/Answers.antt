use Rattle.exchange_core.proofs.exchanges.Exchanges.received.Goals as goal
use Rattle.exchange_core.specs.Flow.{Flow}
use Rattle.std.proofs.Common.{ap, sym, ◌∙◌}
use Rattle.std.specs.Prelude.{Some, length, option_map}

pub returns : goal.returns
returns c = ap Some c.left.ensures ∙ sym (ap (option_map (λ (f : Flow). length f.recv)) c.flow.ensures.same)
