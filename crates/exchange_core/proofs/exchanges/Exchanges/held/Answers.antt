use Rattle.exchange_core.proofs.Untouched.{exchange_held}
use Rattle.exchange_core.proofs.exchanges.Exchanges.held.Goals as goal
use Rattle.exchange_core.specs.Exchange.{held_in}
use Rattle.std.proofs.Common.{ap, sym, ◌∙◌}
use Rattle.std.specs.Prelude.{Some, option_map}

pub returns : goal.returns
returns c = ap Some (c.held.ensures ∙ sym (exchange_held c.exchange.ensures.seen.now c.exchange.result.now)) ∙ sym (ap (option_map held_in) c.exchange.ensures.seen.same)
