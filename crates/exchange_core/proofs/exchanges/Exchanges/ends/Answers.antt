use Rattle.exchange_core.proofs.Untouched.{exchange_ends}
use Rattle.exchange_core.proofs.exchanges.Exchanges.ends.Goals as goal
use Rattle.exchange_core.specs.Exchange.{ends_of}
use Rattle.std.proofs.Common.{ap, sym, ◌∙◌}
use Rattle.std.specs.Prelude.{Some, option_map}

pub returns-clause-ends : goal.returns-clause-ends
returns-clause-ends c = ap Some (c.ends.ensures ∙ sym (exchange_ends c.exchange.ensures.seen.now c.exchange.result.now)) ∙ sym (ap (option_map ends_of) c.exchange.ensures.seen.same)
