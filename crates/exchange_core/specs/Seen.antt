-- What lies in the map is seen at the moment of the last tick.
use Rattle.exchange_core.specs.Exchange.{at_moment, seen_at}
use Rattle.exchange_core.specs.Flow.{Flow}
use Rattle.exchange_core.specs.declared.exchange.Exchange.{Exchange}
use Rattle.std.specs.Prelude.{Option, Some, option_map, ℕ, ◌≡◌}

pub record IsSeenAs (found : Exchange) (seen : Option Exchange) : Type 0 where
  pub now : ℕ
  pub same : seen ≡ Some (seen_at now found)

pub record IsFlowSeenAs (found : Flow) (seen : Option Flow) : Type 0 where
  pub now : ℕ
  pub same : seen ≡ Some (at_moment now found)

pub record IsFoundAs (found seen : Option Flow) : Type 0 where
  pub now : ℕ
  pub same : seen ≡ option_map (at_moment now) found
