-- The exchanges as they are kept. The Meters of a flow are told of the time only when the flow is touched: what is seen is
-- the flow as it stands at the last tick.
use Rattle.exchange_core.specs.Exchange.{is_metered, seen_at}
use Rattle.exchange_core.specs.Exchanges.{Exchanges, IsSound, is_metered_at}
use Rattle.number_set.specs.NumberSet.{has}
use Rattle.exchange_core.specs.declared.exchange.Exchange.{Exchange}
use Rattle.exchange_core.specs.declared.exchanges.Exchanges.TheInside.{Inside}
use Rattle.std.specs.Prelude.{List, count_by, length, map, ℕ, ◌+◌, ◌≡◌, ◌≤◌}
use Rattle.std.specs.VecDeque.{deque_capacity, deque_len}

-- as they lie in the map
abbrev pub stored : Inside → Exchanges
stored c = record {
  live = c.live.entries;
  doomed = c.doomed.items;
  last = c.last;
  time = c.time;
}

abbrev pub seen_all : ℕ → List (ℕ × Exchange) → List (ℕ × Exchange)
seen_all now = map (λ e. (e.0, seen_at now e.1))

abbrev pub exchanges_of : Inside → Exchanges
exchanges_of c = record (stored c) { live = seen_all c.ticked c.live.entries }

-- The set of those whose Meters hold octets has them all, each once. In it and on the deferred list there is room for every
-- exchange that is live.
pub record IsKept (c : Inside) : Type 0 where
  pub sound : IsSound (stored c)
  pub told : c.ticked ≤ c.time
  pub room : length c.live.entries + deque_len c.doomed ≤ deque_capacity c.doomed
  pub metered : (x : ℕ) → has c.metered.items x ≡ is_metered_at (stored c) x
  pub counted : length c.metered.items ≡ count_by (λ e. is_metered e.1) c.live.entries
  pub ready : length c.live.entries ≤ c.metered.room
