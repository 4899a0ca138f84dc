-- What is seen of all exchanges: those that are live, and those that are doomed and still to be destroyed.
use Rattle.exchange_core.specs.Exchange.{IsSoundExchange, flow_in, goes_to, is_metered}
use Rattle.exchange_core.specs.Flow.{Flow, last_place}
use Rattle.exchange_core.specs.declared.exchange.Exchange.{Exchange}
use Rattle.filter_chain.specs.Chain.{above_at}
use Rattle.flow_rules.specs.declared.ids.FlowId.{FlowId}
use Rattle.std.specs.List.{AllByRecursion}
use Rattle.std.specs.List.Sorted.{IsStrictlySortedBy}
use Rattle.std.specs.Map.{keys_of, lookup}
use Rattle.std.specs.Option.{option_and_then, option_map_or}
use Rattle.std.specs.Ordering.{nat_cmp}
use Rattle.std.specs.Prelude.{Bool, IfSome, IsSome, IsSomeAnd, List, None, Option, count_by, false, is_some, nat_eq, true, ℕ, ◌<◌, ◌≡◌, ◌≤◌}

pub record Exchanges : Type 0 where
  pub live : List (ℕ × Exchange)
  -- in the order of their dooms
  pub doomed : List ℕ
  -- the greatest number given so far, and the greatest moment told
  pub last : ℕ
  pub time : ℕ

unfoldable pub exchange_at : Exchanges → ℕ → Option Exchange
exchange_at exchanges x = lookup (nat_eq x) exchanges.live

abbrev pub is_live : Exchanges → ℕ → Bool
is_live exchanges x = is_some (exchange_at exchanges x)

-- a flow of a live exchange
abbrev pub flow_at : Exchanges → FlowId → Option Flow
flow_at exchanges f = option_and_then (flow_in f.back) (exchange_at exchanges f.exchange)

-- the connection that it goes to
abbrev pub target_of : Exchanges → FlowId → Option ℕ
target_of exchanges f = option_and_then (goes_to f.back) (exchange_at exchanges f.exchange)

-- its send buffer is above
abbrev pub is_send_above : Exchanges → FlowId → Bool
is_send_above exchanges f = option_map_or (λ flow. above_at flow.chain (last_place flow)) (flow_at exchanges f) false

-- it is live, and some Meter of its flows holds octets
abbrev pub is_metered_at : Exchanges → ℕ → Bool
is_metered_at exchanges x = option_map_or is_metered (exchange_at exchanges x) false

-- the least number above this one of an exchange whose Meters hold octets, if there is one
pub record IsNextMetered (after : ℕ) (next : Option ℕ) (exchanges : Exchanges) : Type 0 where
  pub found : IfSome next (λ x. (after < x) × (is_metered_at exchanges x ≡ true))
  pub least : (y : ℕ) → after < y → is_metered_at exchanges y ≡ true → IsSomeAnd next (λ x. x ≤ y)

abbrev pub IsLiveFlow : Exchanges → FlowId → Type 0
IsLiveFlow exchanges f = IsSome (flow_at exchanges f)

-- what is true at all times
pub record IsSound (exchanges : Exchanges) : Type 0 where
  -- each stands once, in the order of their numbers
  pub order : IsStrictlySortedBy nat_cmp (keys_of exchanges.live)
  pub below : (x : ℕ) → IsSome (exchange_at exchanges x) → x ≤ exchanges.last
  pub each : (x : ℕ) → IfSome (exchange_at exchanges x) (IsSoundExchange x exchanges.time)
  -- a doomed exchange isn't live, and is destroyed once
  pub dead : AllByRecursion (λ x. (x ≤ exchanges.last) × (exchange_at exchanges x ≡ None)) exchanges.doomed
  pub once : (x : ℕ) → count_by (nat_eq x) exchanges.doomed ≤ 1
