-- The exchanges of a worker and the gates that hold their flows back, as one value.
use Rattle.exchange_core.specs.Exchanges.{Exchanges, flow_at, is_live, target_of}
use Rattle.exchange_core.specs.Flow.{Flow}
use Rattle.exchange_core.specs.State.{sources}
use Rattle.flow_gate.specs.Board.{Board}
use Rattle.flow_gate.specs.Ids.{same_flow}
use Rattle.flow_rules.specs.declared.ids.BufferId.{BufferId}
use Rattle.flow_rules.specs.declared.ids.FlowId.{FlowId}
use Rattle.std.specs.Option.{option_map_or}
use Rattle.std.specs.Prelude.{Bool, IsSome, List, Option, [], if◌then◌else◌, is_some, length, map, ℕ, ◌≡◌}
use Rattle.wire_flows.specs.declared.flows.WireFlows.TheInside.{Inside}

pub record Flows : Type 0 where
  pub exchanges : Exchanges
  pub gates : Board

abbrev pub flows_of : Inside → Flows
flows_of c = record { exchanges = c.exchanges; gates = c.gates }

-- a flow of a live exchange
abbrev pub flow_in : Flows → FlowId → Option Flow
flow_in flows f = flow_at flows.exchanges f

abbrev pub is_there : Flows → FlowId → Bool
is_there flows f = is_some (flow_in flows f)

abbrev pub IsThere : Flows → FlowId → Type 0
IsThere flows f = IsSome (flow_in flows f)

-- the connection that it goes to, if any
abbrev pub goes_to : Flows → FlowId → Option ℕ
goes_to flows f = target_of flows.exchanges f

-- ---- what callers look at
-- an exchange is live: its request and its response are there
abbrev pub is_live_in : Flows → ℕ → Bool
is_live_in flows x = is_live flows.exchanges x

-- the last moment that was told, in ms
abbrev pub time_of : Flows → ℕ
time_of flows = flows.exchanges.time

-- how many octets its receive buffer holds, 0 where it isn't there
abbrev pub left_in : Flows → FlowId → ℕ
left_in flows f = option_map_or (λ flow. length flow.recv) (flow_in flows f) 0

-- the same exchanges are live, and they go where they went
pub record KeepsLive (old new : Flows) : Type 0 where
  pub live : (x : ℕ) → is_live_in new x ≡ is_live_in old x
  pub there : (f : FlowId) → is_there new f ≡ is_there old f
  pub goes : (f : FlowId) → goes_to new f ≡ goes_to old f

-- the receive buffers hold as much as they did
pub record KeepsLeft (old new : Flows) : Type 0 where
  pub left : (f : FlowId) → left_in new f ≡ left_in old f

-- that of one flow holds n octets now
pub record ChangesLeft (f : FlowId) (n : ℕ) (old new : Flows) : Type 0 where
  pub left : (g : FlowId) → left_in new g ≡ (if same_flow f g then n else left_in old g)

-- ---- what a flow watches
-- The buffers that hold a flow back while they are above, in the order of its way: its Meters, its send buffer, and the
-- write buffer of the connection that it goes to, if any. It watches them in this order.
abbrev pub watches_of : Option ℕ → Flow → List BufferId
watches_of to flow = map (λ s. s.buffer) (sources to flow)

abbrev pub watches_in : Flows → FlowId → List BufferId
watches_in flows f = option_map_or (watches_of (goes_to flows f)) (flow_in flows f) []
