-- What holds of the exchanges and the gates at all times, between any two calls.
use Rattle.exchange_core.specs.Exchanges.{IsSound as AreSoundExchanges, exchange_at}
use Rattle.exchange_core.specs.Flow.{Flow, held_by}
use Rattle.exchange_core.specs.Message.{head_came}
use Rattle.exchange_core.specs.declared.exchange.Exchange.{Exchange}
use Rattle.filter_chain.specs.Chain.{place_at}
use Rattle.filter_chain.specs.Place.{Place, beyond, is_source, kind_of}
use Rattle.flow_gate.specs.Board.{Board, IsSound as AreSoundGates, is_known, is_marked, is_open, pending_on, watched_by}
use Rattle.flow_gate.specs.Ids.{is_own}
use Rattle.flow_rules.specs.declared.ids.BufferId.{BufferId}
use Rattle.flow_rules.specs.declared.ids.FlowId.{FlowId}
use Rattle.flow_rules.specs.Kinds.{Hold, Kind, Meter, Send}
use Rattle.std.specs.List.{AllByRecursion}
use Rattle.std.specs.List.Sorted.{IsStrictlySortedBy}
use Rattle.std.specs.Ordering.{nat_cmp}
use Rattle.std.specs.declared.cmp.Ordering.{Ordering}
use Rattle.std.specs.Prelude.{Bool, IfSome, IsSome, List, Option, Some, [], false, if◌then◌else◌, length, true, ℕ, ◌*◌, ◌+◌, ◌<◌, ◌≡◌, ◌≤◌}
use Rattle.wire_flows.specs.Flows.{Flows, flow_in, flows_of, is_there, watches_in}
use Rattle.wire_flows.specs.Writes.{watchers_on}
use Rattle.wire_flows.specs.declared.flows.WireFlows.TheInside.{Inside}
use Rattle.flow_rules.specs.declared.ids.BufferId.TheVariants as buffer

-- ---- what a flow holds
-- A place with a limit holds no more than that and what one move may bring beyond it: a Hold nothing, another a quantum.
abbrev pub IsWithin : ℕ → Place → Type 0
IsWithin quantum place = 0 < place.limit → length place.octets ≤ place.limit + beyond place.kind quantum

-- the receive buffer holds no more than its window
pub record IsBounded (flow : Flow) : Type 0 where
  pub recv : length flow.recv ≤ flow.window
  pub places : AllByRecursion (IsWithin flow.chain.quantum) flow.chain.places

-- and nothing of a body comes before the head
pub record IsWireFlow (flow : Flow) : Type 0 where
  pub bounded : IsBounded flow
  pub headed : 0 < held_by flow → head_came flow.message ≡ true

-- there is a request and a response
pub record IsWhole (exchange : Exchange) : Type 0 where
  pub request_is : IsWireFlow exchange.request
  pub response_is : IfSome exchange.response IsWireFlow
  pub both : IsSome exchange.response

-- ---- what the gates know of it
-- the buffer of a place behind the receive buffer
abbrev pub buffer_of : FlowId → ℕ → Kind → BufferId
buffer_of f p Hold = buffer.Stage f p
buffer_of f p Meter = buffer.Stage f p
buffer_of f p Send = buffer.Send f

-- its Meters and its send buffer are marked exactly where they are above
pub record MarksAre (board : Board) (flow : Flow) : Type 0 where
  pub each : (p : ℕ) (place : Place) → place_at flow.chain.places p ≡ Some place → is_source place.kind ≡ true
      → is_marked board (buffer_of flow.chain.flow p (kind_of place.kind)) ≡ place.above

-- the order in which flows begin: by exchange, and the request before the response
abbrev pub turn_of : FlowId → ℕ
turn_of f = 2 * f.exchange + (if f.back then 1 else 0)

abbrev pub turn_cmp : FlowId → FlowId → Ordering
turn_cmp f g = nat_cmp (turn_of f) (turn_of g)

abbrev pub AreInOrder : List FlowId → Type 0
AreInOrder flows = IsStrictlySortedBy turn_cmp flows

-- ---- all of it
pub record IsSound (flows : Flows) : Type 0 where
  pub exchanges : AreSoundExchanges flows.exchanges
  pub gates : AreSoundGates flows.gates
  pub each : (x : ℕ) → IfSome (exchange_at flows.exchanges x) IsWhole
  -- the gates know the live flows and no others, and each watches its buffers in the order of its way
  pub there : (f : FlowId) → is_open flows.gates f ≡ is_there flows f
  pub watched : (f : FlowId) → watched_by flows.gates f ≡ watches_in flows f
  -- a stage or send buffer is known only while its flow lives, and marked where it is above
  pub own : (f : FlowId) (b : BufferId) → is_own f b ≡ true → is_known flows.gates b ≡ true → is_there flows f ≡ true
  pub marks : (f : FlowId) → IfSome (flow_in flows f) (MarksAre flows.gates)
  -- of what its send buffer let go a flow is told at once
  pub told : (f : FlowId) → pending_on flows.gates (buffer.Send f) ≡ []
  -- the flows that go to a connection watch its write buffer in the order in which they began
  pub order : (c : ℕ) → AreInOrder (watchers_on c flows)

abbrev pub IsKept : Inside → Type 0
IsKept c = IsSound (flows_of c)

-- no flow goes to the connection
abbrev pub IsUnused : ℕ → Flows → Type 0
IsUnused c flows = watchers_on c flows ≡ []

-- no exchange and no connection
pub record IsEmpty (flows : Flows) : Type 0 where
  pub live : flows.exchanges.live ≡ []
  pub doomed : flows.exchanges.doomed ≡ []
  pub last : flows.exchanges.last ≡ 0
  pub time : flows.exchanges.time ≡ 0
  pub writes : (c : ℕ) → is_known flows.gates (buffer.Write c) ≡ false

-- every flow that is there is bounded
pub record AreBounded (flows : Flows) : Type 0 where
  pub each : (f : FlowId) → IfSome (flow_in flows f) IsBounded
