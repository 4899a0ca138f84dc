-- An exchange: a request flow, and in a wire session a response flow, between two connections.
use Rattle.exchange_core.specs.Flow.{Flow, IsSound as IsSoundFlow, held_by, meters_hold}
use Rattle.exchange_core.specs.Message.{empty_message}
use Rattle.exchange_core.specs.declared.exchange.Ends.{Ends}
use Rattle.exchange_core.specs.declared.exchange.Exchange.{Exchange}
use Rattle.exchange_core.specs.declared.start.StartSpec.{StartSpec}
use Rattle.filter_chain.specs.Chain.{empty_chain}
use Rattle.filter_chain.specs.Effects.{ticked}
use Rattle.flow_rules.specs.declared.ids.FlowId.{FlowId}
use Rattle.proxy_config.specs.declared.config.Config.{Config}
use Rattle.proxy_config.specs.declared.routes.Filter.{Filter}
use Rattle.proxy_config.specs.declared.routes.Route.{Route}
use Rattle.std.specs.Option.{option_and_then, option_map_or}
use Rattle.std.specs.Prelude.{Bool, IfSome, List, None, Option, Some, [], false, if◌then◌else◌, nat_lt, option_map, slice_get, true, ℕ, ◌+◌, ◌||◌, ◌≡◌, ◌≤◌}

-- ---- its flows
abbrev pub flow_id : ℕ → Bool → FlowId
flow_id x back = record { exchange = x; back = back }

abbrev pub flow_in : Bool → Exchange → Option Flow
flow_in false exchange = Some exchange.request
flow_in true exchange = exchange.response

-- the exchange of which one flow is what f makes of it
abbrev pub flow_changed : (Flow → Flow) → Bool → Exchange → Exchange
flow_changed f false exchange = record exchange { request = f exchange.request }
flow_changed f true exchange = record exchange { response = option_map f exchange.response }

-- the exchange with this flow
abbrev pub with_flow : Bool → Flow → Exchange → Exchange
with_flow back flow exchange = flow_changed (λ old. flow) back exchange

-- the connection that a flow goes to, if any
abbrev pub goes_to : Bool → Exchange → Option ℕ
goes_to false exchange = exchange.to_conn
goes_to true exchange = Some exchange.from_conn

-- ---- what is seen of it
-- which ends are framed
abbrev pub ends_of : Exchange → Ends
ends_of exchange = record {
  request = exchange.request.message.end_framed;
  response = option_map_or (λ flow. flow.message.end_framed) exchange.response false;
}

-- how many octets lie in the places of both flows
abbrev pub held_in : Exchange → ℕ
held_in exchange = held_by exchange.request + option_map_or held_by exchange.response 0

-- some Meter of a flow holds octets
abbrev pub is_metered : Exchange → Bool
is_metered exchange = meters_hold exchange.request || option_map_or meters_hold exchange.response false

-- ---- its start
-- the filters of one side of a route row, none where there is no row
abbrev pub side_filters : Bool → Route → List Filter
side_filters false route = route.request
side_filters true route = route.response

abbrev pub filters_of : (Route → List Filter) → Option ℕ → Config → List Filter
filters_of side row config = option_map_or side (option_and_then (slice_get config.routes) row) []

abbrev pub begun_flow : FlowId → List Filter → StartSpec → ℕ → Flow
begun_flow f filters spec multiple = record {
  window = spec.recv;
  recv = [];
  chain = empty_chain f filters spec.send spec.now spec.quantum;
  message = empty_message;
  multiple = multiple;
}

-- in a plain session there is no response, and nothing overflows
abbrev pub multiple_of : StartSpec → Config → ℕ
multiple_of spec config = if spec.plain then 0 else config.limits.overflow_multiple

abbrev pub begun_response : ℕ → StartSpec → Config → Option Flow
begun_response x spec config =
    if spec.plain then None
    else Some (begun_flow (flow_id x true) (filters_of (side_filters true) spec.row config) spec config.limits.overflow_multiple)

-- with empty flows through the filters of its row
abbrev pub begun : ℕ → StartSpec → Config → Exchange
begun x spec config = record {
  from_conn = spec.from_conn;
  to_conn = spec.to_conn;
  request = begun_flow (flow_id x false) (filters_of (side_filters false) spec.row config) spec (multiple_of spec config);
  response = begun_response x spec config;
}

-- the flow with its Meters at this moment, where that is later than the last one that it was told of
abbrev pub at_moment : ℕ → Flow → Flow
at_moment now flow = record flow { chain = if nat_lt flow.chain.time now then ticked flow.chain now else flow.chain }

abbrev pub seen_at : ℕ → Exchange → Exchange
seen_at now exchange = record exchange {
  request = at_moment now exchange.request;
  response = option_map (at_moment now) exchange.response;
}

-- ---- what is true of it at all times
-- the flow is its own, and was told of no moment after this one
pub record IsFlowOf (x : ℕ) (side : Bool) (time : ℕ) (flow : Flow) : Type 0 where
  pub sound : IsSoundFlow flow
  pub own : flow.chain.flow ≡ flow_id x side
  pub told : flow.chain.time ≤ time

pub record IsSoundExchange (x time : ℕ) (exchange : Exchange) : Type 0 where
  pub request_is : IsFlowOf x false time exchange.request
  pub response_is : IfSome exchange.response (IsFlowOf x true time)
