-- How much is still to do with the exchanges: each octet has its way ahead, each list and each end is still to be framed, each
-- exchange is still to be doomed, and some flows are still to be told that a write buffer drained.
use Rattle.exchange_core.specs.Exchange.{flow_id}
use Rattle.exchange_core.specs.Flow.{Flow}
use Rattle.exchange_core.specs.Message.{head_waits, trailers_wait}
use Rattle.exchange_core.specs.declared.exchange.Exchange.{Exchange}
use Rattle.exchange_core.specs.declared.message.Message.{Message}
use Rattle.filter_chain.specs.Place.{Place}
use Rattle.flow_gate.specs.Board.{times}
use Rattle.flow_rules.specs.declared.ids.FlowId.{FlowId}
use Rattle.std.specs.List.{sum_by}
use Rattle.std.specs.Option.{option_map_or}
use Rattle.std.specs.Prelude.{Bool, List, None, Option, Some, [], false, if◌then◌else◌, length, not, true, ℕ, ◌*◌, ◌+◌, ◌∷◌}
use Rattle.wire_flows.specs.Flows.{Flows, goes_to}
use Rattle.wire_flows.specs.Writes.{lows_on}
use Rattle.wire_flows.specs.declared.moving.Outcome.{Outcome}
use Rattle.wire_flows.specs.declared.moving.Outcome.TheVariants as outcome

-- an octet in the send buffer weighs 40, and 20 more for each place before it: at most 220, with the receive buffer before
-- eight stages
abbrev pub places_way : List Place → ℕ
places_way [] = 0
places_way (place ∷ behind) = (40 + 20 * length behind) * length place.octets + places_way behind

abbrev pub octets_way : Flow → ℕ
octets_way flow = (40 + 20 * length flow.chain.places) * length flow.recv + places_way flow.chain.places

-- a head that waits, trailers that do, and an end that isn't framed
abbrev pub forty_if : Bool → ℕ
forty_if b = if b then 40 else 0

abbrev pub message_way : Message → ℕ
message_way m = forty_if (head_waits m) + (forty_if (trailers_wait m) + forty_if (not m.end_framed))

abbrev pub flow_way : Flow → ℕ
flow_way flow = octets_way flow + message_way flow.message

-- of a live exchange, with its doom
abbrev pub way : Exchange → ℕ
way exchange = 64 + (flow_way exchange.request + option_map_or flow_way exchange.response 0)

-- the flows that are still to be told that the write buffer drained to which they go
abbrev pub low_of : Flows → FlowId → ℕ
low_of flows f = option_map_or (λ c. times f (lows_on c flows)) (goes_to flows f) 0

abbrev pub lows_of : Flows → ℕ → ℕ
lows_of flows x = low_of flows (flow_id x false) + low_of flows (flow_id x true)

abbrev pub all_of : Flows → ℕ → Exchange → ℕ
all_of flows x exchange = way exchange + 16 * lows_of flows x

-- all of it
unfoldable pub to_go : Flows → ℕ
to_go flows = sum_by (λ e. all_of flows e.0 e.1) flows.exchanges.live

-- what a step takes away, where it moved anything
abbrev pub taken_by : Outcome → ℕ
taken_by outcome.Still = 0
taken_by outcome.TooLarge = 0
taken_by (outcome.Moved m) = 20
