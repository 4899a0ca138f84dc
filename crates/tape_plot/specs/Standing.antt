-- What the lanes of a tape stand for, buffer by buffer.
use Rattle.flow_rules.specs.declared.ids.FlowId.{FlowId}
use Rattle.std.specs.BTreeMap.{get}
use Rattle.std.specs.Ordering.{nat_cmp}
use Rattle.std.specs.Prelude.{Bool, None, Option, Some, if◌then◌else◌, length, ℕ, ◌≡◌}
use Rattle.tape_laws.specs.History.{History, NoMark}
use Rattle.tape_plot.specs.Flows.{lane_at, lanes_of}
use Rattle.tape_plot.specs.Lanes.{Drawn, LaneIs, drawn_of, fresh}
use Rattle.tape_plot.specs.Levels.{at, places, shown_count, written}
use Rattle.tape_plot.specs.declared.connection.Connection.{Connection}
use Rattle.tape_plot.specs.declared.exchange.Exchange.{Exchange}
use Rattle.tape_plot.specs.declared.flow.Flow.{Flow}
use Rattle.tape_plot.specs.declared.levels.Levels.{Levels}

-- the response of an exchange, or its request
abbrev pub flow_of : Exchange → Bool → Flow
flow_of e back = if back then e.response else e.request

-- the lane of a place of a flow, of its read-disable count, and of a write buffer, which is fresh where nothing was told of it
abbrev pub place_lane : Option Exchange → Bool → ℕ → Drawn
place_lane None back p = fresh
place_lane (Some e) back p = lane_at (lanes_of (flow_of e back).places.items) p

abbrev pub count_lane : Option Exchange → Bool → Drawn
count_lane None back = fresh
count_lane (Some e) back = drawn_of (flow_of e back).count

abbrev pub write_lane : Option Connection → Drawn
write_lane None = fresh
write_lane (Some k) = drawn_of k.write.lane

-- how many places a flow has
abbrev pub places_in : Option Exchange → Bool → ℕ
places_in None back = 0
places_in (Some e) back = length (flow_of e back).places.items

-- Each lane stands for what its buffer holds, or for its flow's read-disable count, after a history: there is a lane for whatever holds
-- an octet, and each has its columns. A flow has as many lanes as places that octets came to.
pub record LanesStand (levels : Levels) (first : ℕ) (h : History NoMark) : Type 0 where
  pub placed : (f : FlowId) (p : ℕ) → LaneIs (place_lane (get nat_cmp levels.exchanges.items f.exchange) f.back p) (λ v. at (places f v) p) first h
  pub many : (f : FlowId) → places_in (get nat_cmp levels.exchanges.items f.exchange) f.back ≡ length (places f h)
  pub counted : (f : FlowId) → LaneIs (count_lane (get nat_cmp levels.exchanges.items f.exchange) f.back) (shown_count f) first h
  pub wrote : (c : ℕ) → LaneIs (write_lane (get nat_cmp levels.connections.items c)) (written c) first h
