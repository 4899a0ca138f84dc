-- The limits under which a flow began, and what its buffers and the write buffers hold at most by them.
use Rattle.exchange_core.specs.Flow.{Flow}
use Rattle.filter_chain.specs.Place.{Place}
use Rattle.filter_chain.specs.declared.stage.StageKind.{StageKind as PlaceKind}
use Rattle.filter_chain.specs.declared.stage.StageKind.TheVariants as kind
use Rattle.flow_rules.specs.declared.ids.FlowId.{FlowId}
use Rattle.proxy_config.specs.declared.config.LimitKeys.{LimitKeys}
use Rattle.std.specs.Prelude.{List, [], length, map, ℕ, ◌++◌, ◌+◌, ◌<◌, ◌∷◌, ◌≡◌, ◌≤◌}
use Rattle.tape_laws.specs.Bounds.{stage_bound}
use Rattle.tape_laws.specs.Units.{Hold, Meter, StageKind}
use Rattle.tape_laws.specs.World.{last_place, out, place}
use Rattle.wire_state.specs.Sound.{unit_of}
use Rattle.wire_state.specs.Ways.{WayHistory, stages_passed, world_setup}

-- what a place keeps: its kind and its limit
abbrev pub shape_of : Place → PlaceKind × ℕ
shape_of x = (x.kind, x.limit)

abbrev pub stage_shape : StageKind → PlaceKind × ℕ
stage_shape (Hold limit) = (kind.Hold, limit)
stage_shape (Meter limit rate) = (kind.Meter rate, limit)

-- its window, its quantum and its places are those that the limits give, with these stages
pub record HasShape (l : LimitKeys) (stages : List StageKind) (flow : Flow) : Type 0 where
  pub window : flow.window ≡ l.stream_window
  pub quantum : flow.chain.quantum ≡ l.quantum
  pub places : map shape_of flow.chain.places ≡ map stage_shape stages ++ (kind.Send, l.send_buffer) ∷ []

-- from place p on each stage holds at most its bound
abbrev pub StagesFit : LimitKeys → FlowId → ℕ → List StageKind → WayHistory → Type 0
StagesFit l f p [] h = Unit {0}
StagesFit l f p (s ∷ ss) h = (length (place world_setup f p h) ≤ stage_bound l.quantum s) × StagesFit l f (p + 1) ss h

-- The receive buffer holds at most the window, and each stage and the send buffer at most its bound. A limit of 0 bounds nothing.
pub record FlowFits (l : LimitKeys) (f : FlowId) (h : WayHistory) : Type 0 where
  pub window : length (place world_setup f 0 h) ≤ l.stream_window
  pub stages : StagesFit l f 1 (stages_passed f h) h
  pub send : 0 < l.send_buffer → length (place world_setup f (last_place world_setup f h) h) ≤ l.send_buffer + l.quantum

-- what waits for a socket is at most the limit of a write buffer, and one unit
abbrev pub OutFits : LimitKeys → List ℕ → Type 0
OutFits l octets = 0 < l.write_buffer → length octets ≤ l.write_buffer + unit_of l

-- every buffer holds at most its bound
pub record Fits (l : LimitKeys) (h : WayHistory) : Type 0 where
  pub flows : (f : FlowId) → FlowFits l f h
  pub outs : (c : ℕ) → OutFits l (out world_setup c h)
