-- What a step of a flow answers, and whom it leaves untold.
use Rattle.exchange_core.specs.Flow.{Flow, last_place}
use Rattle.exchange_core.specs.declared.step.Piece.{Piece}
use Rattle.exchange_core.specs.declared.step.Step.{Step}
use Rattle.exchange_core.specs.declared.step.Step.TheVariants as step
use Rattle.flow_gate.specs.Board.{Board, is_known, is_marked, pending_on, watchers_of}
use Rattle.flow_gate.specs.Ids.{same_buffer}
use Rattle.flow_rules.specs.declared.ids.BufferId.{BufferId}
use Rattle.flow_rules.specs.declared.ids.FlowId.{FlowId}
use Rattle.flow_rules.specs.Pausing.{CanPause}
use Rattle.flow_rules.specs.declared.unit.Unit.{Unit as NextUnit}
use Rattle.flow_rules.specs.declared.unit.Unit.TheVariants.{Body}
use Rattle.std.specs.Option.{option_map_or}
use Rattle.std.specs.Prelude.{Bool, IfSome, List, None, Option, Some, [], false, if◌then◌else◌, length, true, ℕ, ◌+◌, ◌-◌, ◌<◌, ◌==◌, ◌^◌, ◌∷◌, ◌≡◌, ◌≤◌}
use Rattle.wire_flows.specs.Begins.{Crosses, lows_left}
use Rattle.wire_flows.specs.declared.framing.Framed.{Framed}
use Rattle.wire_flows.specs.declared.moving.Outcome.{Outcome}
use Rattle.wire_flows.specs.declared.moving.Outcome.TheVariants as outcome
use Rattle.wm_buffer.specs.declared.buffer.Shifted.{Shifted}
use Rattle.wm_buffer.specs.declared.watermark.Crossed.{Crossed}
use Rattle.flow_rules.specs.declared.ids.BufferId.TheVariants as buffer
use Rattle.wm_buffer.specs.declared.watermark.Crossed.TheVariants as crossed

abbrev pub is_high : Crossed → Bool
is_high crossed.High = true
is_high c = false

abbrev pub is_low : Crossed → Bool
is_low crossed.Low = true
is_low c = false

-- the buffer of a place of a flow: the last one is the send buffer
abbrev pub buffer_at : FlowId → Flow → ℕ → BufferId
buffer_at f flow p = if p == last_place flow then buffer.Send f else buffer.Stage f p

-- the answer, by the step that the flow made
abbrev pub outcome_of : FlowId → Flow → Step → Outcome
outcome_of f flow step.Still = outcome.Still
outcome_of f flow step.TooLarge = outcome.TooLarge
outcome_of f flow (step.Moved p n shifted overflow) = outcome.Moved (record {
  place = p;
  n = n;
  rose = if is_high shifted.to then Some (buffer_at f flow (p + 1)) else None;
  drained = if is_low shifted.from then Some (buffer.Stage f p) else None;
  overflow = overflow;
})

-- how many octets a step took out of the receive buffer
abbrev pub left_by : Outcome → ℕ
left_by (outcome.Moved m) = if m.place == 0 then m.n else 0
left_by o = 0

-- octets moved, and a flow is paused and resumed only by buffers of its own
abbrev pub IsMove : FlowId → Outcome → Type 0
IsMove f (outcome.Moved m) = (0 < m.n) × IfSome m.rose (CanPause f) × IfSome m.drained (CanPause f)
IsMove f o = Unit {0}

-- A Meter that drained holds its flow back no more, since that is told at once. Where the move overflowed it isn't told: its low
-- stays until the doom.
abbrev pub untold_by : FlowId → Outcome → BufferId → List FlowId → List FlowId
untold_by f (outcome.Moved m) b lows =
    if option_map_or (same_buffer b) m.drained false then (if m.overflow then f ∷ [] else []) else lows
untold_by f o b lows = lows

-- ---- frames
-- a unit that is a DATA frame
abbrev pub piece_of : NextUnit → Option Piece
piece_of (Body n last) = Some (record { n = n; last = last })
piece_of unit = None

abbrev pub piece_framed : Framed → Piece
piece_framed framed = record { n = framed.n; last = framed.last }

-- ---- what the gates are told of a step
abbrev pub StepCrosses : FlowId → Flow → Step → Board → Board → Type 0
StepCrosses f flow (step.Moved p n shifted overflow) old new =
    Crosses (is_high shifted.to) (buffer_at f flow (p + 1)) (is_low shifted.from) (buffer.Stage f p) (lows_left overflow (watchers_of old (buffer.Stage f p))) old new
StepCrosses f flow s old new = new ≡ old

-- the next buffer is known and wasn't above where it rose, and the Meter was above where it drained
pub record MayCross (f : FlowId) (flow : Flow) (p : ℕ) (shifted : Shifted) (board : Board) : Type 0 where
  pub known : is_high shifted.to ≡ true → is_known board (buffer_at f flow (p + 1)) ≡ true
  pub low : is_high shifted.to ≡ true → is_marked board (buffer_at f flow (p + 1)) ≡ false
  pub high : is_low shifted.from ≡ true → is_marked board (buffer.Stage f p) ≡ true
  pub few : length (pending_on board (buffer.Stage f p)) ≤ 1
  pub small : p < 2 ^ 32 - 1

abbrev pub StepMayCross : FlowId → Flow → Step → Board → Type 0
StepMayCross f flow (step.Moved p n shifted overflow) board = MayCross f flow p shifted board
StepMayCross f flow s board = Unit {0}
