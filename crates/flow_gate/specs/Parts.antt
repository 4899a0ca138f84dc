-- The gates as they are kept: the books of each flow and the line of each buffer, and what is seen of them.
use Rattle.flow_gate.specs.Board.{Board, BufferState, FlowState, IsSound, times, times_of_buffer}
use Rattle.flow_gate.specs.Books.{Books}
use Rattle.flow_gate.specs.Ids.{same_buffer, same_flow}
use Rattle.flow_gate.specs.Line.{Line, Places, at_place, longer}
use Rattle.flow_gate.specs.Named.{Updates}
use Rattle.flow_rules.specs.declared.ids.BufferId.{BufferId}
use Rattle.flow_rules.specs.declared.ids.FlowId.{FlowId}
use Rattle.flow_gate.specs.declared.buffers.StageId.{StageId}
use Rattle.flow_gate.specs.declared.watcher.Watch.{Watch}
use Rattle.std.specs.List.{AllByRecursion}
use Rattle.std.specs.Map.{lookup, values_of}
use Rattle.std.specs.Option.{option_map_or}
use Rattle.std.specs.declared.ops.Bound.{Bound}
use Rattle.std.specs.declared.ops.Bound.TheVariants.{Excluded, Included}
use Rattle.std.specs.Prelude.{Bool, List, None, Option, Some, [], count_by, false, if◌then◌else◌, length, map, nat_lt, sum_by, true, ℕ, ◌+◌, ◌==◌, ◌∷◌, ◌≡◌, ◌≤◌, ◌^◌}
use Rattle.flow_rules.specs.declared.ids.BufferId.TheVariants as buffer

abbrev pub Flows : Type 0
Flows = List (FlowId × Books)

abbrev pub Buffers : Type 0
Buffers = List (BufferId × Line)

-- what a flow has, as its books, and the line of a buffer
abbrev pub flow_at : {X : Type 0} → List (FlowId × X) → FlowId → Option X
flow_at flows f = lookup (same_flow f) flows

abbrev pub buffer_at : Buffers → BufferId → Option Line
buffer_at buffers b = lookup (same_buffer b) buffers

-- ---- what is seen of them
abbrev pub watched_in : List Watch → List BufferId
watched_in = map (λ w. w.buffer)

-- whether a buffer is above, and who is still to be told that it drained
abbrev pub above_at : Buffers → BufferId → Bool
above_at buffers b = option_map_or (λ line. line.above) (buffer_at buffers b) false

abbrev pub pending_at : Buffers → BufferId → List FlowId
pending_at buffers b = option_map_or (λ line. values_of line.pending) (buffer_at buffers b) []

-- how often these buffers hold the flow back: each that is above, and each low of the flow that is pending
abbrev pub held : Buffers → FlowId → List BufferId → ℕ
held buffers f bs = count_by (above_at buffers) bs + sum_by (λ b. times f (pending_at buffers b)) bs

abbrev pub flow_state : Buffers → FlowId → Books → FlowState
flow_state buffers f books = record { count = held buffers f (watched_in books.watches); watched = watched_in books.watches }

abbrev pub buffer_state : Line → BufferState
buffer_state line = record { above = line.above; watchers = values_of line.watchers; pending = values_of line.pending }

abbrev pub board_of : Flows → Buffers → Board
board_of flows buffers = record {
  flows = map (λ e. (e.0, flow_state buffers e.0 e.1)) flows;
  buffers = map (λ e. (e.0, buffer_state e.1)) buffers;
}

-- ---- what holds of them
abbrev pub watches_at : Flows → FlowId → List Watch
watches_at flows f = option_map_or (λ books. books.watches) (flow_at flows f) []

abbrev pub line_at : Buffers → BufferId → Places
line_at buffers b = option_map_or (λ line. line.watchers) (buffer_at buffers b) []

-- the flow stands in each line where its watches say
abbrev pub Stands : Buffers → FlowId → List Watch → Type 0
Stands buffers f = AllByRecursion (λ w. at_place w.place (line_at buffers w.buffer) ≡ Some f)

pub record AreGates (flows : Flows) (buffers : Buffers) : Type 0 where
  pub sound : IsSound (board_of flows buffers)
  pub placed : (f : FlowId) → Stands buffers f (watches_at flows f)
  pub few : (f : FlowId) → length (watches_at flows f) ≤ 2 ^ 62

-- ---- steps
-- a line that nobody stands in goes
abbrev pub kept : Option Line → Option Line
kept None = None
kept (Some line) = if length line.watchers == 0 then None else Some line

abbrev pub is_stage : FlowId → BufferId → Bool
is_stage f (buffer.Stage g i) = same_flow f g
is_stage f other = false

-- the stage comes after another, or is any where there is no other
abbrev pub is_after : Option ℕ → ℕ → Bool
is_after None stage = true
is_after (Some other) stage = nat_lt other stage

-- where the stages of a flow begin, or those after one
abbrev pub bound_after : FlowId → Option ℕ → Bound StageId
bound_after f None = Included (record { flow = f; stage = 0 })
bound_after f (Some stage) = Excluded (record { flow = f; stage = stage })

-- the number of a stage of the flow
abbrev pub stage_of : FlowId → StageId → Option ℕ
stage_of f s = if same_flow f s.flow then Some s.stage else None

-- these are the flow's watches, and no line has it elsewhere
pub record AreWatches (f : FlowId) (watches : List Watch) (buffers : Buffers) : Type 0 where
  pub placed : Stands buffers f watches
  pub paired : (b : BufferId) → times f (values_of (line_at buffers b)) ≡ times_of_buffer b (watched_in watches)
  pub once : (b : BufferId) → times f (values_of (line_at buffers b)) ≤ 1
  pub pending : (b : BufferId) →
      times f (values_of (option_map_or (λ line. line.pending) (buffer_at buffers b) [])) ≤ times f (values_of (line_at buffers b))

-- the flow stands there, once
pub record StandsIn (f : FlowId) (watch : Watch) (line : Line) (buffers : Buffers) : Type 0 where
  pub found : buffer_at buffers watch.buffer ≡ Some line
  pub here : at_place watch.place line.watchers ≡ Some f
  pub once : times f (values_of line.watchers) ≤ 1

-- the flow doesn't stand in the line, and isn't to be told there
pub record IsApart (f : FlowId) (line : Line) : Type 0 where
  pub watchers : times f (values_of line.watchers) ≡ 0
  pub pending : times f (values_of line.pending) ≡ 0

-- the flow is there, which stands at a place of its send buffer's line, and now behind all others in that of a write buffer too
pub record Joins (f : FlowId) (own conn : ℕ) (above : Bool) (flows flows' : Flows) (buffers buffers' : Buffers) : Type 0 where
  pub place : ℕ
  pub line : Line
  pub books : Books
  pub found : buffer_at buffers (buffer.Write conn) ≡ Some line
  pub free : at_place place line.watchers ≡ None
  pub watches : books.watches ≡ (record { buffer = buffer.Send f; place = own }) ∷ (record { buffer = buffer.Write conn; place = place }) ∷ []
  pub there : Updates same_flow f (Some books) flows flows'
  pub stands : Updates same_buffer (buffer.Write conn) (Some (longer place f line)) buffers buffers'
  pub is_above : above ≡ line.above
