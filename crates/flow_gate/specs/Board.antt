-- What is seen of the gates, and what holds of them at all times.
use Rattle.flow_gate.specs.Ids.{same_buffer, same_flow}
use Rattle.flow_rules.specs.declared.ids.BufferId.{BufferId}
use Rattle.flow_rules.specs.declared.ids.FlowId.{FlowId}
use Rattle.std.specs.Map.{lookup}
use Rattle.std.specs.Option.{option_map_or}
use Rattle.std.specs.Prelude.{Bool, List, [], count_by, false, is_some, sum_by, ℕ, ◌+◌, ◌≡◌, ◌≤◌}

-- a flow: how often it is held back, and the buffers that it watches, in the order in which it began to
pub record FlowState : Type 0 where
  pub count : ℕ
  pub watched : List BufferId

-- a buffer: whether it is above, the flows that watch it, in the order in which they began to,
-- and those of them that are still to be told that it drained
pub record BufferState : Type 0 where
  pub above : Bool
  pub watchers : List FlowId
  pub pending : List FlowId

-- the flows that are there and the buffers that are known
pub record Board : Type 0 where
  pub flows : List (FlowId × FlowState)
  pub buffers : List (BufferId × BufferState)

-- ---- of a flow
-- the flow is there
unfoldable pub is_open : Board → FlowId → Bool
is_open board f = is_some (lookup (same_flow f) board.flows)

-- how often it is held back, 0 where it isn't there
unfoldable pub count : Board → FlowId → ℕ
count board f = option_map_or (λ s. s.count) (lookup (same_flow f) board.flows) 0

-- the buffers that it watches
unfoldable pub watched_by : Board → FlowId → List BufferId
watched_by board f = option_map_or (λ s. s.watched) (lookup (same_flow f) board.flows) []

-- ---- of a buffer
-- the buffer is known
unfoldable pub is_known : Board → BufferId → Bool
is_known board b = is_some (lookup (same_buffer b) board.buffers)

-- it is above
unfoldable pub is_marked : Board → BufferId → Bool
is_marked board b = option_map_or (λ s. s.above) (lookup (same_buffer b) board.buffers) false

-- the flows that watch it
unfoldable pub watchers_of : Board → BufferId → List FlowId
watchers_of board b = option_map_or (λ s. s.watchers) (lookup (same_buffer b) board.buffers) []

-- the flows that are still to be told that it drained
unfoldable pub pending_on : Board → BufferId → List FlowId
pending_on board b = option_map_or (λ s. s.pending) (lookup (same_buffer b) board.buffers) []

-- ---- of both
-- how often the flow is among these flows, or the buffer among these buffers
abbrev pub times : FlowId → List FlowId → ℕ
times f = count_by (same_flow f)

abbrev pub times_of_buffer : BufferId → List BufferId → ℕ
times_of_buffer b = count_by (same_buffer b)

-- how many lows of the flow are pending
abbrev pub lows : Board → FlowId → ℕ
lows board f = sum_by (λ b. times f (pending_on board b)) (watched_by board f)

pub record IsSound (board : Board) : Type 0 where
  -- a flow's count is the number of marked buffers that it watches, and of its pending lows
  pub counted : (f : FlowId) → count board f ≡ count_by (is_marked board) (watched_by board f) + lows board f
  -- the flows that watch a buffer are those among its watchers
  pub paired : (f : FlowId) (b : BufferId) → times f (watchers_of board b) ≡ times_of_buffer b (watched_by board f)
  -- each is there once
  pub once : (f : FlowId) (b : BufferId) → times f (watchers_of board b) ≤ 1
  -- only a watcher has a pending low, and no more than one
  pub pending : (f : FlowId) (b : BufferId) → times f (pending_on board b) ≤ times f (watchers_of board b)
