-- The write buffers of the connections, as far as they hold flows back.
use Rattle.exchange_core.specs.Exchange.{flow_id}
use Rattle.flow_gate.specs.Board.{is_known, is_marked, pending_on, watchers_of}
use Rattle.flow_gate.specs.Changes.{without}
use Rattle.flow_gate.specs.Ids.{same_buffer}
use Rattle.flow_rules.specs.declared.ids.BufferId.{BufferId}
use Rattle.flow_rules.specs.declared.ids.FlowId.{FlowId}
use Rattle.std.specs.Prelude.{Bool, List, None, Option, Some, [], drop, false, if◌then◌else◌, length, option_map, true, ℕ, ◌&&◌, ◌==◌, ◌||◌, ◌≡◌}
use Rattle.wire_flows.specs.Flows.{Flows, KeepsLeft, KeepsLive, time_of}
use Rattle.flow_rules.specs.declared.ids.BufferId.TheVariants as buffer

-- whether it is above, and the flows that are still to be told that it drained, in order
pub record Write : Type 0 where
  pub above : Bool
  pub lows : List FlowId

-- the write buffer of a connection, if it is known
unfoldable pub write_at : ℕ → Flows → Option Write
write_at c flows =
    if is_known flows.gates (buffer.Write c)
    then Some (record { above = is_marked flows.gates (buffer.Write c); lows = pending_on flows.gates (buffer.Write c) })
    else None

abbrev pub is_above : ℕ → Flows → Bool
is_above c flows = is_marked flows.gates (buffer.Write c)

abbrev pub lows_on : ℕ → Flows → List FlowId
lows_on c flows = pending_on flows.gates (buffer.Write c)

-- the flows that go to the connection, in the order in which they began
abbrev pub watchers_on : ℕ → Flows → List FlowId
watchers_on c flows = watchers_of flows.gates (buffer.Write c)

-- the write buffers are as they were
pub record KeepsWrites (old new : Flows) : Type 0 where
  pub writes : (c : ℕ) → write_at c new ≡ write_at c old

-- one of them is this now, or is no longer known; the others are as they were
pub record ChangesWrite (c : ℕ) (write : Option Write) (old new : Flows) : Type 0 where
  pub writes : (d : ℕ) → write_at d new ≡ (if c == d then write else write_at d old)

-- an exchange is changed, and nothing else that callers look at
pub record Keeps (old new : Flows) : Type 0 where
  pub live : KeepsLive old new
  pub left : KeepsLeft old new
  pub time : time_of new ≡ time_of old
  pub writes : KeepsWrites old new

-- it begins, not above
abbrev pub new_write : Write
new_write = record { above = false; lows = [] }

-- it rose, or it didn't
abbrev pub raised : Bool → Write → Write
raised rose write = record write { above = write.above || rose }

-- where it was above and nobody is still to be told it drained, and each flow that goes to it is to be told
abbrev pub lowered : List FlowId → Write → Write
lowered watchers write = if write.above && (length write.lows == 0) then record { above = false; lows = watchers } else write

-- the first that is to be told is told
abbrev pub told : Write → Write
told write = record write { lows = drop 1 write.lows }

-- an exchange is gone, and nothing is to be told to its flows
abbrev pub left_by : ℕ → Write → Write
left_by x write = record write { lows = without (flow_id x true) (without (flow_id x false) write.lows) }

pub record LeavesWrites (x : ℕ) (old new : Flows) : Type 0 where
  pub writes : (c : ℕ) → write_at c new ≡ option_map (left_by x) (write_at c old)

-- ---- who is still to be told of a drain
-- of each buffer the same flows are
pub record KeepsLows (old new : Flows) : Type 0 where
  pub lows : (b : BufferId) → pending_on new.gates b ≡ pending_on old.gates b

-- of each other buffer the same flows are
pub record KeepsOtherLows (b : BufferId) (old new : Flows) : Type 0 where
  pub lows : (c : BufferId) → same_buffer b c ≡ false → pending_on new.gates c ≡ pending_on old.gates c

-- an exchange is gone, and its flows are no longer
pub record LeavesLows (x : ℕ) (old new : Flows) : Type 0 where
  pub lows : (b : BufferId) → pending_on new.gates b ≡ without (flow_id x true) (without (flow_id x false) (pending_on old.gates b))
