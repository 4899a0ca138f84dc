-- A flow at a moment, as far as it decides what goes on: octets are counted, not kept. Its places are its receive buffer,
-- 0, its stages from 1, and its send buffer, the last.
use Rattle.flow_rules.specs.declared.ids.BufferId.{BufferId}
use Rattle.flow_rules.specs.Kinds.{Kind, all_empty}
use Rattle.flow_rules.specs.Sources.{SourceAt}
use Rattle.std.specs.Prelude.{Bool, List, None, Option, slice_get, suc, zero, ℕ, ◌&&◌, ◌==◌}

pub record FlowState : Type 0 where
  -- what one move carries at most, and what a DATA frame carries at most, by the peer and the send windows
  pub quantum : ℕ
  pub frame : ℕ
  -- the read-disable count
  pub count : ℕ
  -- the number of the send buffer, and what the places from 1 on do
  pub last : ℕ
  pub kinds : List Kind
  -- by place: how many octets it holds, its limit, 0 for none, and how many octets a Meter may let go now
  pub len : ℕ → ℕ
  pub limit : ℕ → ℕ
  pub tokens : ℕ → ℕ
  -- the buffers that pause it while they are above, and which buffers are
  pub sources : List SourceAt
  pub is_above : BufferId → Bool
  -- whether its end came, and whether that was framed
  pub ended : Bool
  pub end_framed : Bool
  -- whether a head waits to be framed and came with the end, and whether trailers wait
  pub head_waits : Bool
  pub head_ends : Bool
  pub trailers_wait : Bool

-- what a place behind the receive buffer does
abbrev pub kind_at : FlowState → ℕ → Option Kind
kind_at flow zero = None
kind_at flow (suc i) = slice_get flow.kinds i

-- how many octets the send buffer holds
abbrev pub send_len : FlowState → ℕ
send_len flow = flow.len flow.last

-- every place before p is empty
abbrev pub empty_before : FlowState → ℕ → Bool
empty_before flow p = all_empty (λ q. flow.len q == 0) p

-- the body has come whole to place p
abbrev pub is_whole_at : FlowState → ℕ → Bool
is_whole_at flow p = flow.ended && empty_before flow p
