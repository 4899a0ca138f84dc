-- What of a flow is framed next: its head, then its body, then its trailers (RFC 9113 section 8.1).
use Rattle.flow_rules.specs.Kinds.{holds_filled}
use Rattle.flow_rules.specs.State.{FlowState, empty_before, is_whole_at, send_len}
use Rattle.flow_rules.specs.declared.unit.Unit.{Unit as FlowUnit}
use Rattle.flow_rules.specs.declared.unit.Unit.TheVariants.{Body, Head, Nothing, Trailers}
use Rattle.std.specs.Prelude.{Bool, false, if◌then◌else◌, min, nat_lt, not, true, ℕ, ◌&&◌, ◌==◌, ◌||◌}

-- nothing of the body is left but the first n octets of the send buffer
abbrev pub is_last : FlowState → ℕ → Bool
is_last flow n = empty_before flow flow.last && (send_len flow == n)

-- the end came, and these n octets of the send buffer are the last
abbrev pub ends_after : FlowState → ℕ → Bool
ends_after flow n = flow.ended && is_last flow n

-- a DATA frame of n octets carries END_STREAM: nothing is behind it, and no trailers wait
abbrev pub carries_end : FlowState → ℕ → Bool
carries_end flow n = ends_after flow n && not flow.trailers_wait

-- a head waits behind a Hold until the body has come whole to it
abbrev pub head_may_go : FlowState → Bool
head_may_go flow = holds_filled (is_whole_at flow) 1 flow.kinds

-- what a DATA frame carries now: at most one move, and what the peer and the send windows let it
abbrev pub carried : FlowState → ℕ
carried flow = min (min flow.quantum flow.frame) (send_len flow)

-- the head that waits, where it may go
abbrev pub next_head : FlowState → FlowUnit
next_head flow = if head_may_go flow then Head flow.head_ends else Nothing

-- the flow's next unit; an empty frame carries the end where nothing else is left
abbrev pub next_unit : FlowState → FlowUnit
next_unit flow =
    if flow.head_waits then next_head flow
    else if nat_lt 0 (carried flow) then Body (carried flow) (carries_end flow (carried flow))
    else if not (ends_after flow 0) || flow.end_framed then Nothing
    else if flow.trailers_wait then Trailers
    else Body 0 true

-- there is one
abbrev pub is_unit : FlowUnit → Bool
is_unit Nothing = false
is_unit (Head last) = true
is_unit (Body n last) = true
is_unit Trailers = true
