-- Where octets of a flow go next: all that the last place may release which has no later source above.
use Rattle.flow_rules.specs.Kinds.{is_overfilled, let_go}
use Rattle.flow_rules.specs.State.{FlowState, is_whole_at, kind_at}
use Rattle.std.specs.List.{list_any}
use Rattle.std.specs.Option.{option_map_or}
use Rattle.std.specs.Prelude.{Bool, None, Option, Some, false, if◌then◌else◌, min, nat_lt, not, suc, zero, ℕ, ◌&&◌, ◌+◌, ◌-◌, ◌==◌}

-- a flow is read only at count 0
abbrev pub is_readable : FlowState → Bool
is_readable flow = flow.count == 0

-- what place p may release: the receive buffer only while the flow is readable
abbrev pub may_release : FlowState → ℕ → ℕ
may_release flow zero = if is_readable flow then min flow.quantum (flow.len 0) else 0
may_release flow (suc p) = option_map_or
    (λ kind. let_go kind (is_whole_at flow (suc p)) (flow.tokens (suc p)) (min flow.quantum (flow.len (suc p)))) (kind_at flow (suc p)) 0

-- some source behind place p is above
abbrev pub later_above : FlowState → ℕ → Bool
later_above flow p = list_any (λ s. nat_lt p s.place && flow.is_above s.buffer) flow.sources

-- it may release, and no later source is above
abbrev pub is_free : FlowState → ℕ → Bool
is_free flow p = nat_lt 0 (may_release flow p) && not (later_above flow p)

-- the last place up to p that is free, and of all before the send buffer
abbrev pub last_free_to : FlowState → ℕ → Option ℕ
last_free_to flow zero = if is_free flow 0 then Some 0 else None
last_free_to flow (suc p) = if is_free flow (suc p) then Some (suc p) else last_free_to flow p

abbrev pub last_free : FlowState → Option ℕ
last_free flow = last_free_to flow (flow.last - 1)

-- a move of n octets out of place p overfills the Hold behind it
abbrev pub overfills : FlowState → ℕ → ℕ → Bool
overfills flow p n = option_map_or (λ kind. is_overfilled kind (flow.limit (p + 1)) (flow.len (p + 1)) n) (kind_at flow (p + 1)) false
