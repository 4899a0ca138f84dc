-- Where octets of a flow go next: the last place that may let some go, with no later source above.
use Rattle.exchange_core.specs.Effects.{moved}
use Rattle.exchange_core.specs.State.{gated}
use Rattle.exchange_core.specs.Flow.{Flow}
use Rattle.exchange_core.specs.declared.step.Step.{Step}
use Rattle.exchange_core.specs.declared.step.Step.TheVariants.{Still, Moved, TooLarge}
use Rattle.filter_chain.specs.Chain.{above_at, place_at}
use Rattle.filter_chain.specs.Place.{Place, is_source, kind_of}
use Rattle.filter_chain.specs.Release.{has_room_at, may_release as chain_releases, overfills}
use Rattle.flow_gate.specs.Board.{Board, is_marked}
use Rattle.flow_rules.specs.Moves.{is_free as is_free_at, last_free as free, last_free_to as free_to, later_above as is_later_above, may_release as releases}
use Rattle.flow_rules.specs.Sources.{source_of}
use Rattle.std.specs.List.{list_any}
use Rattle.std.specs.Option.{option_map_or}
use Rattle.std.specs.Prelude.{Bool, None, Option, false, if◌then◌else◌, length, min, nat_lt, suc, true, zero, ℕ, ◌&&◌, ◌*◌, ◌+◌}
use Rattle.wm_buffer.specs.Watermark.{crossing}
use Rattle.wm_buffer.specs.declared.buffer.Shifted.{Shifted}
use Rattle.flow_rules.specs.declared.ids.BufferId.TheVariants as buffer

-- ---- what the gates say
-- some source behind the place is above
abbrev pub later_above : Board → Option ℕ → Flow → ℕ → Bool
later_above board to flow p = is_later_above (gated board to flow) p

-- the place is a source that is above
abbrev pub is_held_at : Board → Flow → ℕ → Bool
is_held_at board flow p = option_map_or
    (λ place. list_any (λ s. is_marked board s.buffer) (source_of flow.chain.flow p (kind_of place.kind))) (place_at flow.chain.places p) false

-- the write buffer that it goes to is above
abbrev pub is_target_above : Board → Option ℕ → Bool
is_target_above board to = option_map_or (λ c. is_marked board (buffer.Write c)) to false

-- ---- moves
-- what a place lets go at most
abbrev pub lets_go : Flow → ℕ → ℕ
lets_go flow zero = min flow.chain.quantum (length flow.recv)
lets_go flow (suc p) = chain_releases flow.chain (suc p)

-- what a place may release, whether it is free, the last place up to p that is, and the last of all before the send buffer
abbrev pub may_release : Board → Flow → ℕ → ℕ
may_release board flow p = releases (gated board None flow) p

abbrev pub is_free : Board → Option ℕ → Flow → ℕ → Bool
is_free board to flow p = is_free_at (gated board to flow) p

abbrev pub last_free_to : Board → Option ℕ → Flow → ℕ → Option ℕ
last_free_to board to flow p = free_to (gated board to flow) p

abbrev pub last_free : Board → Option ℕ → Flow → Option ℕ
last_free board to flow = free (gated board to flow)

-- a Meter or send buffer of a limit holds more than its multiple of it
abbrev pub is_overflown : ℕ → Place → Bool
is_overflown multiple place =
    nat_lt 0 multiple && is_source place.kind && nat_lt 0 place.limit && nat_lt (multiple * place.limit) (length place.octets)

abbrev pub overflows : Flow → ℕ → Bool
overflows flow p = option_map_or (is_overflown flow.multiple) (place_at flow.chain.places p) false

-- what a move crossed, at the place that it left and at the next one
abbrev pub crossed_by : Flow → Flow → ℕ → Shifted
crossed_by old new p = record {
  from = crossing (above_at old.chain p) (above_at new.chain p);
  to = crossing (above_at old.chain (p + 1)) (above_at new.chain (p + 1));
}

-- the step that n octets of place p make, and what it leaves
abbrev pub step_from : Flow → ℕ → ℕ → Step
step_from flow p n =
    if overfills flow.chain (p + 1) n then TooLarge
    else Moved p n (crossed_by flow (moved p n flow) p) (overflows (moved p n flow) (p + 1))

abbrev pub left_from : Flow → ℕ → ℕ → Flow
left_from flow p n = if overfills flow.chain (p + 1) n then flow else moved p n flow

-- ---- one step
-- all that the last free place may release goes to the next one
abbrev pub next_step : Board → Option ℕ → Flow → Step
next_step board to flow = option_map_or (λ p. step_from flow p (may_release board flow p)) (last_free board to flow) Still

abbrev pub stepped : Board → Option ℕ → Flow → Flow
stepped board to flow = option_map_or (λ p. left_from flow p (may_release board flow p)) (last_free board to flow) flow

-- room was made for that move, if there is one
abbrev pub has_room_ahead : Board → Option ℕ → Flow → Bool
has_room_ahead board to flow =
    option_map_or (λ p. has_room_at flow.chain (p + 1) (may_release board flow p)) (last_free board to flow) true
