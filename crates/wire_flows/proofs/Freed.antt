-- What is known of the place that moves next.
use Rattle.exchange_core.proofs.Sources.{later_step}
use Rattle.exchange_core.specs.Flow.{Flow, last_place, octets_in}
use Rattle.exchange_core.specs.Moves.{is_free, is_held_at, last_free, last_free_to, later_above, may_release}
use Rattle.exchange_core.specs.State.{gated}
use Rattle.filter_chain.specs.Chain.{place_at}
use Rattle.filter_chain.specs.Place.{IsPlace, Place, is_source, kind_of}
use Rattle.filter_chain.specs.declared.stage.StageKind.{StageKind}
use Rattle.filter_chain.specs.declared.stage.StageKind.TheVariants as stage
use Rattle.flow_gate.specs.Board.{Board, count, is_marked}
use Rattle.flow_rules.specs.declared.ids.FlowId.{FlowId}
use Rattle.flow_rules.specs.Kinds.{Hold, Kind, Meter, Send, let_go}
use Rattle.flow_rules.specs.Sources.{source_of}
use Rattle.flow_rules.specs.State.{is_whole_at, kind_at}
use Rattle.std.proofs.Common.{ap, arith, refl, subst, sym, ◌∙◌}
use Rattle.std.proofs.lemmas.Bool.{and_parts}
use Rattle.std.proofs.lemmas.Bool.Decides.{nat_tests}
use Rattle.std.proofs.lemmas.List.Elements.{All-get_or}
use Rattle.std.proofs.lemmas.Option.{none-some, same_Some, slice_get-get_or, slice_get_within}
use Rattle.std.specs.List.{list_any}
use Rattle.std.specs.Option.{option_map_or}
use Rattle.std.specs.Prelude.{All, Bool, List, None, Option, Some, [], false, get_or, if◌then◌else◌, length, min, nat_lt, not, slice_get, suc, true, zero, ℕ, ◌&&◌, ◌+◌, ◌-◌, ◌<◌, ◌==◌, ◌||◌, ◌∷◌, ◌≡◌, ◌≤◌}
use Rattle.wire_flows.proofs.Cases.{by_case}
use Rattle.wire_flows.specs.Sound.{MarksAre, buffer_of}

-- the last place up to q that is free is free, and is such a place
pub record FreeIs (board : Board) (to : Option ℕ) (flow : Flow) (q p : ℕ) : Type 0 where
  pub within : p ≤ q
  pub free : is_free board to flow p ≡ true

pub free_is : (board : Board) (to : Option ℕ) (flow : Flow) (q p : ℕ) → last_free_to board to flow q ≡ Some p → FreeIs board to flow q p
free_is board to flow zero p e = by_case (is_free board to flow zero)
    (λ free.
    let same : zero ≡ p = same_Some zero p (sym (ap (λ b. if b then Some zero else None) free) ∙ e) in
    record { within = omega (arith, same); free = ap (is_free board to flow) (sym same) ∙ free })
    (λ held. absurd (none-some p (sym (ap {B = Option ℕ} (λ b. if b then Some zero else None) held) ∙ e)))
free_is board to flow (suc q) p e = by_case (is_free board to flow (suc q))
    (λ free.
    let same : suc q ≡ p = same_Some (suc q) p (sym (ap (λ b. if b then Some (suc q) else last_free_to board to flow q) free) ∙ e) in
    record { within = omega (arith, same); free = ap (is_free board to flow) (sym same) ∙ free })
    (λ held.
    let rest = free_is board to flow q p (sym (ap (λ b. if b then Some (suc q) else last_free_to board to flow q) held) ∙ e) in
    record { within = later q p rest.within; free = rest.free })
  where
    later : (q p : ℕ) → p ≤ q → p ≤ suc q
    later q p l = omega (arith, l)

-- ---- how much it lets go
let_go_most : (kind : Kind) (whole : Bool) (tokens n : ℕ) → let_go kind whole tokens n ≤ n
let_go_most Hold true tokens n = omega arith
let_go_most Hold false tokens n = omega arith
let_go_most Meter whole tokens n = omega arith
let_go_most Send whole tokens n = omega arith

pub release_most : (board : Board) (flow : Flow) (p : ℕ) → may_release board flow p ≤ min flow.chain.quantum (length (octets_in flow p))
release_most board flow zero = by_count (count board flow.chain.flow == 0)
  where
    by_count : (b : Bool) → (if b then min flow.chain.quantum (length flow.recv) else 0) ≤ min flow.chain.quantum (length flow.recv)
    by_count true = omega arith
    by_count false = omega arith
release_most board flow (suc p) = by_kind (kind_at (gated board None flow) (suc p))
  where
    by_kind : (o : Option Kind) → option_map_or (λ kind. let_go kind (is_whole_at (gated board None flow) (suc p)) ((gated board None flow).tokens (suc p)) (min flow.chain.quantum (length (octets_in flow (suc p))))) o 0
        ≤ min flow.chain.quantum (length (octets_in flow (suc p)))
    by_kind None = omega arith
    by_kind (Some kind) = let_go_most kind (is_whole_at (gated board None flow) (suc p)) ((gated board None flow).tokens (suc p)) (min flow.chain.quantum (length (octets_in flow (suc p))))

-- ---- the next place
pub found_at : (places : List Place) (i : ℕ) → i < length places → (x : Place) × (slice_get places i ≡ Some x)
found_at [] i h = absurd (omega (arith, h))
found_at (d ∷ places) i h = (get_or (d ∷ places) i d, slice_get-get_or (d ∷ places) i d h)

pub place_sound : (places : List Place) (i : ℕ) (x : Place) → All IsPlace places → slice_get places i ≡ Some x → IsPlace x
place_sound places i x all at =
    let there = slice_get_within places i x at in
    subst IsPlace (same_Some (get_or places i x) x (sym (slice_get-get_or places i x there) ∙ at)) (All-get_or IsPlace places i x there all)

-- a source that is next isn't above
next_marks : (board : Board) (f : FlowId) (p : ℕ) (kind : StageKind) → is_source kind ≡ true → list_any (λ s. is_marked board s.buffer) (source_of f p (kind_of kind)) ≡ is_marked board (buffer_of f p (kind_of kind))
next_marks board f p stage.Hold source = cc
next_marks board f p (stage.Meter rate) source = or_none (is_marked board _)
  where
    or_none : (b : Bool) → (b || false) ≡ b
    or_none true = refl
    or_none false = refl
next_marks board f p stage.Send source = or_none (is_marked board _)
  where
    or_none : (b : Bool) → (b || false) ≡ b
    or_none true = refl
    or_none false = refl

or_first : (a b : Bool) → (a || b) ≡ false → a ≡ false
or_first true b e = e
or_first false b e = refl

not_true : (b : Bool) → not b ≡ true → b ≡ false
not_true true e = cc
not_true false e = refl

module _ (board : Board) (to : Option ℕ) (flow : Flow) (p : ℕ) (free : is_free board to flow p ≡ true) (stage : p < last_place flow) where
  pub some_released : 0 < may_release board flow p
  some_released = lt (may_release board flow p) (and_parts (nat_lt 0 (may_release board flow p)) (not (later_above board to flow p)) free).0
    where
      lt : (n : ℕ) → nat_lt 0 n ≡ true → 0 < n
      lt n e = grind (arith, nat_tests)

  none_later : later_above board to flow p ≡ false
  none_later = not_true (later_above board to flow p) (and_parts (nat_lt 0 (may_release board flow p)) (not (later_above board to flow p)) free).1

  next_held : is_held_at board flow (suc p) ≡ false
  next_held = or_first (is_held_at board flow (suc p)) (later_above board to flow (suc p)) (sym (later_step board to flow p stage) ∙ none_later)

  pub next_low : (y : Place) → slice_get flow.chain.places p ≡ Some y → is_source y.kind ≡ true → MarksAre board flow → y.above ≡ false
  next_low y at source m =
      sym (m.each (suc p) y at source)
      ∙ (sym (next_marks board flow.chain.flow (suc p) y.kind source)
      ∙ (sym (ap (λ (o : Option Place). option_map_or (λ place. list_any (λ s. is_marked board s.buffer) (source_of flow.chain.flow (suc p) (kind_of place.kind))) o false) at) ∙ next_held))
