-- The next unit within a smaller bound.
use Rattle.std.proofs.Common.{◌≡◌, ◌-◌, ◌<◌, ◌≤◌, ◌∙◌, ◌&&◌, ◌||◌, ◌==◌, ℕ, Bool, true, false, refl, sym, ap, nat_lt, nat_le, arith, min}
use Rattle.std.proofs.lemmas.Bool.Decides.{nat_tests}
use Rattle.flow_rules.specs.Narrowed.{narrowed, within}
use Rattle.flow_rules.specs.State.{FlowState, empty_before, send_len}
use Rattle.flow_rules.specs.Units.{carried, carries_end, ends_after, head_may_go, next_head, next_unit}
use Rattle.flow_rules.specs.declared.unit.Unit.{Unit as NextUnit}
use Rattle.flow_rules.specs.declared.unit.Unit.TheVariants.{Nothing, Head, Body, Trailers}
use Rattle.std.specs.Prelude.{if◌then◌else◌, not}

-- ---- which frame carries the end
and_true : (b : Bool) → (b && true) ≡ b
and_true true = refl
and_true false = refl

and_false : (b : Bool) → (b && false) ≡ false
and_false true = refl
and_false false = refl

all_go : (left n most : ℕ) → n ≤ left → (left == min n most) ≡ ((left == n) && nat_le n most)
all_go left n most few = by (nat_le n most) refl
  where
    by : (t : Bool) → nat_le n most ≡ t → (left == min n most) ≡ ((left == n) && t)
    by true e =
        let whole : min n most ≡ n = grind (arith, nat_tests) in
        ap (λ k. left == k) whole ∙ sym (and_true (left == n))
    by false e =
        let part : (left == min n most) ≡ false = grind (arith, nat_tests) in
        part ∙ sym (and_false (left == n))

in_turn : (most trailers : Bool) → (most && trailers) ≡ (trailers && most)
in_turn true trailers = sym (and_true trailers)
in_turn false trailers = sym (and_false trailers)

taken_out : (ended before left most trailers : Bool) → ((ended && (before && (left && most))) && trailers) ≡ (((ended && (before && left)) && trailers) && most)
taken_out true true true most trailers = in_turn most trailers
taken_out true true false most trailers = refl
taken_out true false left most trailers = refl
taken_out false before left most trailers = refl

none_ends : (ended before left : Bool) → left ≡ false → (ended && (before && left)) ≡ false
none_ends ended before left none = ap (λ l. ended && (before && l)) none ∙ (ap (λ b. ended && b) (and_false before) ∙ and_false ended)

ends_stay : (most : ℕ) (ended trailers : Bool) → narrowed most (if ended then Nothing else if trailers then Trailers else Body 0 true) ≡ (if ended then Nothing else if trailers then Trailers else Body 0 true)
ends_stay most true trailers = refl
ends_stay most false true = refl
ends_stay most false false =
    let none : min 0 most ≡ 0 = omega arith in
    let all : nat_le 0 most ≡ true = grind (arith, nat_tests) in
    λ i. Body (none i) (all i)

heads_stay : (most : ℕ) (go last : Bool) → (if go then Head last else Nothing) ≡ narrowed most (if go then Head last else Nothing)
heads_stay most true last = refl
heads_stay most false last = refl

module _ (flow : FlowState) where
  carries_less : (n most : ℕ) → n ≤ send_len flow → carries_end flow (min n most) ≡ (carries_end flow n && nat_le n most)
  carries_less n most few =
      ap (λ left. (flow.ended && (empty_before flow flow.last && left)) && not flow.trailers_wait) (all_go (send_len flow) n most few)
      ∙ taken_out flow.ended (empty_before flow flow.last) (send_len flow == n) (nat_le n most) (not flow.trailers_wait)

  -- what goes where no octets of the body may
  abbrev rest : NextUnit
  rest = if not (ends_after flow 0) || flow.end_framed then Nothing else if flow.trailers_wait then Trailers else Body 0 true

  rest_narrowed : (most : ℕ) → narrowed most rest ≡ rest
  rest_narrowed most = ends_stay most (not (ends_after flow 0) || flow.end_framed) flow.trailers_wait

  none_behind : 0 < send_len flow → rest ≡ Nothing
  none_behind some =
      let left : (send_len flow == 0) ≡ false = grind (arith, nat_tests) in
      ap (λ ends. if not ends || flow.end_framed then Nothing else if flow.trailers_wait then Trailers else Body 0 true)
      (none_ends flow.ended (empty_before flow flow.last) (send_len flow == 0) left)

  -- and where n may
  abbrev body_if : Bool → ℕ → NextUnit
  body_if some n = if some then Body n (carries_end flow n) else rest

  abbrev body : ℕ → NextUnit
  body n = body_if (nat_lt 0 n) n

  body_narrowed : (n most : ℕ) → n ≤ send_len flow → body (min n most) ≡ narrowed most (body n)
  body_narrowed n most few = by (nat_lt 0 n) refl (most == 0) refl
    where
      by : (some : Bool) → nat_lt 0 n ≡ some → (none : Bool) → (most == 0) ≡ none → body_if (nat_lt 0 (min n most)) (min n most) ≡ narrowed most (if some then Body n (carries_end flow n) else rest)
      by false e none f =
          let stops : nat_lt 0 (min n most) ≡ false = grind (arith, nat_tests) in
          ap (λ t. body_if t (min n most)) stops ∙ sym (rest_narrowed most)
      by true e true f =
          let stops : nat_lt 0 (min n most) ≡ false = grind (arith, nat_tests) in
          let some : 0 < send_len flow = grind (arith, nat_tests) in
          ap (λ t. body_if t (min n most)) stops ∙ (none_behind some ∙ sym (λ i. if e i && f i then Nothing else Body (min n most) (carries_end flow n && nat_le n most)))
      by true e false f =
          let goes : nat_lt 0 (min n most) ≡ true = grind (arith, nat_tests) in
          ap (λ t. body_if t (min n most)) goes ∙ (ap (λ last. Body (min n most) last) (carries_less n most few)
          ∙ sym (λ i. if e i && f i then Nothing else Body (min n most) (carries_end flow n && nat_le n most)))

  by_head : (most : ℕ) (waits : Bool) (n m : ℕ) → m ≡ min n most → n ≤ send_len flow
      → (if waits then next_head flow else body m) ≡ narrowed most (if waits then next_head flow else body n)
  by_head most true n m is few = heads_stay most (head_may_go flow) flow.head_ends
  by_head most false n m is few = ap body is ∙ body_narrowed n most few

pub unit_narrowed : (most : ℕ) (flow : FlowState) → next_unit (within most flow) ≡ narrowed most (next_unit flow)
unit_narrowed most flow = by_head flow most flow.head_waits (carried flow) (carried (within most flow)) (least flow.quantum flow.frame (send_len flow)) (few flow.quantum flow.frame (send_len flow))
  where
    least : (quantum frame left : ℕ) → min (min quantum (min frame most)) left ≡ min (min (min quantum frame) left) most
    least quantum frame left = omega arith

    few : (quantum frame left : ℕ) → min (min quantum frame) left ≤ left
    few quantum frame left = omega arith
