-- Two parts of a row, of which the last stage of the first lets octets go to the first stage of the second.
use Rattle.std.proofs.Common.{◌≡◌, ◌+◌, ◌-◌, ◌<◌, ◌≤◌, ◌++◌, ◌∙◌, ℕ, List, length, take, drop, false, refl, sym, ap, subst, arith, All}
use Rattle.std.proofs.Math.ListN.{get_or, get_or-map, set}
use Rattle.std.proofs.lemmas.List.{get_or-set_other, get_or-set_same, length-set}
use Rattle.std.proofs.lemmas.List.Elements.{All-append, All-drop, All-get_or, All-take}
use Rattle.std.proofs.lemmas.List.{length-map}
use Rattle.std.specs.Option.{option_map_or}
use Rattle.std.specs.Prelude.{Option}
use Rattle.filter_chain.specs.Chain.{above_in}
use Rattle.filter_chain.specs.Effects.{passed}
use Rattle.filter_chain.specs.Place.{IsPlace, Place, gaining, letting_go}
use Rattle.filter_chain.specs.Release.{has_room, has_room_in, is_overfilled_by, overfills_in}
use Rattle.filter_chain.specs.Stage.{IsReady, KeepsRoom, place_of, places_of}
use Rattle.filter_chain.specs.declared.stage.Stage.{Stage}
use Rattle.filter_chain.proofs.Ready.{ready_stored}
use Rattle.filter_chain.proofs.Row.{back_stage, front_stage, passed_places, stage_above, stage_place, two_stored}

-- of one stage of a row: whether it is overfilled or has room, and what is known of it
pub stage_overfilled : (stages : List Stage) (i p n : ℕ) (d : Stage) → p ≡ i + 1 → i < length stages → overfills_in (places_of stages) p n ≡ is_overfilled_by n (place_of (get_or stages i d))
stage_overfilled stages i p n d e within = ap (λ (o : Option Place). option_map_or (is_overfilled_by n) o false) (stage_place stages i p d e within)

pub stage_room : (quantum : ℕ) (stages : List Stage) (i p n : ℕ) (d : Stage) → p ≡ i + 1 → i < length stages → has_room_in quantum (places_of stages) p n ≡ has_room quantum n (place_of (get_or stages i d))
stage_room quantum stages i p n d e within = ap (λ (o : Option Place). option_map_or (has_room quantum n) o false) (stage_place stages i p d e within)

pub stage_sound : (stages : List Stage) (i : ℕ) (d : Stage) → i < length stages → All IsPlace (places_of stages) → IsPlace (place_of (get_or stages i d))
stage_sound stages i d within all =
    let len : length (places_of stages) ≡ length stages = length-map stages place_of in
    subst IsPlace (get_or-map place_of stages i d) (All-get_or IsPlace (places_of stages) i (place_of d) (omega arith) all)

module _ (stages front back : List Stage) (p : ℕ) (d e s t : Stage) (f : front ≡ take p stages) (b : back ≡ drop p stages) (first : 1 ≤ p) (last : p < length stages) where
  let_go_is : get_or front (p - 1) d ≡ get_or stages (p - 1) d
  let_go_is = front_stage stages front p d f first

  gains_is : get_or back 0 e ≡ get_or stages p e
  gains_is = back_stage stages back p e b

  stored_is : set front (p - 1) s ++ set back 0 t ≡ set (set stages (p - 1) s) p t
  stored_is = two_stored stages front back p s t f b first last

  pub parts_passed : (n : ℕ)
      → place_of s ≡ letting_go n (place_of (get_or front (p - 1) d))
      → place_of t ≡ gaining (take n (get_or front (p - 1) d).buffer.octets) (place_of (get_or back 0 e))
      → places_of (set front (p - 1) s ++ set back 0 t) ≡ passed (places_of stages) p n
  parts_passed n lets gains =
      ap places_of stored_is ∙ passed_places stages p n d e s t first last
      (lets ∙ ap (λ x. letting_go n (place_of x)) let_go_is)
      (gains ∙ (ap (λ (x : Stage). gaining (take n x.buffer.octets) (place_of (get_or back 0 e))) let_go_is
      ∙ ap (λ y. gaining (take n (get_or stages (p - 1) d).buffer.octets) (place_of y)) gains_is))

  pub parts_ready : (quantum : ℕ) → KeepsRoom (get_or front (p - 1) d) s → KeepsRoom (get_or back 0 e) t → p - 1 < length front → 0 < length back → All (IsReady quantum) stages → All (IsReady quantum) (set front (p - 1) s ++ set back 0 t)
  parts_ready quantum keeps keeps_next in_front in_back all =
      All-append (IsReady quantum) (set front (p - 1) s) (set back 0 t)
      (ready_stored quantum front (p - 1) d s in_front keeps (subst (All (IsReady quantum)) (sym f) (All-take (IsReady quantum) p stages all)))
      (ready_stored quantum back 0 e t in_back keeps_next (subst (All (IsReady quantum)) (sym b) (All-drop (IsReady quantum) p stages all)))

  -- the flags before and after
  pub above_before : above_in (places_of stages) p ≡ (get_or front (p - 1) d).buffer.above
  above_before = stage_above stages (p - 1) p d (omega arith) (omega arith) ∙ ap (λ (x : Stage). x.buffer.above) (sym let_go_is)

  pub next_above_before : above_in (places_of stages) (p + 1) ≡ (get_or back 0 e).buffer.above
  next_above_before = stage_above stages p (p + 1) e refl last ∙ ap (λ (x : Stage). x.buffer.above) (sym gains_is)

  set_len : length (set (set stages (p - 1) s) p t) ≡ length stages
  set_len = length-set (set stages (p - 1) s) p t ∙ length-set stages (p - 1) s

  pub above_after_it : above_in (places_of (set front (p - 1) s ++ set back 0 t)) p ≡ s.buffer.above
  above_after_it =
      let same : length (set (set stages (p - 1) s) p t) ≡ length stages = set_len in
      let apart : p - 1 ≡ p → ⊥ = λ h. absurd (omega arith) in
      let at : get_or (set (set stages (p - 1) s) p t) (p - 1) d ≡ s =
      get_or-set_other (set stages (p - 1) s) p (p - 1) t d apart ∙ get_or-set_same stages (p - 1) s d (omega arith) in
      ap (λ xs. above_in (places_of xs) p) stored_is
      ∙ (stage_above (set (set stages (p - 1) s) p t) (p - 1) p d (omega arith) (omega arith) ∙ ap (λ (x : Stage). x.buffer.above) at)

  pub next_above_after : above_in (places_of (set front (p - 1) s ++ set back 0 t)) (p + 1) ≡ t.buffer.above
  next_above_after =
      let same : length (set (set stages (p - 1) s) p t) ≡ length stages = set_len in
      let one : length (set stages (p - 1) s) ≡ length stages = length-set stages (p - 1) s in
      let at : get_or (set (set stages (p - 1) s) p t) p d ≡ t = get_or-set_same (set stages (p - 1) s) p t d (omega arith) in
      ap (λ xs. above_in (places_of xs) (p + 1)) stored_is
      ∙ (stage_above (set (set stages (p - 1) s) p t) p (p + 1) d refl (omega arith) ∙ ap (λ (x : Stage). x.buffer.above) at)

  pub next_overfilled : (n : ℕ) → overfills_in (places_of stages) (p + 1) n ≡ is_overfilled_by n (place_of (get_or back 0 e))
  next_overfilled n = stage_overfilled stages p (p + 1) n e refl last ∙ ap (λ x. is_overfilled_by n (place_of x)) (sym gains_is)

  pub next_room : (quantum n : ℕ) → has_room_in quantum (places_of stages) (p + 1) n ≡ has_room quantum n (place_of (get_or back 0 e))
  next_room quantum n = stage_room quantum stages p (p + 1) n e refl last ∙ ap (λ x. has_room quantum n (place_of x)) (sym gains_is)

  pub next_sound : All IsPlace (places_of stages) → IsPlace (place_of (get_or back 0 e))
  next_sound all = subst (λ x. IsPlace (place_of x)) (sym gains_is) (stage_sound stages p e last all)

  pub next_ready : (quantum : ℕ) → All (IsReady quantum) stages → IsReady quantum (get_or back 0 e)
  next_ready quantum all = subst (IsReady quantum) (sym gains_is) (All-get_or (IsReady quantum) stages p e last all)
