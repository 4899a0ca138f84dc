-- A step of a flow, with what the gates are told of it.
use Rattle.exchange_core.proofs.FlowSound.{held_at}
use Rattle.exchange_core.proofs.StageSources.{last_is, not_last}
use Rattle.exchange_core.specs.Effects.{moved}
use Rattle.exchange_core.specs.Exchange.{IsFlowOf}
use Rattle.exchange_core.specs.Flow.{Flow, held_by, last_place, octets_in}
use Rattle.exchange_core.specs.Message.{head_came}
use Rattle.exchange_core.specs.Moves.{crossed_by, is_free, last_free, left_from, may_release, next_step, overflows, step_from, stepped}
use Rattle.exchange_core.specs.declared.step.Step.{Step}
use Rattle.exchange_core.specs.declared.step.Step.TheVariants as step
use Rattle.filter_chain.proofs.Changes.{get-set_other, get-set_same}
use Rattle.filter_chain.specs.Chain.{EndsInSend, above_at, kinds, place_at}
use Rattle.filter_chain.specs.Place.{IsPlace, Place, gaining, is_source, kind_of, letting_go}
use Rattle.filter_chain.specs.Release.{is_overfilled_by, overfills}
use Rattle.filter_chain.specs.declared.stage.StageKind.{StageKind}
use Rattle.filter_chain.specs.declared.stage.StageKind.TheVariants as stage
use Rattle.flow_gate.proofs.SameIds.{same_buffer-comm, same_buffer-refl, same_buffer_exact, same_flow-refl}
use Rattle.flow_gate.specs.Board.{Board, is_known, is_marked, pending_on, watchers_of}
use Rattle.flow_gate.specs.Ids.{is_own, same_buffer, same_flow}
use Rattle.flow_rules.specs.declared.ids.BufferId.{BufferId}
use Rattle.flow_rules.specs.declared.ids.FlowId.{FlowId}
use Rattle.flow_rules.specs.Kinds.{Kind}
use Rattle.std.proofs.Common.{ap, arith, refl, subst, sym, ◌∙◌}
use Rattle.std.proofs.lemmas.Bool.Decides.{nat_tests}
use Rattle.std.proofs.lemmas.List.{length-drop}
use Rattle.std.proofs.lemmas.Option.{none-some, same_Some}
use Rattle.std.specs.Option.{option_map_or}
use Rattle.std.specs.Prelude.{Bool, List, None, Option, Some, [], drop, false, if◌then◌else◌, length, min, nat_lt, not, set, slice_get, suc, take, true, zero, ℕ, ◌&&◌, ◌+◌, ◌-◌, ◌<◌, ◌==◌, ◌||◌, ◌∷◌, ◌≡◌, ◌≤◌}
use Rattle.wire_flows.proofs.Cases.{by_case, not_both, number_is, same_number}
use Rattle.wire_flows.specs.Begins.{Crosses}
use Rattle.wire_flows.proofs.Found.{flow_is}
use Rattle.wire_flows.proofs.Freed.{found_at, free_is, next_low, place_sound, release_most, some_released}
use Rattle.wire_flows.proofs.Kept.{KeepsFlow, KeepsGates, own_is}
use Rattle.wire_flows.proofs.Marks.{marking, places_differ}
use Rattle.wire_flows.proofs.Owners.{own_differs}
use Rattle.wire_flows.proofs.Stepped.{IsMoving, come, first_kept, first_places, first_way, gained, gone, later_kept, later_places, later_way, marks_then}
use Rattle.wire_flows.specs.Moves.{buffer_at, is_high, is_low}
use Rattle.wire_flows.specs.Sound.{MarksAre, buffer_of}
use Rattle.wm_buffer.specs.Watermark.{above_after, crossing}
use Rattle.wm_buffer.specs.declared.buffer.Shifted.{Shifted}
use Rattle.flow_rules.specs.declared.ids.BufferId.TheVariants as buffer

-- ---- what a move was
pub record Goes (board : Board) (to : Option ℕ) (flow : Flow) (p n : ℕ) (shifted : Shifted) (overflow : Bool) : Type 0 where
  pub free : last_free board to flow ≡ Some p
  pub is : n ≡ may_release board flow p
  pub fits : overfills flow.chain (p + 1) n ≡ false
  pub crossed : shifted ≡ crossed_by flow (moved p n flow) p
  pub over : overflow ≡ overflows (moved p n flow) (p + 1)
  pub after : stepped board to flow ≡ moved p n flow

pub goes_of : (board : Board) (to : Option ℕ) (flow : Flow) (p n : ℕ) (shifted : Shifted) (overflow : Bool) → next_step board to flow ≡ step.Moved p n shifted overflow → Goes board to flow p n shifted overflow
goes_of board to flow p n shifted overflow e = by_place (last_free board to flow) refl e
  where
    by_place : (o : Option ℕ) → last_free board to flow ≡ o → option_map_or (λ q. step_from flow q (may_release board flow q)) o step.Still ≡ step.Moved p n shifted overflow → Goes board to flow p n shifted overflow
    by_place None is e = cc
    by_place (Some q) is e = by_case (overfills flow.chain (q + 1) (may_release board flow q))
        (λ over. let bad : step.TooLarge ≡ step.Moved p n shifted overflow = sym (ap (λ b. if b then step.TooLarge else step.Moved q (may_release board flow q) (crossed_by flow (moved q (may_release board flow q) flow) q) (overflows (moved q (may_release board flow q) flow) (q + 1))) over) ∙ e in cc)
        (λ fits.
        let m = may_release board flow q in
        let same : step.Moved q (may_release board flow q) (crossed_by flow (moved q (may_release board flow q) flow) q) (overflows (moved q (may_release board flow q) flow) (q + 1)) ≡ step.Moved p n shifted overflow =
        sym (ap (λ b. if b then step.TooLarge else step.Moved q (may_release board flow q) (crossed_by flow (moved q (may_release board flow q) flow) q) (overflows (moved q (may_release board flow q) flow) (q + 1))) fits) ∙ e in
        let place : q ≡ p = cc in
        let many : may_release board flow q ≡ n = cc in
        let cross : crossed_by flow (moved q (may_release board flow q) flow) q ≡ shifted = cc in
        let over : overflows (moved q (may_release board flow q) flow) (q + 1) ≡ overflow = cc in
        let left : stepped board to flow ≡ moved q (may_release board flow q) flow = ap (λ o. option_map_or (λ r. left_from flow r (may_release board flow r)) o flow) is ∙ ap (λ b. if b then flow else moved q (may_release board flow q) flow) fits in
        record {
          free = is ∙ ap (λ r. Some r) place;
          is = sym many ∙ ap (may_release board flow) place;
          fits = (λ i. overfills flow.chain (sym place i + 1) (sym many i)) ∙ fits;
          crossed = sym cross ∙ (λ i. crossed_by flow (moved (place i) (many i) flow) (place i));
          over = sym over ∙ (λ i. overflows (moved (place i) (many i) flow) (place i + 1));
          after = left ∙ (λ i. moved (place i) (many i) flow);
        })

-- ---- the buffer of the next place
pub buffer_same : (f : FlowId) (flow : Flow) (p : ℕ) (y : Place) → EndsInSend (kinds flow.chain.places) → slice_get flow.chain.places p ≡ Some y → p < last_place flow → buffer_at f flow (p + 1) ≡ buffer_of f (suc p) (kind_of y.kind)
buffer_same f flow p y ends at within = by_case (p + 1 == last_place flow)
    (λ last.
    let e : suc p ≡ length flow.chain.places = same p (last_place flow) (number_is (p + 1) (last_place flow) last) in
    let send : y.kind ≡ stage.Send = sym (ap (λ (o : Option Place). option_map_or (λ place. place.kind) o stage.Hold) at) ∙ last_is flow.chain.places p e ends in
    ap (λ b. if b then buffer.Send f else buffer.Stage f (p + 1)) last ∙ sym (ap (λ k. buffer_of f (suc p) (kind_of k)) send))
    (λ other.
    let e : suc p < length flow.chain.places = before p (length flow.chain.places) within other in
    let kind = not_last flow.chain.places p e ends in
    let one : p + 1 ≡ suc p = omega arith in
    ap (λ b. if b then buffer.Send f else buffer.Stage f (p + 1)) other ∙ (ap (buffer.Stage f) one ∙ sym (stage_of y.kind (λ is. kind (ap (λ (o : Option Place). option_map_or (λ place. place.kind) o stage.Hold) at ∙ is)))))
  where
    same : (p l : ℕ) → p + 1 ≡ l → suc p ≡ l
    same p l e = omega (arith, e)

    before : (p l : ℕ) → p < l → (p + 1 == l) ≡ false → suc p < l
    before p l h e = grind (arith, nat_tests)

    stage_of : (kind : StageKind) → (kind ≡ stage.Send → ⊥) → buffer_of f (suc p) (kind_of kind) ≡ buffer.Stage f (suc p)
    stage_of stage.Hold n = refl
    stage_of (stage.Meter rate) n = refl
    stage_of stage.Send n = absurd (n refl)

-- ---- a place that let go isn't above where it wasn't
pub let_go_low : (n : ℕ) (x : Place) → IsPlace x → x.above ≡ false → (letting_go n x).above ≡ false
let_go_low n x sound low = ap (λ a. above_after x.limit a (length (drop n x.octets))) low ∙ by_limit (length (drop n x.octets)) (length x.octets) x.limit (length-drop n x.octets) (sound.low low)
  where
    by_limit : (d l m : ℕ) → d ≡ l - n → (0 < m → l ≤ m) → above_after m false d ≡ false
    by_limit d l m e k = by_case (nat_lt 0 m)
        (λ some. ap (λ b. if b then nat_lt m d else false) some ∙ not_less d l m e (k (positive m some)))
        (λ none. ap (λ b. if b then nat_lt m d else false) none)
      where
        positive : (m : ℕ) → nat_lt 0 m ≡ true → 0 < m
        positive m e = grind (arith, nat_tests)

        not_less : (d l m : ℕ) → d ≡ l - n → l ≤ m → nat_lt m d ≡ false
        not_less d l m e k = let few : d ≤ m = omega (arith, e, k) in grind (arith, nat_tests)

-- ---- a flow that moves
module _ (board : Board) (to : Option ℕ) (flow : Flow) (p n : ℕ) (shifted : Shifted) (overflow : Bool) (g : Goes board to flow p n shifted overflow)
    (x : ℕ) (side : Bool) (time : ℕ) (own : IsFlowOf x side time flow) (m : MarksAre board flow) where
  free_place : is_free board to flow p ≡ true
  free_place = (free_is board to flow (last_place flow - 1) p g.free).free

  pub before_last : p < last_place flow
  before_last = less (last_place flow) (free_is board to flow (last_place flow - 1) p g.free).within own.sound.chain.few.0
    where
      less : (l : ℕ) → p ≤ l - 1 → 1 ≤ l → p < l
      less l a c = omega (arith, a, c)

  abbrev pub next_of : (y : Place) × (slice_get flow.chain.places p ≡ Some y)
  next_of = found_at flow.chain.places p before_last

  abbrev pub next : Place
  next = next_of.0

  most_of : n ≤ min flow.chain.quantum (length (octets_in flow p))
  most_of = subst (λ k. k ≤ min flow.chain.quantum (length (octets_in flow p))) (sym g.is) (release_most board flow p)

  pub is_moving : IsMoving flow p n next
  is_moving = record {
    some = subst (λ k. 0 < k) (sym g.is) (some_released board to flow p free_place before_last);
    few = few n flow.chain.quantum (length (octets_in flow p)) most_of;
    most = most n flow.chain.quantum (length (octets_in flow p)) most_of;
    at = next_of.1;
    low = λ source. next_low board to flow p free_place before_last next next_of.1 source m;
    fits = sym (ap (λ (o : Option Place). option_map_or (is_overfilled_by n) o false) behind) ∙ g.fits;
    sound = place_sound flow.chain.places p next own.sound.chain.each next_of.1;
    ends = own.sound.chain.order;
  }
    where
      few : (a b c : ℕ) → a ≤ min b c → a ≤ c
      few a b c l = omega (arith, l)

      most : (a b c : ℕ) → a ≤ min b c → a ≤ b
      most a b c l = omega (arith, l)

      behind : place_at flow.chain.places (p + 1) ≡ Some next
      behind = let one : p + 1 ≡ suc p = omega arith in ap (place_at flow.chain.places) one ∙ next_of.1

  -- some octets were there, so the head came
  pub came : (0 < held_by flow → head_came flow.message ≡ true) → head_came flow.message ≡ true
  came k = k (some n (length (octets_in flow p)) (held_by flow) is_moving.some is_moving.few (held_at flow p))
    where
      some : (a b c : ℕ) → 0 < a → a ≤ b → b ≤ c → 0 < c
      some a b c h i j = omega (arith, h, i, j)

-- ---- what the gates are told fits the places
and_false : (b : Bool) → (b && false) ≡ false
and_false true = refl
and_false false = refl

up : (a c : Bool) → a ≡ false → ((not a && c) || a) ≡ c
up true c e = cc
up false true e = refl
up false false e = refl

down : (a c : Bool) → (a ≡ false → c ≡ false) → (not (a && not c) && a) ≡ c
down true true k = refl
down true false k = refl
down false c k = sym (k refl)

-- out of the receive buffer: nothing drained
module _ (board board' : Board) (flow : Flow) (n : ℕ) (y : Place) (k : IsMoving flow zero n y) (m : MarksAre board flow) (c : BufferId) (lows : List FlowId) where
  pub first_marks : Crosses (not y.above && (gained flow n y k).above) (buffer_of flow.chain.flow 1 (kind_of y.kind)) false c lows board board' → (j : ℕ) (place : Place)
      → slice_get (set flow.chain.places zero (gained flow n y k)) j ≡ Some place → is_source place.kind ≡ true
      → is_marked board' (buffer_of flow.chain.flow (suc j) (kind_of place.kind)) ≡ marking (buffer_of flow.chain.flow 1 (kind_of y.kind)) (gained flow n y k).above (is_marked board) (buffer_of flow.chain.flow (suc j) (kind_of place.kind))
  first_marks x zero place at source =
      let b = buffer_of flow.chain.flow 1 (kind_of y.kind) in
      let z = gained flow n y k in
      let is : z ≡ place = same_Some z place (sym (get-set_same flow.chain.places zero y z k.at) ∙ at) in
      let mine : is_source y.kind ≡ true = ap (λ (p : Place). is_source p.kind) is ∙ source in
      let named : buffer_of flow.chain.flow 1 (kind_of place.kind) ≡ b = ap (λ (p : Place). buffer_of flow.chain.flow 1 (kind_of p.kind)) (sym is) in
      let was : is_marked board b ≡ y.above = m.each (suc zero) y k.at mine in
      ap (is_marked board') named
      ∙ (x.marks b
      ∙ ((λ i. (not y.above && z.above) && same_buffer-refl b i || was i)
      ∙ (and_true (not y.above && z.above) y.above
      ∙ (up y.above z.above (k.low mine)
      ∙ sym (ap (marking b z.above (is_marked board)) named ∙ ap (λ t. if t then z.above else is_marked board b) (same_buffer-refl b))))))
    where
      and_true : (a d : Bool) → ((a && true) || d) ≡ (a || d)
      and_true true d = refl
      and_true false d = refl
  first_marks x (suc j) place at source =
      let b = buffer_of flow.chain.flow 1 (kind_of y.kind) in
      let z = gained flow n y k in
      let there : slice_get flow.chain.places (suc j) ≡ Some place = sym (get-set_other flow.chain.places zero (suc j) z (λ e. cc)) ∙ at in
      let apart = places_differ flow.chain.flow flow.chain.places zero (suc j) y place k.ends k.at there (λ e. cc) in
      let d = buffer_of flow.chain.flow (suc (suc j)) (kind_of place.kind) in
      x.marks d
      ∙ (ap (λ t. ((not y.above && z.above) && t) || is_marked board d) apart
      ∙ (ap (λ t. t || is_marked board d) (and_false (not y.above && z.above))
      ∙ sym (ap (λ t. if t then z.above else is_marked board d) apart)))

-- out of a stage
module _ (board board' : Board) (flow : Flow) (i n : ℕ) (x y : Place) (at : slice_get flow.chain.places i ≡ Some x) (k : IsMoving flow (suc i) n y) (m : MarksAre board flow) (whole : IsPlace x) (lows : List FlowId) where
  abbrev from : BufferId
  from = buffer_of flow.chain.flow (suc i) (kind_of x.kind)

  abbrev into : BufferId
  into = buffer_of flow.chain.flow (suc (suc i)) (kind_of y.kind)

  abbrev left : Place
  left = gone flow i n x y at k

  abbrev fed : Place
  fed = come flow i n x y at k

  abbrev places : List Place
  places = set (set flow.chain.places i left) (suc i) fed

  pub later_marks : Crosses (not y.above && fed.above) into (x.above && not left.above) from lows board board' → (j : ℕ) (place : Place) → slice_get places j ≡ Some place → is_source place.kind ≡ true
      → is_marked board' (buffer_of flow.chain.flow (suc j) (kind_of place.kind)) ≡ marks_then flow i n x y at k board (buffer_of flow.chain.flow (suc j) (kind_of place.kind))
  later_marks t j place is source = by_case (j == suc i)
      (λ here. at_into (number_is j (suc i) here))
      (λ other. by_case (j == i) (λ here. at_from other (number_is j i here)) (λ far. elsewhere other far))
    where
      apart_next : i ≡ suc i → ⊥
      apart_next e = absurd (omega (arith, e))

      apart_back : suc i ≡ i → ⊥
      apart_back e = absurd (omega (arith, e))

      there : slice_get (set flow.chain.places i left) (suc i) ≡ Some y
      there = get-set_other flow.chain.places i (suc i) left apart_back ∙ k.at

      differ : same_buffer from into ≡ false
      differ = places_differ flow.chain.flow flow.chain.places i (suc i) x y k.ends at k.at apart_next

      and_true : (a d : Bool) → ((a && true) || d) ≡ (a || d)
      and_true true d = refl
      and_true false d = refl

      -- the place that was fed
      at_into : j ≡ suc i → is_marked board' (buffer_of flow.chain.flow (suc j) (kind_of place.kind)) ≡ marks_then flow i n x y at k board (buffer_of flow.chain.flow (suc j) (kind_of place.kind))
      at_into e =
          let found : fed ≡ place = same_Some fed place (sym (ap (slice_get places) e ∙ get-set_same (set flow.chain.places i left) (suc i) y fed there) ∙ is) in
          let mine : is_source y.kind ≡ true = ap (λ (p : Place). is_source p.kind) found ∙ source in
          let named : buffer_of flow.chain.flow (suc j) (kind_of place.kind) ≡ into = (λ l. buffer_of flow.chain.flow (suc (e l)) (kind_of (sym found l).kind)) in
          let was : is_marked board into ≡ y.above = m.each (suc (suc i)) y k.at mine in
          ap (is_marked board') named
          ∙ (t.marks into
          ∙ ((λ l. not ((x.above && not left.above) && differ l) && ((not y.above && fed.above) && same_buffer-refl into l || was l))
          ∙ (ap (λ b. not b && ((not y.above && fed.above) && true || y.above)) (and_false (x.above && not left.above))
          ∙ (and_true (not y.above && fed.above) y.above
          ∙ (up y.above fed.above (k.low mine)
          ∙ sym (ap (marks_then flow i n x y at k board) named ∙ ap (λ b. if b then fed.above else marking from left.above (is_marked board) into) (same_buffer-refl into)))))))

      -- the place that let go
      at_from : (j == suc i) ≡ false → j ≡ i → is_marked board' (buffer_of flow.chain.flow (suc j) (kind_of place.kind)) ≡ marks_then flow i n x y at k board (buffer_of flow.chain.flow (suc j) (kind_of place.kind))
      at_from other e =
          let found : left ≡ place = same_Some left place (sym (ap (slice_get places) e ∙ (get-set_other (set flow.chain.places i left) (suc i) i fed apart_next ∙ get-set_same flow.chain.places i x left at)) ∙ is) in
          let mine : is_source x.kind ≡ true = ap (λ (p : Place). is_source p.kind) found ∙ source in
          let named : buffer_of flow.chain.flow (suc j) (kind_of place.kind) ≡ from = (λ l. buffer_of flow.chain.flow (suc (e l)) (kind_of (sym found l).kind)) in
          let was : is_marked board from ≡ x.above = m.each (suc i) x at mine in
          let back : same_buffer into from ≡ false = same_buffer-comm into from ∙ differ in
          ap (is_marked board') named
          ∙ (t.marks from
          ∙ ((λ l. not ((x.above && not left.above) && same_buffer-refl from l) && ((not y.above && fed.above) && back l || was l))
          ∙ (plain (x.above && not left.above) (not y.above && fed.above) x.above
          ∙ (down x.above left.above (let_go_low n x whole)
          ∙ sym (ap (marks_then flow i n x y at k board) named
          ∙ ((λ l. if back l then fed.above else (if same_buffer-refl from l then left.above else is_marked board from))))))))
        where
          plain : (a b d : Bool) → (not (a && true) && ((b && false) || d)) ≡ (not a && d)
          plain true b d = refl
          plain false true d = refl
          plain false false d = refl

      -- any other
      elsewhere : (j == suc i) ≡ false → (j == i) ≡ false → is_marked board' (buffer_of flow.chain.flow (suc j) (kind_of place.kind)) ≡ marks_then flow i n x y at k board (buffer_of flow.chain.flow (suc j) (kind_of place.kind))
      elsewhere other far =
          let d = buffer_of flow.chain.flow (suc j) (kind_of place.kind) in
          let was : slice_get flow.chain.places j ≡ Some place = sym (get-set_other (set flow.chain.places i left) (suc i) j fed (λ e. differs j (suc i) other e) ∙ get-set_other flow.chain.places i j left (λ e. differs j i far e)) ∙ is in
          let first = places_differ flow.chain.flow flow.chain.places i j x place k.ends at was (λ e. differs j i far (sym e)) in
          let second = places_differ flow.chain.flow flow.chain.places (suc i) j y place k.ends k.at was (λ e. differs j (suc i) other (sym e)) in
          t.marks d
          ∙ ((λ l. not ((x.above && not left.above) && first l) && ((not y.above && fed.above) && second l || is_marked board d))
          ∙ (plain (x.above && not left.above) (not y.above && fed.above) (is_marked board d)
          ∙ sym (λ l. if second l then fed.above else (if first l then left.above else is_marked board d))))
        where
          plain : (a b d : Bool) → (not (a && false) && ((b && false) || d)) ≡ d
          plain true true d = refl
          plain true false d = refl
          plain false true d = refl
          plain false false d = refl

          differs : (a b : ℕ) → (a == b) ≡ false → a ≡ b → ⊥
          differs a b other e = absurd (grind (arith, nat_tests))
