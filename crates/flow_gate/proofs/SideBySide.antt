-- The flows of a line side by side.
use Rattle.flow_gate.proofs.Full.{AreTaken, all_taken}
use Rattle.flow_gate.proofs.Live.{Rises-closed, all-closed, closed, live-closed, live-more, live-push}
use Rattle.flow_gate.proofs.Parts.{lent_part, stands_between}
use Rattle.flow_gate.proofs.Rising.{Rises}
use Rattle.flow_gate.specs.Line.{IsInOrder, IsRow, between, is_taken, live, places_of}
use Rattle.flow_rules.specs.declared.ids.FlowId.{FlowId}
use Rattle.flow_gate.specs.declared.stands.Stand.{Stand}
use Rattle.std.proofs.Common.{ap, arith, refl, subst, sym, ◌∙◌}
use Rattle.std.proofs.lemmas.Bool.{false≢true, ne_eqb}
use Rattle.std.proofs.lemmas.List.{append-nil, length-map, length_push, map_push}
use Rattle.std.specs.Iterator.{YieldsFirst}
use Rattle.std.specs.List.{AllByRecursion, cons_option}
use Rattle.std.specs.Map.{values_of}
use Rattle.std.specs.Prelude.{Bool, List, None, Option, Some, [], cond, drop, filter, is_some, length, nat_eq, not, option_map, suc, slice_index_or, take, true, zero, ℕ, ◌++◌, ◌+◌, ◌<◌, ◌∷◌, ◌≡◌, ◌≤◌}

-- an empty row is none, or that of an empty line
pub empty_row : (ss : List Stand) → IsRow [] ss
empty_row [] same = refl
empty_row (s ∷ ss) same = absurd (omega (arith, same))

-- one flow more, and its stand
pub row_push : (row : List FlowId) (ss : List Stand) (place : ℕ) (flow : FlowId) → IsRow row ss → length row + 1 ≡ length (ss ++ record { place = place; flow = Some flow } ∷ []) →
    row ++ flow ∷ [] ≡ values_of (live (ss ++ record { place = place; flow = Some flow } ∷ []))
row_push row ss place flow is same =
    let stand : Stand = record { place = place; flow = Some flow } in
    let long : length (ss ++ stand ∷ []) ≡ length ss + 1 = length_push ss stand in
    ap (λ fs. fs ++ flow ∷ []) (is (omega (arith, same, long)))
    ∙ sym (ap values_of (live-push ss (ss ++ stand ∷ []) place flow refl) ∙ map_push (λ (e : ℕ × FlowId). e.1) (live ss) (place, flow))

-- ---- a part of the row
drop_flows : (i : ℕ) (ss : List Stand) → AreTaken ss → drop i (values_of (live ss)) ≡ values_of (live (drop i ss))
drop_flows zero ss all = refl
drop_flows (suc i) [] all = refl
drop_flows (suc i) (s ∷ ss) all = by_flow s.flow all.0 (drop_flows i ss all.1)
  where
    by_flow : (o : Option FlowId) → is_some o ≡ true → drop i (values_of (live ss)) ≡ values_of (live (drop i ss)) →
        drop (suc i) (values_of (cons_option (option_map (λ f. (s.place, f)) o) (live ss))) ≡ values_of (live (drop i ss))
    by_flow None some rest = absurd (false≢true some)
    by_flow (Some f) some rest = rest

drop_taken : (i : ℕ) (ss : List Stand) → AreTaken ss → AreTaken (drop i ss)
drop_taken zero ss all = all
drop_taken (suc i) [] all = tt
drop_taken (suc i) (s ∷ ss) all = drop_taken i ss all.1

take_flows : (n : ℕ) (ss : List Stand) → AreTaken ss → take n (values_of (live ss)) ≡ values_of (live (take n ss))
take_flows zero [] all = refl
take_flows zero (s ∷ ss) all = refl
take_flows (suc n) [] all = refl
take_flows (suc n) (s ∷ ss) all = by_flow s.flow all.0 (take_flows n ss all.1)
  where
    by_flow : (o : Option FlowId) → is_some o ≡ true → take n (values_of (live ss)) ≡ values_of (live (take n ss)) →
        take (suc n) (values_of (cons_option (option_map (λ f. (s.place, f)) o) (live ss))) ≡ values_of (cons_option (option_map (λ f. (s.place, f)) o) (live (take n ss)))
    by_flow None some rest = absurd (false≢true some)
    by_flow (Some f) some rest = ap (λ fs. f ∷ fs) rest

-- the flows of some stands one after another
pub row_part : (row : List FlowId) (ss : List Stand) (i n : ℕ) → IsRow row ss → length row ≡ length ss → take n (drop i row) ≡ values_of (live (take n (drop i ss)))
row_part row ss i n is same =
    let flows : row ≡ values_of (live ss) = is same in
    let long : length (values_of (live ss)) ≡ length (live ss) = length-map (live ss) (λ (e : ℕ × FlowId). e.1) in
    let short : length row ≡ length (values_of (live ss)) = ap length flows in
    let all : AreTaken ss = all_taken ss (omega (arith, same, long, short)) in
    ap (λ fs. take n (drop i fs)) flows ∙ ap (take n) (drop_flows i ss all) ∙ take_flows n (drop i ss) (drop_taken i ss all)

pub lent_row : (row : List FlowId) (line ss : List Stand) (i n from to : ℕ) → IsRow row line → length row ≡ length line → ss ≡ line → take n (drop i ss) ≡ stands_between from to ss →
    take n (drop i row) ≡ values_of (between from to (live line))
lent_row row line ss i n from to is same lent part =
    row_part row line i n is same
    ∙ ap (λ ts. values_of (live (take n (drop i ts)))) (sym lent)
    ∙ ap values_of (lent_part from to line ss (take n (drop i ss)) lent part)

-- ---- one more stand is copied
module _ (i : ℕ) (ss : List Stand) (d : Stand) (less : i < length ss) where
  pub flow_copied : (f : FlowId) → (slice_index_or ss i d).flow ≡ Some f → values_of (live (take i ss)) ++ f ∷ [] ≡ values_of (live (take (i + 1) ss))
  flow_copied f is =
      let place : ℕ = (slice_index_or ss i d).place in
      sym (ap values_of (live-more i ss d less ∙ ap (λ o. live (take i ss) ++ cons_option (option_map (λ g. (place, g)) o) []) is) ∙ map_push (λ (e : ℕ × FlowId). e.1) (live (take i ss)) (place, f))

  pub gap_passed : (slice_index_or ss i d).flow ≡ None → values_of (live (take i ss)) ≡ values_of (live (take (i + 1) ss))
  gap_passed is =
      let place : ℕ = (slice_index_or ss i d).place in
      sym (ap values_of (live-more i ss d less ∙ ap (λ o. live (take i ss) ++ cons_option (option_map (λ g. (place, g)) o) []) is ∙ append-nil (live (take i ss))))

-- ---- the gaps go where the row is not as long as the line
pub gaps_gone : (n m : ℕ) (ss : List Stand) → (n ≡ m → ⊥) → filter is_taken ss ≡ cond (not (nat_eq n m)) (filter is_taken ss) ss
gaps_gone n m ss apart = sym (ap (λ b. cond (not b) (filter is_taken ss) ss) (ne_eqb n m apart))

pub live_whole : (b : Bool) (ss new : List Stand) → new ≡ closed b ss → live new ≡ live ss
live_whole b ss new is = ap live is ∙ live-closed b ss

pub in_order_whole : (next told drained told' drained' standing : ℕ) (row row' : List FlowId) (b : Bool) (ss new : List Stand) → new ≡ closed b ss → IsRow row' new →
    told' ≤ drained' → drained' ≤ next → IsInOrder next told drained standing row ss → IsInOrder next told' drained' standing row' new
in_order_whole next told drained told' drained' standing row row' b ss new is whole forward within order = record {
  rising = subst Rises (sym is) (Rises-closed b ss order.rising);
  below = subst (λ ts. AllByRecursion (λ p. p < next) (places_of ts)) (sym is) (all-closed (λ p. p < next) b ss order.below);
  forward = forward;
  within = within;
  counted = order.counted ∙ ap length (sym (live_whole b ss new is));
  few = order.few;
  whole = whole;
}

-- ---- what comes after an empty row
pub steps_after : (row old new : List FlowId) (r : Option FlowId) → length row ≡ 0 → YieldsFirst (λ (fs : List FlowId). fs) old r new → YieldsFirst (λ (fs : List FlowId). fs) (row ++ old) r (row ++ new)
steps_after [] old new r none steps = steps
steps_after (f ∷ row) old new r none steps = absurd (omega (arith, none))
