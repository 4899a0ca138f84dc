-- Each step on the permits' word keeps the rule.
use Rattle.std.proofs.Common.{◌≡◌, ◌≢◌, ℕ, zero, suc, ◌+◌, ◌-◌, ◌%◌, ◌^◌, ◌<◌, ◌≤◌, List, [], ◌∷◌, ◌++◌, get_or, set, sym, refl, ap, ◌∙◌, subst, ⊎_elim, arith, lt_of_not-le}
use mathlib.Core.Logic.{dite}
use mathlib.Core.Option.{some, some-injective, some-ne-none}
use native.Mathlib.Decide.{dec_le}
use lib.ListN.{get_elem?}
use Rattle.atomic_table.specs.Table.{State, Me, keeps, stepped, Allows, Splits}
use Rattle.atomic_table.proofs.Lists.{at_set, at_snoc}
use Rattle.shared_state.specs.declared.permit_rule.PermitView.{PermitView}
use Rattle.shared_state.specs.PermitRule.{most, total, held_of, owing_of, room_of, Fits, IsAtMostMax, newcomer, granted, refused, Entered, gave_back, left, dealt}

abbrev St : Type 0
St = State (Unit {0}) PermitView

abbrev M : Type 0
M = Me (Unit {0}) PermitView

-- the total after a change of one view
total_set : (f : PermitView → ℕ) (l : List PermitView) (i : ℕ) (v w : PermitView) → get_elem? l i ≡ some v → total f (set l i w) + f v ≡ total f l + f w
total_set f [] i v w e = absurd (some-ne-none v (sym e))
total_set f (x ∷ xs) zero v w e = let is : f x ≡ f v = ap f (some-injective x v e) in omega arith
total_set f (x ∷ xs) (suc i) v w e = let r = total_set f xs i v w e in omega arith

total_snoc : (f : PermitView → ℕ) (l : List PermitView) (v : PermitView) → total f (l ++ v ∷ []) ≡ total f l + f v
total_snoc f [] v = omega arith
total_snoc f (x ∷ xs) v = let r = total_snoc f xs v in omega arith

total_le : (f g : PermitView → ℕ) (l : List PermitView) → ((i : ℕ) (v : PermitView) → get_elem? l i ≡ some v → f v ≤ g v) → total f l ≤ total g l
total_le f g [] h = omega arith
total_le f g (x ∷ xs) h = let a = h 0 x refl in let r = total_le f g xs (λ i. h (suc i)) in omega arith

-- a view's part is at most the total
part_le : (f : PermitView → ℕ) (l : List PermitView) (i : ℕ) (v : PermitView) → get_elem? l i ≡ some v → f v ≤ total f l
part_le f [] i v e = absurd (some-ne-none v (sym e))
part_le f (x ∷ xs) zero v e = let is : f x ≡ f v = ap f (some-injective x v e) in omega arith
part_le f (x ∷ xs) (suc i) v e = let r = part_le f xs i v e in omega arith

-- all that is owed is at most the number of seats
few_owed : (max : ℕ) (s : St) → IsAtMostMax max s → total owing_of s.views ≤ most + 1
few_owed max s r = let a = total_le owing_of room_of s.views (λ i v at. let o = (r.each i v at).1 in omega arith) in let b = r.seats in omega arith

-- a step that writes n, after which the seat's view is w
moved : (max : ℕ) (s : St) → IsAtMostMax max s → (id : ℕ) (me : M) (w : PermitView) (n : ℕ) → get_elem? s.views id ≡ some me.0
    → Fits max w → w.splits ≤ me.0.splits
    → n ≡ total held_of (set s.views id w) + total owing_of (set s.views id w) → total held_of (set s.views id w) ≤ max
    → IsAtMostMax max (stepped s 0 n id me.1 w keeps)
moved max s r id me w n at fits room is bound = let t = total_set room_of s.views id me.0 w at in let q = r.seats in
    record {
      words = ap (λ ws. set ws 0 n) r.words ∙ ap (λ m. m ∷ max ∷ []) is;
      bound = bound;
      small = r.small;
      seats = omega arith;
      each = λ j u e. ⊎_elim (λ (t : (j ≡ id) × (w ≡ u)). subst (Fits max) t.1 fits) (λ (t : (j ≢ id) × (get_elem? s.views j ≡ some u)). r.each j u t.1) (at_set s.views id j w u e);
    }

pub enters : (max slots id : ℕ) (me : M) → me.0.owing ≡ 0
    → Allows (IsAtMostMax max) slots id me 0 (λ n. (n + 1) % 2 ^ 64) (λ found me'. Entered me.0 found me'.0)
enters max slots id me paid s r _ at small =
    let found : ℕ = get_or s.words 0 0 in let is : found ≡ total held_of s.views + total owing_of s.views = ap (λ ws. get_or ws 0 0) r.words in
    let owed = few_owed max s r in let low = r.bound in let few = r.small in let same = (r.each id me.0 at).0 in
    let next : ℕ = (found + 1) % 2 ^ 64 in let next_is : next ≡ found + 1 = omega arith in
    let g : PermitView = granted me.0 found in let d : PermitView = refused me.0 found in
    let gh = total_set held_of s.views id me.0 g at in let go = total_set owing_of s.views id me.0 g at in
    let dh = total_set held_of s.views id me.0 d at in let do' = total_set owing_of s.views id me.0 d at in
    dite (dec_le max found)
    (λ full. (d, keeps, tt, moved max s r id me d next at (same, omega arith) (omega arith) (omega arith) (omega arith), ((λ lt. absurd (omega arith)), λ _. refl)))
    (λ room. let below : found < max = lt_of_not-le room in
    (g, keeps, tt, moved max s r id me g next at (same, omega arith) (omega arith) (omega arith) (omega arith), ((λ _. refl), λ le. absurd (omega arith))))

pub gives : (max slots id : ℕ) (me : M) → me.0.owing ≡ 1
    → Allows (IsAtMostMax max) slots id me 0 (λ n. (n + (2 ^ 64 - 1)) % 2 ^ 64) (λ _ me'. me'.0 ≡ gave_back me.0)
gives max slots id me owes s r _ at small =
    let found : ℕ = get_or s.words 0 0 in let is : found ≡ total held_of s.views + total owing_of s.views = ap (λ ws. get_or ws 0 0) r.words in
    let there = part_le owing_of s.views id me.0 at in let low = r.bound in let same = (r.each id me.0 at).0 in
    let next : ℕ = (found + (2 ^ 64 - 1)) % 2 ^ 64 in let fits : found < 18446744073709551616 = small in let next_is : next + 1 ≡ found = omega arith in
    let w : PermitView = gave_back me.0 in let h = total_set held_of s.views id me.0 w at in let o = total_set owing_of s.views id me.0 w at in
    (w, keeps, tt, moved max s r id me w next at (same, omega arith) (omega arith) (omega arith) (omega arith), refl)

pub leaves : (max slots id : ℕ) (me : M) → 0 < me.0.held → me.0.owing ≡ 0
    → Allows (IsAtMostMax max) slots id me 0 (λ n. (n + (2 ^ 64 - 1)) % 2 ^ 64) (λ _ me'. me'.0 ≡ left me.0)
leaves max slots id me some_held paid s r _ at small =
    let found : ℕ = get_or s.words 0 0 in let is : found ≡ total held_of s.views + total owing_of s.views = ap (λ ws. get_or ws 0 0) r.words in
    let there = part_le held_of s.views id me.0 at in let low = r.bound in let same = (r.each id me.0 at).0 in
    let next : ℕ = (found + (2 ^ 64 - 1)) % 2 ^ 64 in let fits : found < 18446744073709551616 = small in let next_is : next + 1 ≡ found = omega arith in
    let w : PermitView = left me.0 in let h = total_set held_of s.views id me.0 w at in let o = total_set owing_of s.views id me.0 w at in
    (w, keeps, tt, moved max s r id me w next at (same, omega arith) (omega arith) (omega arith) (omega arith), refl)

pub splits : (max id : ℕ) (v : PermitView) → 0 < v.splits → v.max ≡ max → Splits (IsAtMostMax max) id v (dealt v) (newcomer v.max 0)
splits max id v some_left same s r at =
    let w : PermitView = dealt v in let u : PermitView = newcomer v.max 0 in let vs : List PermitView = set s.views id w in
    let h = total_set held_of s.views id v w at in let o = total_set owing_of s.views id v w at in let t = total_set room_of s.views id v w at in
    let h' = total_snoc held_of vs u in let o' = total_snoc owing_of vs u in let t' = total_snoc room_of vs u in
    let low = r.bound in let q = r.seats in let mine = r.each id v at in
    let sum : total held_of s.views + total owing_of s.views ≡ total held_of (vs ++ u ∷ []) + total owing_of (vs ++ u ∷ []) = omega arith in
    record {
      words = r.words ∙ ap (λ m. m ∷ max ∷ []) sum;
      bound = omega arith;
      small = r.small;
      seats = omega arith;
      each = λ j x e. ⊎_elim (λ was. ⊎_elim (λ (t : (j ≡ id) × (w ≡ x)). subst (Fits max) t.1 mine) (λ (t : (j ≢ id) × (get_elem? s.views j ≡ some x)). r.each j x t.1) (at_set s.views id j w x was))
          (λ (is : u ≡ x). subst (Fits max) is (same, omega arith)) (at_snoc vs u x j e);
    }
