-- Sums over all views, and what a change of one view leaves of them.
use Rattle.std.proofs.Common.{◌≡◌, ℕ, zero, suc, ◌+◌, ◌≤◌, List, [], ◌∷◌, ◌++◌, set, sym, refl, ap, arith}
use mathlib.Core.Option.{some, some-injective, some-ne-none}
use lib.ListN.{get_elem?}
use Rattle.shared_tokens.specs.declared.token.Token.{Token}
use Rattle.shared_tokens.specs.Rule.{total, granted_of, room_of}

pub total_set : (f : Token → ℕ) (l : List Token) (i : ℕ) (v w : Token) → get_elem? l i ≡ some v → total f (set l i w) + f v ≡ total f l + f w
total_set f [] i v w e = absurd (some-ne-none v (sym e))
total_set f (x ∷ xs) zero v w e = let is : f x ≡ f v = ap f (some-injective x v e) in omega arith
total_set f (x ∷ xs) (suc i) v w e = let r = total_set f xs i v w e in omega arith

pub total_snoc : (f : Token → ℕ) (l : List Token) (v : Token) → total f (l ++ v ∷ []) ≡ total f l + f v
total_snoc f [] v = omega arith
total_snoc f (x ∷ xs) v = let r = total_snoc f xs v in omega arith

pub total_le : (f g : Token → ℕ) (l : List Token) → ((i : ℕ) (v : Token) → get_elem? l i ≡ some v → f v ≤ g v) → total f l ≤ total g l
total_le f g [] h = omega arith
total_le f g (x ∷ xs) h = let a = h 0 x refl in let r = total_le f g xs (λ i. h (suc i)) in omega arith

pub part_le : (f : Token → ℕ) (l : List Token) (i : ℕ) (v : Token) → get_elem? l i ≡ some v → f v ≤ total f l
part_le f [] i v e = absurd (some-ne-none v (sym e))
part_le f (x ∷ xs) zero v e = let is : f x ≡ f v = ap f (some-injective x v e) in omega arith
part_le f (x ∷ xs) (suc i) v e = let r = part_le f xs i v e in omega arith

-- views with no room were given nothing, where each that stands for no seat was
none_granted : (l : List Token) → total room_of l ≡ 0 → ((i : ℕ) (v : Token) → get_elem? l i ≡ some v → v.seats ≡ 0 → v.granted ≡ 0) → total granted_of l ≡ 0
none_granted [] none each = refl
none_granted (x ∷ xs) none each =
    let here = each 0 x refl (omega arith) in let r = none_granted xs (omega arith) (λ i. each (suc i)) in
    omega arith

-- where one view stands for all seats, all that is granted was given to it
pub all_granted : (l : List Token) (i : ℕ) (v : Token) → get_elem? l i ≡ some v → total room_of l ≤ v.seats
    → ((j : ℕ) (u : Token) → get_elem? l j ≡ some u → u.seats ≡ 0 → u.granted ≡ 0) → total granted_of l ≡ v.granted
all_granted [] i v e all each = absurd (some-ne-none v (sym e))
all_granted (x ∷ xs) zero v e all each =
    let is = some-injective x v e in let seats : x.seats ≡ v.seats = ap (λ (u : Token). u.seats) is in let same : x.granted ≡ v.granted = ap (λ (u : Token). u.granted) is in
    let r = none_granted xs (omega arith) (λ i. each (suc i)) in
    omega arith
all_granted (x ∷ xs) (suc i) v e all each =
    let part = part_le room_of xs i v e in let here = each 0 x refl (omega arith) in
    let r = all_granted xs i v e (omega arith) (λ j. each (suc j)) in
    omega arith
