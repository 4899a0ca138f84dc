-- Tests of all elements by those at the two ends.
use Rattle.std.proofs.Common.{Bool, List, ℕ, ◌+◌, ◌-◌, ◌≡◌, ◌≤◌, ◌++◌, ◌∙◌, ◌&&◌, ◌||◌, ap, arith, drop, false, length, not, refl, sym, take, true}
use Rattle.std.proofs.lemmas.Bool.Decides.{nat_tests}
use Rattle.std.proofs.lemmas.List.{drop-append-le, length-take-le, take-append-drop}
use Rattle.std.proofs.lemmas.List.Folds.{list_all-append, list_any-append}
use Rattle.std.proofs.lemmas.Slice.Eq.{bytes_eq-Decides}
use Rattle.std.specs.List.{list_all, list_any, slice_get}
use Rattle.std.specs.Option.{option_map_or}
use Rattle.std.specs.Prelude.{◌==◌}
use Rattle.std.specs.Str.{bytes_eq}

-- what lies past some of the first n
behind : {X : Type 0} (xs : List X) (n m : ℕ) → m ≤ n → n ≤ length xs → drop m xs ≡ drop m (take n xs) ++ drop n xs
behind xs n m within all =
    let kept = length-take-le n xs all in
    ap (drop m) (sym (take-append-drop n xs)) ∙ drop-append-le m (take n xs) (drop n xs) (omega (arith, kept))

or_shared : (a b c : Bool) → ((a || b) || (b || c)) ≡ ((a || b) || c)
or_shared true b c = refl
or_shared false true c = refl
or_shared false false c = refl

any_shared : {X : Type 0} (p : X → Bool) (xs : List X) (n m : ℕ) → m ≤ n → n ≤ length xs → (list_any p (take n xs) || list_any p (drop m xs)) ≡ list_any p xs
any_shared p xs n m within all =
    let first = ap (list_any p) (sym (take-append-drop m (take n xs))) ∙ list_any-append p (take m (take n xs)) (drop m (take n xs)) in
    let last = ap (list_any p) (behind xs n m within all) ∙ list_any-append p (drop m (take n xs)) (drop n xs) in
    let whole = ap (list_any p) (sym (take-append-drop n xs)) ∙ list_any-append p (take n xs) (drop n xs) in
    cc (or_shared (list_any p (take m (take n xs))) (list_any p (drop m (take n xs))) (list_any p (drop n xs)))

pub any_ends : {X : Type 0} (p : X → Bool) (xs : List X) (n : ℕ) → n ≤ length xs → length xs ≤ n + n → (list_any p (take n xs) || list_any p (drop (length xs - n) xs)) ≡ list_any p xs
any_ends p xs n within covered = any_shared p xs n (length xs - n) (omega arith) within

and_shared : (a b c : Bool) → ((a && b) && (b && c)) ≡ ((a && b) && c)
and_shared true true c = refl
and_shared true false c = refl
and_shared false b c = refl

all_shared : {X : Type 0} (p : X → Bool) (xs : List X) (n m : ℕ) → m ≤ n → n ≤ length xs → (list_all p (take n xs) && list_all p (drop m xs)) ≡ list_all p xs
all_shared p xs n m within all =
    let first = ap (list_all p) (sym (take-append-drop m (take n xs))) ∙ list_all-append p (take m (take n xs)) (drop m (take n xs)) in
    let last = ap (list_all p) (behind xs n m within all) ∙ list_all-append p (drop m (take n xs)) (drop n xs) in
    let whole = ap (list_all p) (sym (take-append-drop n xs)) ∙ list_all-append p (take n xs) (drop n xs) in
    cc (and_shared (list_all p (take m (take n xs))) (list_all p (drop m (take n xs))) (list_all p (drop n xs)))

pub all_ends : {X : Type 0} (p : X → Bool) (xs : List X) (n : ℕ) → n ≤ length xs → length xs ≤ n + n → (list_all p (take n xs) && list_all p (drop (length xs - n) xs)) ≡ list_all p xs
all_ends p xs n within covered = all_shared p xs n (length xs - n) (omega arith) within

abbrev last_of : List ℕ → ℕ
last_of octets = option_map_or (λ (octet : ℕ). octet) (slice_get octets (length octets - 1)) 0

-- octets whose last ones differ aren't the same
pub other_ends : (octets others : List ℕ) (a b : ℕ) → a ≡ last_of octets → b ≡ last_of others → not (a == b) ≡ true → bytes_eq octets others ≡ false
other_ends octets others a b at bt differ =
    let step : (v : Bool) → bytes_eq octets others ≡ v → v ≡ false =
    λ v. elim v as (λ w. bytes_eq octets others ≡ w → w ≡ false) [
      | true ↦ λ same.
          let alike : a ≡ b = at ∙ ap last_of ((bytes_eq-Decides octets others).0 same) ∙ sym bt in
          let equal : (a == b) ≡ true = grind (arith, nat_tests) in
          sym differ ∙ ap not equal
      | false ↦ λ other. refl
    ] in
    step (bytes_eq octets others) refl
