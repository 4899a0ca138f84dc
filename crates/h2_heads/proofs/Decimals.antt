-- What the digits so far say of the number.
use Rattle.std.proofs.Common.{IsTrue, List, [], ◌∷◌, ℕ, ◌+◌, ◌<◌, ◌≡◌, ◌≤◌, ◌^◌, ◌&&◌, ap, arith, drop, get_or, length, take}
use Rattle.std.specs.List.{fold}
use Rattle.std.specs.Prelude.{nat_lt}
use Rattle.std.proofs.lemmas.Bool.Decides.{nat_tests}
use Rattle.std.proofs.lemmas.List.{take-append-drop}
use Rattle.std.proofs.lemmas.List.Folds.{list_all_at}
use Rattle.std.proofs.lemmas.List.Sums.{fold-append, fold_more}
use Rattle.h2_heads.specs.Numbers.{decimal, is_decimal, is_digit, with_digit}

-- more digits never make a number smaller
fold_grows : (n : ℕ) (digits : List ℕ) → n ≤ fold with_digit n digits
fold_grows n [] = omega arith
fold_grows n (d ∷ ds) = omega (arith, fold_grows (with_digit n d) ds)

decimal_grows : (value : List ℕ) (i : ℕ) → decimal (take i value) ≤ decimal value
decimal_grows value i =
    let parts = fold-append with_digit 0 (take i value) (drop i value) in
    let whole = ap (fold with_digit 0) (take-append-drop i value) in
    omega (arith, fold_grows (decimal (take i value)) (drop i value), parts, whole)

-- in a number each digit so far and the next one are digits, and what they say is small
pub decimal_next : (value : List ℕ) (i n : ℕ) → i < length value → n ≡ decimal (take i value) → IsTrue (is_decimal value) → IsTrue (is_digit (get_or value i 0) && nat_lt (with_digit n (get_or value i 0)) (2 ^ 63))
decimal_next value i n within so_far whole =
    let more = fold_more with_digit 0 value i 0 within in
    let grows = decimal_grows value (i + 1) in
    let digit = list_all_at is_digit value i 0 within in
    grind (arith, nat_tests)
