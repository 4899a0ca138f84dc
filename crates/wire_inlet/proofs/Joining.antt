-- Octets that come where none are left, and octets that are joined.
use Rattle.std.proofs.Common.{ap, arith, refl, sym, ◌∙◌}
use Rattle.std.proofs.Math.Seq.{drop-append_seam}
use Rattle.std.proofs.lemmas.Bool.Decides.{nat_tests}
use Rattle.std.proofs.lemmas.List.{drop-drop, length-append, length-drop}
use Rattle.std.specs.Prelude.{List, [], drop, length, suc, take, true, ℕ, ◌++◌, ◌+◌, ◌-◌, ◌<◌, ◌==◌, ◌∷◌, ◌≡◌, ◌≤◌}

some_left : (n : ℕ) → (suc n == 0) ≡ true → ⊥
some_left n e = grind (arith, nat_tests)

pub none_before : (old more : List ℕ) → (length old == 0) ≡ true → old ++ more ≡ more
none_before [] more e = refl
none_before (x ∷ xs) more e = absurd (some_left (length xs) e)

-- octets that are joined to others end them
pub ends_with : (octets more : List ℕ) → drop (length (octets ++ more) - length more) (octets ++ more) ≡ more
ends_with octets more =
    let place : length (octets ++ more) - length more ≡ length octets = omega (arith, length-append octets more) in
    ap (λ (k : ℕ). drop k (octets ++ more)) place ∙ drop-append_seam octets more

-- what is left of octets is left of those that end them, once there are no more
pub left_of_last : (at : ℕ) (octets last : List ℕ) → drop (length octets - length last) octets ≡ last
    → length (drop at octets) ≤ length last → 0 < length (drop at octets) → drop (length last - length (drop at octets)) last ≡ drop at octets
left_of_last at octets last is few some =
    let left = length-drop at octets in
    let reach : length octets - (length octets - length last) ≡ length last = sym (length-drop (length octets - length last) octets) ∙ ap length is in
    let place : length octets - length last + (length last - length (drop at octets)) ≡ at = omega (arith, left, reach, few, some) in
    ap (drop (length last - length (drop at octets))) (sym is) ∙ drop-drop (length last - length (drop at octets)) (length octets - length last) octets ∙ ap (λ (k : ℕ). drop k octets) place

-- some of what is left, from a place that is counted from the end
pub part_behind : (at from n : ℕ) (octets : List ℕ) → at ≤ length octets → from + n ≤ length (drop at octets)
    → take n (drop (length octets - (length octets - at - from)) octets) ≡ take n (drop from (drop at octets))
part_behind at from n octets inside reach =
    let first : length octets - (length octets - at - from) ≡ at + from = omega (arith, length-drop at octets, inside, reach) in
    ap (λ (k : ℕ). take n (drop k octets)) first ∙ ap (take n) (sym (drop-drop from at octets))
