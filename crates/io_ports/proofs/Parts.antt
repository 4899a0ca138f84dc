-- Parts of a block of octets.
use Rattle.std.proofs.Common.{ap, arith, ◌∙◌}
use Rattle.std.proofs.Math.Seq.{take-add}
use Rattle.std.proofs.lemmas.List.{drop-drop, drop-take, length-take, take-take}
use Rattle.std.specs.Prelude.{List, drop, length, take, ℕ, ◌++◌, ◌+◌, ◌-◌, ◌≡◌, ◌≤◌}

-- some octets of a part are a part of the block
pub part_of_part : (first len from n : ℕ) (block : List ℕ) → from + n ≤ length (take len (drop first block))
    → take n (drop from (take len (drop first block))) ≡ take n (drop (first + from) block)
part_of_part first len from n block reach =
    let fits : from + n ≤ len = omega (arith, reach, length-take len (drop first block)) in
    let rest : len ≡ from + (len - from) = omega (arith, fits) in
    let cut : drop from (take len (drop first block)) ≡ take (len - from) (drop (first + from) block) =
    ap (λ (k : ℕ). drop from (take k (drop first block))) rest ∙ drop-take from (len - from) (drop first block) ∙ ap (take (len - from)) (drop-drop from first block) in
    ap (take n) cut ∙ take-take n (len - from) (drop (first + from) block) (omega (arith, fits))

-- a part, and the octets that stand before it
pub grown : (from len : ℕ) (before block : List ℕ) → length before ≤ from → take (length before) (drop (from - length before) block) ≡ before
    → take (len + length before) (drop (from - length before) block) ≡ before ++ take len (drop from block)
grown from len before block fits is =
    let more : len + length before ≡ length before + len = omega arith in
    let place : from - length before + length before ≡ from = omega arith in
    let behind : drop (length before) (drop (from - length before) block) ≡ drop from block = drop-drop (length before) (from - length before) block ∙ ap (λ (k : ℕ). drop k block) place in
    ap (λ (k : ℕ). take k (drop (from - length before) block)) more ∙ take-add (length before) len (drop (from - length before) block) ∙ (λ i. is i ++ take len (behind i))
