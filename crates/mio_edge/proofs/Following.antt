-- The first of the octets of a block from a place on, up to another, and those behind them.
use Rattle.std.proofs.Common.{ap, arith, sym, ◌∙◌}
use Rattle.std.proofs.lemmas.List.{drop-drop, drop-take, length-take, take-take}
use Rattle.std.specs.Prelude.{List, drop, length, take, ℕ, ◌+◌, ◌-◌, ◌≡◌, ◌≤◌}

pub front_of : (from to n : ℕ) (block : List ℕ) → n ≤ length (take (to - from) (drop from block))
    → take n (take (to - from) (drop from block)) ≡ take n (drop from block)
front_of from to n block reach = take-take n (to - from) (drop from block) (omega (arith, reach, length-take (to - from) (drop from block)))

pub rest_of : (from to n : ℕ) (block : List ℕ) → n ≤ length (take (to - from) (drop from block))
    → take (to - (from + n)) (drop (from + n) block) ≡ drop n (take (to - from) (drop from block))
rest_of from to n block reach =
    let fits : n ≤ to - from = omega (arith, reach, length-take (to - from) (drop from block)) in
    let split : to - from ≡ n + (to - (from + n)) = omega (arith, fits) in
    ap (take (to - (from + n))) (sym (drop-drop n from block)) ∙ sym (ap (λ (k : ℕ). drop n (take k (drop from block))) split ∙ drop-take n (to - (from + n)) (drop from block))
