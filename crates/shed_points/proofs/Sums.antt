-- Sums of states, and the wholes in them.
use Rattle.std.proofs.Common.{Bool, arith, false, refl, true, ℕ, ◌%◌, ◌+◌, ◌/◌, ◌≡◌, ◌≤◌}
use Rattle.std.proofs.lemmas.Bool.{le-leb, leb-true, ltb-false, ltb-true, ltb_from_iff}
use Rattle.std.specs.Prelude.{if◌then◌else◌, nat_le}
use Rattle.shed_points.specs.Shedding.{grows}

-- what is left of the sum makes a whole with the state exactly where one more whole is reached
pub due_is : (rest state s x : ℕ) → rest ≡ s % 1000000 → state ≡ x → x ≤ 1000000 → nat_le 1000000 (rest + state) ≡ grows s x
due_is rest state s x r e h = ltb_from_iff (λ t. omega (arith, leb-true 1000000 (rest + state) t), λ lt. le-leb 1000000 (rest + state) (omega (arith, lt)))

pub rest_is : (rest state s x : ℕ) → rest ≡ s % 1000000 → state ≡ x → (rest + state) % 1000000 ≡ (s + x) % 1000000
rest_is rest state s x r e = omega arith

either : (b : Bool) (n m k : ℕ) → (b ≡ true → n ≡ m) → (b ≡ false → n ≡ k) → n ≡ (if b then m else k)
either true n m k f g = f refl
either false n m k f g = g refl

pub wholes : (s x : ℕ) → x ≤ 1000000 → (s + x) / 1000000 ≡ (if grows s x then s / 1000000 + 1 else s / 1000000)
wholes s x h = either (grows s x) ((s + x) / 1000000) (s / 1000000 + 1) (s / 1000000) (λ t. omega (arith, ltb-true (s / 1000000) ((s + x) / 1000000) t)) (λ f. omega (arith, ltb-false (s / 1000000) ((s + x) / 1000000) f))
