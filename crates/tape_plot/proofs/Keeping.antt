-- Octets at places, as the code keeps them.
use Rattle.std.proofs.Common.{ap, refl, ◌∙◌}
use Rattle.std.specs.Prelude.{List, [], length, map, replicate, ℕ, ◌∷◌, ◌≡◌}

zeros : (xs : List ℕ) → replicate {A = ℕ} (length xs) 0 ≡ map (λ _. 0) xs
zeros [] = refl
zeros (x ∷ xs) = ap (λ (v : List ℕ). 0 ∷ v) (zeros xs)

pub all_zeros : (n : ℕ) (xs new : List ℕ) → n ≡ length xs → new ≡ replicate {A = ℕ} n 0 → new ≡ map (λ _. 0) xs
all_zeros n xs new e f = f ∙ ap (λ (v : ℕ). replicate {A = ℕ} v 0) e ∙ zeros xs
