-- The pressures of a version, and the list of all that were published.
use Rattle.std.specs.Prelude.{◌≡◌, ℕ, ◌-◌, List, [], ◌∷◌, ◌++◌, length, replicate}

-- the pressures of the resources that are there, and 0 for the others up to 16
abbrev pub padded : List ℕ → List ℕ
padded pressures = pressures ++ replicate (16 - length pressures) 0

abbrev pub StartsWith : List (List ℕ) → List (List ℕ) → Type 0
StartsWith all seen = (rest : List (List ℕ)) × (all ≡ seen ++ rest)

-- the last of the list, or d
abbrev pub last_or : List ℕ → List (List ℕ) → List ℕ
last_or d [] = d
last_or d (x ∷ xs) = last_or x xs
