-- What a site gave to workers, and what came back of it.
use Rattle.std.specs.Option.{option_map}
use Rattle.std.specs.Prelude.{List, None, Option, [], reverse, suc, ℕ, ◌++◌, ◌∷◌, ◌≡◌, ◌⊎◌}

-- connections, clocks and journals by the number of their worker; connections and journals; each in order
pub record WireTold (W C L : Type 0) : Type 0 where
  pub fitted : List (ℕ × (W × (C × L)))
  pub returned : List (ℕ × (W × L))

abbrev pub with_fitted : {W C L : Type 0} → List (ℕ × (W × (C × L))) → Option (WireTold W C L) → Option (WireTold W C L)
with_fitted {W} {C} {L} given told = option_map (λ (t : WireTold W C L). record t { fitted = t.fitted ++ given }) told

abbrev pub with_returned : {W C L : Type 0} → List (ℕ × (W × L)) → Option (WireTold W C L) → Option (WireTold W C L)
with_returned {W} {C} {L} back told = option_map (λ (t : WireTold W C L). record t { returned = t.returned ++ back }) told

-- it tells no more, or these things more
abbrev pub TellsFitted : {W C L : Type 0} → Option (WireTold W C L) → List (ℕ × (W × (C × L))) → Option (WireTold W C L) → Type 0
TellsFitted old given new = (new ≡ None) ⊎ (new ≡ with_fitted given old)

abbrev pub TellsReturned : {W C L : Type 0} → Option (WireTold W C L) → List (ℕ × (W × L)) → Option (WireTold W C L) → Type 0
TellsReturned old back new = (new ≡ None) ⊎ (new ≡ with_returned back old)

-- with numbers from k on
abbrev pub numbered : {A : Type 0} → ℕ → List A → List (ℕ × A)
numbered k [] = []
numbered k (x ∷ xs) = (k, x) ∷ numbered (suc k) xs

-- workers were fitted by their numbers, which count from 1, and what they worked over came back, the last one's first
abbrev pub TellsWorkers : {W C L : Type 0} → Option (WireTold W C L) → List (W × (C × L)) → List (W × L) → Option (WireTold W C L) → Type 0
TellsWorkers old given back new = (new ≡ None) ⊎ (new ≡ with_returned (reverse (numbered 1 back)) (with_fitted (numbered 1 given) old))
