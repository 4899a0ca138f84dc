-- What a part of the outside tells of itself.
use Rattle.std.specs.Option.{option_map}
use Rattle.std.specs.Prelude.{List, None, Option, [], ◌++◌, ◌∷◌, ◌≡◌, ◌⊎◌}

-- a list that is told, with one thing more
abbrev pub with_last : {A : Type 0} → A → Option (List A) → Option (List A)
with_last x told = option_map (λ before. before ++ x ∷ []) told

-- it is told no more, or one thing more is
abbrev pub TellsLast : {A : Type 0} → Option (List A) → A → Option (List A) → Type 0
TellsLast old x new = (new ≡ None) ⊎ (new ≡ with_last x old)

-- a list that is told, with these things more
abbrev pub with_all : {A : Type 0} → List A → Option (List A) → Option (List A)
with_all xs told = option_map (λ before. before ++ xs) told

-- it is told no more, or these things more are
abbrev pub TellsAll : {A : Type 0} → Option (List A) → List A → Option (List A) → Type 0
TellsAll old xs new = (new ≡ None) ⊎ (new ≡ with_all xs old)
