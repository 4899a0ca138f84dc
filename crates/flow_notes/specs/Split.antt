-- The words of a line that is read.
use Rattle.std.specs.Prelude.{ℕ, ◌==◌, Bool, List, [], ◌∷◌, Option, None, Some}
use denote.Ref.{Bor}
use Rattle.std.specs.List.{slice_split}

abbrev pub is_space : ℕ → Bool
is_space c = c == 32

-- what stands before, between and behind the spaces
unfoldable pub words_in : List ℕ → List (List ℕ)
words_in line = slice_split is_space line

-- the words behind another one: none, or those of the rest of the line
abbrev pub words_behind : Option (Bor (List ℕ)) → List (List ℕ)
words_behind None = []
words_behind (Some rest) = words_in rest.now

-- exactly one word, two, three or four
unfoldable pub one_of : List (List ℕ) → Option (List ℕ)
one_of (a ∷ []) = Some a
one_of _ = None

unfoldable pub two_of : List (List ℕ) → Option (List ℕ × List ℕ)
two_of (a ∷ b ∷ []) = Some (a, b)
two_of _ = None

unfoldable pub three_of : List (List ℕ) → Option (List ℕ × List ℕ × List ℕ)
three_of (a ∷ b ∷ c ∷ []) = Some (a, b, c)
three_of _ = None

unfoldable pub four_of : List (List ℕ) → Option (List ℕ × List ℕ × List ℕ × List ℕ)
four_of (a ∷ b ∷ c ∷ d ∷ []) = Some (a, b, c, d)
four_of _ = None
