-- Lines of words. A line that is read is given without its newline, and one that is written ends with it.
use Rattle.std.specs.Prelude.{ℕ, List, ◌∷◌, codes}
use Rattle.std.specs.List.{flat_map, join_with_byte}

-- the words, parted by one space
abbrev pub line_of : List (List ℕ) → List ℕ
line_of words = join_with_byte 32 words

-- words that stand behind another one
abbrev pub spaced : List (List ℕ) → List ℕ
spaced words = flat_map (λ word. 32 ∷ word) words

abbrev pub newline : List ℕ
newline = codes "\n"
