-- The symbol that begins 30 bits, by the numbers that each code takes.
use Rattle.std.specs.Prelude.{ℕ, zero, suc, ◌+◌, ◌^◌, Bool, nat_lt, List, [], ◌∷◌, if◌then◌else◌}
use Rattle.huffman.specs.Huffman.{symbols, width}

-- the symbol among whose numbers of 30 bits w is, and its length
abbrev pub found_from : ℕ → List (ℕ × ℕ) → ℕ → ℕ × ℕ
found_from start [] w = (256, 30)
found_from start (e ∷ rest) w = if nat_lt w (start + width e.1) then e else found_from (start + width e.1) rest w

unfoldable pub symbol_at : ℕ → ℕ × ℕ
symbol_at w = found_from 0 symbols w

-- the first n bits as a number, with zeros where there are fewer
abbrev pub top : ℕ → List Bool → ℕ
top zero all = 0
top (suc n) [] = 0
top (suc n) (b ∷ rest) = (if b then 2 ^ n else 0) + top n rest
