-- A string of bits that has been read in part.
use Rattle.std.specs.Prelude.{◌≡◌, ℕ, Bool, List, ◌++◌}
use Rattle.huffman.specs.Huffman.{IsSpelled}

-- The whole spells a text exactly where that is what was read, and then a text that the rest spells.
pub record Reads (whole rest : List Bool) (out : List ℕ) : Type 0 where
  pub onward : (text : List ℕ) → IsSpelled rest text → IsSpelled whole (out ++ text)
  pub only : (text : List ℕ) → IsSpelled whole text → (after : List ℕ) × (text ≡ out ++ after) × IsSpelled rest after

-- The bits spell no text.
pub record SpellsNone (whole : List Bool) : Type 0 where
  pub none : (text : List ℕ) → IsSpelled whole text → ⊥
