-- Buffers in the order in which they are picked.
use Rattle.std.specs.Prelude.{List, [], if◌then◌else◌, take, ◌∷◌}
use Rattle.tape_plot.specs.Highest.{is_higher}
use Rattle.tape_plot.specs.declared.highest.Highest.{Highest}
use Rattle.tape_plot.specs.declared.highest.Ranked.{Ranked}

abbrev pub ranked_in : Highest → List Ranked
ranked_in highest = highest.items.items

-- a buffer is put behind all that it isn't above
abbrev pub puts : Ranked → List Ranked → List Ranked
puts next [] = next ∷ []
puts next (r ∷ rs) = if is_higher next.height r.height then next ∷ r ∷ rs else r ∷ puts next rs

-- one after the other is put, and the first 40 are kept
abbrev pub kept_of : List Ranked → List Ranked → List Ranked
kept_of [] kept = kept
kept_of (next ∷ rest) kept = kept_of rest (take 40 (puts next kept))
