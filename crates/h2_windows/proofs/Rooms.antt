-- The room of a window after a list of changes.
use Rattle.std.proofs.Common.{List, [], ◌∷◌, ℕ, ◌≡◌, arith}
use Rattle.std.specs.Prelude.{pos, ◌+ℤ◌, ◌-ℤ◌}
use Rattle.std.proofs.lemmas.Int.{ints}
use Rattle.h2_windows.specs.SendWindow.{Change, Spend, Widen, Shift, after, shifts, spent, widened}

pub room-after : (initial : ℕ) (changes : List Change) → (after initial changes).room ≡ (((pos initial +ℤ pos (widened changes)) +ℤ shifts changes) -ℤ pos (spent changes))
room-after initial [] = omega (arith, ints)
room-after initial (Spend n ∷ past) = let before = room-after initial past in omega (arith, ints)
room-after initial (Widen n ∷ past) = let before = room-after initial past in omega (arith, ints)
room-after initial (Shift old new ∷ past) = let before = room-after initial past in omega (arith, ints)
