-- A send window as callers see it (RFC 9113 sections 6.9.1 and 6.9.2).
use Rattle.std.specs.Prelude.{List, [], pos, ℕ, ℤ, ◌+◌, ◌+ℤ◌, ◌-ℤ◌, ◌∷◌}

-- the peer's initial window in force, and the octets that may be sent, below 0 where too many were
pub record Sending : Type 0 where
  pub initial : ℕ
  pub room : ℤ

-- what happens to a window: octets are sent, an update adds some, the initial window changes
pub data Change : Type 0 where
  Spend : ℕ → Change
  Widen : ℕ → Change
  Shift : ℕ → ℕ → Change

abbrev pub begun : ℕ → Sending
begun initial = record { initial = initial; room = pos initial }

abbrev pub changed : Change → Sending → Sending
changed (Spend n) w = record w { room = w.room -ℤ pos n }
changed (Widen n) w = record w { room = w.room +ℤ pos n }
changed (Shift old new) w = record { initial = new; room = w.room +ℤ (pos new -ℤ pos old) }

-- the window after changes, the newest first
abbrev pub after : ℕ → List Change → Sending
after initial [] = begun initial
after initial (c ∷ past) = changed c (after initial past)

abbrev pub spent : List Change → ℕ
spent [] = 0
spent (Spend n ∷ past) = n + spent past
spent (_ ∷ past) = spent past

abbrev pub widened : List Change → ℕ
widened [] = 0
widened (Widen n ∷ past) = n + widened past
widened (_ ∷ past) = widened past

-- by how much the initial windows rose or fell, all together
abbrev pub shifts : List Change → ℤ
shifts [] = pos 0
shifts (Shift old new ∷ past) = (pos new -ℤ pos old) +ℤ shifts past
shifts (_ ∷ past) = shifts past
