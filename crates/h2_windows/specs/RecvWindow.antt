-- A receive window as callers see it (RFC 9113 section 5.2).
use Rattle.std.specs.Prelude.{Bool, nat_le, nat_lt, ℕ, ◌&&◌, ◌*◌, ◌+◌, ◌-◌, ◌≡◌}

-- the octets of the window: left to the peer, held here, or owed to the peer
pub record Receiving : Type 0 where
  pub window : ℕ
  pub left : ℕ
  pub held : ℕ
  pub owed : ℕ

-- each octet of the window is in one of the three places
abbrev pub AddsUp : Receiving → Type 0
AddsUp w = w.left + w.held + w.owed ≡ w.window

-- n octets are held no more, and are owed
abbrev pub Owes : Receiving → Receiving → ℕ → Type 0
Owes old new n = new ≡ record old { held = old.held - n; owed = old.owed + n }

-- an update is due where something is owed, and at least half of the window
abbrev pub is_due : ℕ → ℕ → Bool
is_due window owed = nat_lt 0 owed && nat_le window (2 * owed)
