-- One answer of metered connections.
use Rattle.shared_tokens.specs.Seats.{Granted, Refused}
use Rattle.shared_tokens.specs.declared.token.Token.{Token}
use Rattle.std.specs.Prelude.{Bool, false, true, ℕ, ◌≡◌}
use Rattle.worker_ports.specs.Wires.{Gives, Seen, closed}
use Rattle.worker_ports.specs.declared.wires.Wired.{Wired}
use Rattle.worker_ports.specs.declared.wires.Wired.TheVariants as wired

abbrev pub is_accept : Wired → Bool
is_accept (wired.Accept c) = true
is_accept w = false

-- a token was taken where one was there, and else none
abbrev pub Takes : Token → Bool → Token → Type 0
Takes had true has = Granted had has
Takes had false has = (put : ℕ) × (found : ℕ) × Refused had put found has

-- The inner connections gave one answer. An Accept takes a token, and where none is there, it is closed and answered as Idle. All
-- else is answered as it came.
pub data Metered (old : Seen) (had : Token) (new : Seen) (has : Token) : Wired → Type 0 where
  Passed : (w : Wired) → is_accept w ≡ false → Gives old w new → has ≡ had → Metered old had new has w
  Accepted : (c : ℕ) → Gives old (wired.Accept c) new → Granted had has → Metered old had new has (wired.Accept c)
  Closed : (c : ℕ) (mid : Seen) (put found : ℕ) → Gives old (wired.Accept c) mid → new ≡ closed c mid → Refused had put found has → Metered old had new has wired.Idle
