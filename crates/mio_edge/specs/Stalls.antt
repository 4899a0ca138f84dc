-- A connection that takes nothing of what is offered to it.
use Rattle.std.specs.Prelude.{Bool, None, Option, Some, false, if◌then◌else◌, nat_le, nat_lt, unwrap_or, ℕ, ◌-◌}

-- since when it has taken nothing, once so many octets went at a moment, in milliseconds
abbrev pub stalled_since : (took now : ℕ) → Option ℕ → Option ℕ
stalled_since took now since = if nat_lt 0 took then None else Some (unwrap_or since now)

-- it has taken nothing for as long as that is borne, if it isn't borne for ever
abbrev pub is_stuck : ℕ → Option ℕ → Option ℕ → Bool
is_stuck now None since = false
is_stuck now (Some most) None = false
is_stuck now (Some most) (Some since) = nat_le most (now - since)
