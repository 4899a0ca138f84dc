-- What a number that changes from step to step comes to in columns of dispatches.
use Rattle.std.specs.Prelude.{Bool, None, Option, Some, [], false, if◌then◌else◌, max, min, nat_lt, not, true, ℕ, ◌&&◌, ◌-◌, ◌/◌, ◌==◌, ◌∷◌}
use Rattle.tape_laws.specs.Dispatches.{turns}
use Rattle.tape_laws.specs.History.{History}

-- the least, the greatest and the last of some numbers
pub record Span : Type 0 where
  pub low : ℕ
  pub high : ℕ
  pub last : ℕ

-- with one more number, the last
abbrev pub with_one : Option Span → ℕ → Span
with_one None n = record { low = n; high = n; last = n }
with_one (Some s) n = record { low = min s.low n; high = max s.high n; last = n }

-- with those that came behind it
abbrev pub with_more : Option Span → Option Span → Option Span
with_more s None = s
with_more None (Some t) = Some t
with_more (Some s) (Some t) = Some (record { low = min s.low t.low; high = max s.high t.high; last = t.last })

abbrev pub noted : Bool → Option Span → ℕ → Option Span
noted true s n = Some (with_one s n)
noted false s n = s

-- column j has the dispatches from first + w * j on, w of them
abbrev pub in_column : ℕ → ℕ → ℕ → ℕ → Bool
in_column first w j turn = not (nat_lt turn first) && ((turn - first) / w == j)

-- what a number changed to in a column, if it did
abbrev pub changes : {Mark : Type 0} → (History Mark → ℕ) → ℕ → ℕ → ℕ → History Mark → Option Span
changes number first w j [] = None
changes number first w j (step ∷ past) =
    noted (in_column first w j (turns (step ∷ past)) && not (number (step ∷ past) == number past)) (changes number first w j past) (number (step ∷ past))

-- what it was before the first column
abbrev pub before : {Mark : Type 0} → (History Mark → ℕ) → ℕ → History Mark → ℕ
before number first [] = number []
before number first (step ∷ past) = if nat_lt (turns (step ∷ past)) first then number (step ∷ past) else before number first past
