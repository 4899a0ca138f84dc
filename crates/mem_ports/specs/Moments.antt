-- A clock in memory.
use Rattle.std.specs.Prelude.{List, None, Option, Some, [], if◌then◌else◌, length, min, nat_lt, slice_index, suc, zero, ℕ, ◌+◌, ◌++◌, ◌-◌, ◌^◌, ◌∷◌}

-- the moments that it gives, and how often it was asked
pub record ClockMemory : Type 0 where
  pub moments : List ℕ
  pub calls : ℕ

-- call n, counted from 0, gives moment n, or the last where there are fewer, or 0 where there is none
abbrev pub moment_at : List ℕ → ℕ → ℕ
moment_at moments n = slice_index moments (min n (length moments - 1))

-- what the first n calls give
abbrev pub given_by : List ℕ → ℕ → List ℕ
given_by moments zero = []
given_by moments (suc n) = given_by moments n ++ moment_at moments n ∷ []

-- a count that has gone up by one, or stands at its end
abbrev pub next_count : ℕ → ℕ
next_count n = min (n + 1) (2 ^ 64 - 1)

-- what it gave so far; it isn't told any more once the count stands at its end
abbrev pub moments_given : ClockMemory → Option (List ℕ)
moments_given c = if nat_lt c.calls (2 ^ 64 - 1) then Some (given_by c.moments c.calls) else None
