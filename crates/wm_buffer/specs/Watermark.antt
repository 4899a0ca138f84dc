-- When a buffer is above its high watermark, told by the lengths that it has had. Lengths stand newest
-- first: the length now, the one before, and so on.
use Rattle.std.specs.Prelude.{◌<◌, ◌≤◌, ◌/◌, ◌∷◌, ℕ, List, [], length, Bool, true, false, nat_lt, slice_index, if◌then◌else◌}
use Rattle.wm_buffer.specs.declared.watermark.Crossed.{Crossed}
use Rattle.wm_buffer.specs.declared.watermark.Crossed.TheVariants.{Nothing, High, Low}

-- At some moment the length passed the limit, and since then it was always over half the limit. A
-- limit of 0 is no watermark.
pub record IsAbove (limit : ℕ) (lengths : List ℕ) : Type 0 where
  pub watched : 0 < limit
  pub ago : ℕ
  pub within : ago < length lengths
  pub over : limit < slice_index lengths ago
  pub since : (k : ℕ) → k ≤ ago → limit / 2 < slice_index lengths k

-- with this length it became above
abbrev pub Rises : ℕ → ℕ → List ℕ → Type 0
Rises limit len past = (¬ IsAbove limit past) × IsAbove limit (len ∷ past)

-- with this length it stopped being above
abbrev pub Drains : ℕ → ℕ → List ℕ → Type 0
Drains limit len past = IsAbove limit past × (¬ IsAbove limit (len ∷ past))

-- the same in one step: whether a buffer is above at this length, by whether it was before
abbrev pub above_after : ℕ → Bool → ℕ → Bool
above_after limit was len =
    if nat_lt 0 limit then (if was then nat_lt (limit / 2) len else nat_lt limit len) else false

-- the flag that the steps give after all these lengths
abbrev pub flag : ℕ → List ℕ → Bool
flag limit [] = false
flag limit (len ∷ past) = above_after limit (flag limit past) len

-- what a change of the flag is called
abbrev pub crossing : Bool → Bool → Crossed
crossing false true = High
crossing true false = Low
crossing false false = Nothing
crossing true true = Nothing
