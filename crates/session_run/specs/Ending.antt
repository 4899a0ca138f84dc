-- How a session ends, by what was read of it. The rest is what was read behind the lines that were played.
use Rattle.session_run.specs.Newlines.{BeginsWithLine, has_newline}
use Rattle.session_run.specs.declared.status.Status.{Status}
use Rattle.std.specs.Io.KnownBytes.{IsAtEnd}
use Rattle.std.specs.Prelude.{Bool, IsTrue, List, Option, [], false, length, take, ℕ, ◌+◌, ◌-◌, ◌<◌, ◌≡◌, ◌≤◌}
use Rattle.session_run.specs.declared.status.Status.TheVariants as status

-- a session has at most so many octets, and a line, without its newline
abbrev pub most_octets : ℕ
most_octets = 67108864

abbrev pub longest_line : ℕ
longest_line = 40000

-- the rest begins with n octets without a newline
pub record IsUnbroken (rest : List ℕ) (n : ℕ) : Type 0 where
  pub whole : has_newline (take n rest) ≡ false
  pub within : n ≤ length rest

-- the rest begins with a line of n octets, which ends within the session's most octets
pub record HasLine (lines rest : List ℕ) (n : ℕ) : Type 0 where
  pub begins : BeginsWithLine rest n
  pub short : n ≤ longest_line
  pub within : length lines + n < most_octets

-- the next line is refused, by what may not come, and whether the session may end behind the lines
pub data IsRefused (Refuses : List ℕ → Type 0) (may_end : Bool) (lines rest : List ℕ) (left : Option (List ℕ)) : Type 0 where
  -- it isn't one that may come
  MayNotCome : (n : ℕ) → HasLine lines rest n → Refuses (take n rest) → IsRefused Refuses may_end lines rest left
  -- it is too long, within the session's most octets
  Long : IsUnbroken rest (longest_line + 1) → length lines + longest_line < most_octets → IsRefused Refuses may_end lines rest left
  -- the session ends without its newline, or where it may not end
  Cut : has_newline rest ≡ false → length lines + length rest ≤ most_octets → ((rest ≡ []) × IsTrue may_end → ⊥) → IsAtEnd left → IsRefused Refuses may_end lines rest left

-- there is more than the session's most octets, and what stands within them behind the lines is neither a line nor
-- too long for one
pub record IsTooLong (lines rest : List ℕ) : Type 0 where
  pub more : most_octets < length lines + length rest
  pub short : most_octets ≤ length lines + longest_line
  pub whole : has_newline (take (most_octets - length lines) rest) ≡ false

-- no whole line is left, and what is left may still become one
pub record IsWaiting (lines rest : List ℕ) : Type 0 where
  pub whole : has_newline rest ≡ false
  pub short : length rest ≤ longest_line
  pub within : length lines + length rest ≤ most_octets

-- by the status, and what the source has left
abbrev pub EndsAs : (List ℕ → Type 0) → Bool → Status → (lines rest : List ℕ) → Option (List ℕ) → Type 0
EndsAs Refuses may_end status.Done lines rest left = IsTrue may_end × (rest ≡ []) × IsAtEnd left
EndsAs Refuses may_end status.Session lines rest left = IsRefused Refuses may_end lines rest left
EndsAs Refuses may_end status.TooLong lines rest left = IsTooLong lines rest
EndsAs Refuses may_end status.ReadFault lines rest left = IsWaiting lines rest
EndsAs Refuses may_end status.Memory lines rest left = Unit {0}
EndsAs Refuses may_end status.Usage lines rest left = ⊥
EndsAs Refuses may_end status.Config lines rest left = ⊥
EndsAs Refuses may_end status.WriteFault lines rest left = ⊥

-- nothing of the session is refused
abbrev pub IsUnrefused : Status → Type 0
IsUnrefused status.Done = Unit {0}
IsUnrefused status.Memory = Unit {0}
IsUnrefused status.ReadFault = Unit {0}
IsUnrefused status.WriteFault = Unit {0}
IsUnrefused status = ⊥
