-- What is seen of a source and of a sink in memory.
use Rattle.std.specs.Prelude.{◌+◌, ◌-◌, ◌^◌, ◌==◌, ◌&&◌, ℕ, List, length, Bool, nat_eq, nat_lt, min, if◌then◌else◌}
use Rattle.std.specs.List.{list_any}

-- the octets that are left, the calls and the faults so far, the numbers of the calls that are to
-- fail, and the most octets that a call gives
pub record SourceMemory : Type 0 where
  pub octets : List ℕ
  pub calls : ℕ
  pub faults : ℕ
  pub failing : List ℕ
  pub most : ℕ

-- the octets that were written, for how many there is room in all, and the same of its calls
pub record SinkMemory : Type 0 where
  pub octets : List ℕ
  pub room : ℕ
  pub calls : ℕ
  pub faults : ℕ
  pub failing : List ℕ
  pub most : ℕ

-- the call with this number, counted from 0, is to fail
abbrev pub is_to_fail : List ℕ → ℕ → Bool
is_to_fail failing call = list_any (λ number. nat_eq number call) failing

-- a count that has gone up by one, or stands at its end
abbrev pub counted : ℕ → ℕ
counted n = min (n + 1) (2 ^ 64 - 1)

-- the faults of a sink after it took n octets of a piece: to take none of a nonempty one is a fault
abbrev pub faults_after : ℕ → ℕ → List ℕ → ℕ
faults_after faults n piece = if n == 0 && nat_lt 0 (length piece) then counted faults else faults
