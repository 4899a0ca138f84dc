-- Readings of gauges.
use Rattle.io_ports.specs.declared.ports.Failed.{Failed}
use Rattle.std.specs.List.{AllByRecursion}
use Rattle.std.specs.Prelude.{Err, IfOk, List, Ok, Option, Result, [], length, suc, ℕ, ◌+◌, ◌-◌, ◌∷◌, ◌^◌, ◌≡◌, ◌≤◌, ◌⊎◌}
use Rattle.worker_ports.specs.Told.{TellsAll}
use Rattle.worker_ports.specs.declared.ports.Reading.{Reading}

-- the resources from n on were asked for once each, in order, and these are the answers
abbrev pub readings_from : ℕ → List (Result ℕ Failed) → List Reading
readings_from n [] = []
readings_from n (answer ∷ answers) = record { resource = n; answer = answer } ∷ readings_from (suc n) answers

-- each pressure that was read replaces the one at its place, which stays where the reading failed
abbrev pub replaced : List (Result ℕ Failed) → List ℕ → List ℕ
replaced [] pressures = pressures
replaced (answer ∷ answers) [] = []
replaced (Err fault ∷ answers) (p ∷ pressures) = p ∷ replaced answers pressures
replaced (Ok pressure ∷ answers) (p ∷ pressures) = pressure ∷ replaced answers pressures

-- how many readings failed
abbrev pub count_failed : List (Result ℕ Failed) → ℕ
count_failed [] = 0
count_failed (Err fault ∷ answers) = 1 + count_failed answers
count_failed (Ok pressure ∷ answers) = count_failed answers

-- The resources 0, 1, .. were asked for once each, in order, and the gauge tells the answers, as far as it tells any. Each pressure
-- that was read, at most 1,000,000, replaces the one at its place, which stays where the reading failed. So many failed.
pub record AreSampled (old_told new_told : Option (List Reading)) (old new : List ℕ) (failed : ℕ) : Type 0 where
  pub answers : List (Result ℕ Failed)
  pub each : length answers ≡ length old
  pub most : AllByRecursion (λ answer. IfOk answer (λ p. p ≤ 1000000)) answers
  pub tells : TellsAll old_told (readings_from 0 answers) new_told
  pub replaces : new ≡ replaced answers old
  pub fails : failed ≡ count_failed answers

-- so many calls failed, each of which made the count of faults rise, unless that stands at its end
abbrev pub FailedByFaults : (old new failed : ℕ) → Type 0
FailedByFaults old new failed = (2 ^ 64 - 1 ≤ new) ⊎ (failed + old ≤ new)
