-- How reading stops, and what is written then.
use Rattle.io_ports.specs.Faults.{Rose}
use Rattle.std.proofs.Common.{arith, inl, inr}
use Rattle.std.specs.Prelude.{ℕ, ◌+◌, ◌-◌, ◌<◌, ◌≡◌, ◌≤◌}
use Rattle.tape_plot.specs.Reading.{Caused}
use Rattle.tape_plot.specs.declared.tape.Stop.{Stop}
use Rattle.session_run.specs.declared.status.Status.TheVariants as status
use Rattle.tape_plot.specs.declared.tape.Stop.TheVariants as stop

-- a read leaves less room
pub less_room : (a old new n : ℕ) → new ≡ old + n → 0 < n → new ≤ 131072 → a + (131072 - new) < a + (131072 - old)
less_room a old new n e lt le = omega (arith, e, lt, le)

rose_since : (a b c : ℕ) → a ≤ b → Rose b c → Rose a c
rose_since a b c le (inl lt) = inl (omega (arith, le, lt))
rose_since a b c le (inr e) = inr e

pub caused_since : (a b c : ℕ) (s : Stop) → a ≤ b → Caused (Rose b c) s → Caused (Rose a c) s
caused_since a b c stop.End le f = tt
caused_since a b c (stop.Refused why) le f = tt
caused_since a b c (stop.Failed status.Done) le f = absurd f
caused_since a b c (stop.Failed status.Usage) le f = absurd f
caused_since a b c (stop.Failed status.Config) le f = absurd f
caused_since a b c (stop.Failed status.Session) le f = absurd f
caused_since a b c (stop.Failed status.ReadFault) le f = rose_since a b c le f
caused_since a b c (stop.Failed status.WriteFault) le f = absurd f
caused_since a b c (stop.Failed status.Memory) le f = tt
caused_since a b c (stop.Failed status.TooLong) le f = tt
