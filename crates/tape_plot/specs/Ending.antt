-- How a picture comes out.
use Rattle.session_run.specs.Ends.{AppendsFront}
use Rattle.session_run.specs.declared.status.Status.{Status}
use Rattle.std.specs.Io.KnownBytes.{Appends}
use Rattle.std.specs.Prelude.{List, None, Option, Some, ℕ, ◌≡◌}
use Rattle.tape_plot.specs.declared.report.Outcome.{Outcome}
use Rattle.tape_plot.specs.declared.report.Refusal.{Refusal}
use Rattle.session_run.specs.declared.status.Status.TheVariants as status

-- without a line that was refused
abbrev pub ended : Status → Outcome
ended s = record { status = s; line = 0; refusal = None }

-- there is no picture: a line was refused, memory ran out, or the source failed, which its count tells
abbrev pub IsNone : Type 0 → Status → Option Refusal → Type 0
IsNone of_source status.Session (Some why) = Unit {0}
IsNone of_source status.ReadFault None = of_source
IsNone of_source status.Memory None = Unit {0}
IsNone of_source status.TooLong None = Unit {0}
IsNone of_source other refusal = ⊥

abbrev pub IsRefused : Type 0 → Outcome → Type 0
IsRefused of_source outcome = IsNone of_source outcome.status outcome.refusal

-- A picture is written whole; or a front of it, where the sink failed, which its count tells; or else nothing.
abbrev pub Writes : Type 0 → Type 0 → Option (List ℕ) → Option (List ℕ) → Status → Option Refusal → Type 0
Writes of_source of_sink old new status.Done None = (text : List ℕ) × Appends old new text
Writes of_source of_sink old new status.WriteFault None = of_sink × ((text : List ℕ) × AppendsFront old new text)
Writes of_source of_sink old new s refusal = IsNone of_source s refusal × (new ≡ old)

abbrev pub EndsRight : Type 0 → Type 0 → Option (List ℕ) → Option (List ℕ) → Outcome → Type 0
EndsRight of_source of_sink old new outcome = Writes of_source of_sink old new outcome.status outcome.refusal
