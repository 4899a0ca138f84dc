-- How far a frame that was taken pays for what it begins.
use Rattle.std.specs.Prelude.{ℕ, ◌*◌, ◌+◌, ◌≤◌}
use Rattle.wire_inlet.specs.declared.intake.Intake.{Intake}
use Rattle.wire_inlet.specs.declared.intake.Intake.TheVariants as intake

-- where a frame was taken, less is to do by 512 for each octet of its content and of its head
abbrev pub PaysFor : Intake → ℕ → ℕ → Type 0
PaysFor (intake.Taken taken) old new = new + 512 * (taken.content + 9) ≤ old
PaysFor given old new = new ≤ old
