-- What a step may bring, so that no buffer holds more than its bound.
use Rattle.flow_rules.specs.declared.ids.FlowId.{FlowId}
use Rattle.flow_rules.specs.Moves.{overfills}
use Rattle.std.specs.Prelude.{IfSome, false, length, ℕ, ◌+◌, ◌≡◌, ◌≤◌}
use Rattle.tape_laws.specs.Bounds.{held_from, unit_size}
use Rattle.tape_laws.specs.History.{History, Noted, Step}
use Rattle.tape_laws.specs.Setup.{Setup}
use Rattle.tape_laws.specs.State.{state_of}
use Rattle.tape_laws.specs.World.{recv}
use Rattle.flow_notes.specs.declared.notes.Note.TheVariants as note

-- octets arrive within their window, and within that of all flows from their connection
pub record FitsWindow {Mark : Type 0} (setup : Setup Mark) (f : FlowId) (n : ℕ) (past : History Mark) : Type 0 where
  pub window : length (recv setup f past) + n ≤ setup.recv
  pub together : IfSome setup.together (λ most. IfSome (setup.comes_from f past) (λ c. held_from setup c past + n ≤ most))

-- A move doesn't overfill a Hold, and no header block or control frame is longer than a unit. What a DATA frame and a window
-- update bring follows from the rules of what may stand.
abbrev pub FitsIn : {Mark : Type 0} → Setup Mark → Step Mark → History Mark → Type 0
FitsIn setup (Noted (note.Arrive f octets)) past = FitsWindow setup f (length octets) past
FitsIn setup (Noted (note.Move f p n)) past = overfills (state_of setup f past) p n ≡ false
FitsIn setup (Noted (note.Head c s octets)) past = length octets ≤ unit_size setup
FitsIn setup (Noted (note.Answer c octets)) past = length octets ≤ unit_size setup
FitsIn setup step past = Unit {0}
