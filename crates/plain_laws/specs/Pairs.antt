-- The streams that the end of a stream dooms.
use Rattle.std.specs.Prelude.{List, [], if◌then◌else◌, ℕ, ◌++◌, ◌==◌, ◌∷◌}
use Rattle.tape_laws.specs.History.{History, NoMark, Noted}
use Rattle.flow_notes.specs.declared.events.Event.TheVariants as event
use Rattle.flow_notes.specs.declared.events.PlainEvent.TheVariants as plain
use Rattle.flow_notes.specs.declared.notes.Note.TheVariants as note

-- those that were named with it as the first, the newest first
abbrev pub seconds : ℕ → History NoMark → List ℕ
seconds s [] = []
seconds s (Noted (note.Turn k (event.Plain (plain.Pair first second))) ∷ past) =
    (if first == s then second ∷ [] else []) ++ seconds s past
seconds s (step ∷ past) = seconds s past
