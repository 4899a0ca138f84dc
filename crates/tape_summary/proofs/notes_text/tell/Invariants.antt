use Rattle.std.proofs.Common.{◌≡◌, ◌++◌, List, [], ℕ}
use Rattle.std.specs.List.{AllByRecursion, flat_map}
use Rattle.flow_notes.specs.Note.{IsNote}
use Rattle.tape_summary.specs.NotesText.{notes_text}
use Rattle.tape_summary.proofs.notes_text.tell.Given as goal

abbrev pub invariant-loop-passage : goal.invariant-loop-passage
invariant-loop-passage l = record {
  spelled : AllByRecursion (IsNote l.fn.names) (flat_map (λ notes. notes) l.passage-iterator);
  told : (done : List ℕ) × (l.into ≡ l.fn.into ++ done) × (notes_text l.fn.names l.notes ≡ done ++ notes_text l.fn.names (flat_map (λ notes. notes) l.passage-iterator));
}
