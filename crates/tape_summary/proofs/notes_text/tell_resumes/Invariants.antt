use Rattle.std.proofs.Common.{[], ◌≡◌, ◌++◌, List, ℕ, length, map}
use Rattle.tape_summary.specs.NotesText.{notes_text}
use Rattle.flow_notes.specs.declared.notes.Note.TheVariants as note
use Rattle.tape_summary.proofs.notes_text.tell_resumes.Given as goal

abbrev pub invariant-loop-flow : goal.invariant-loop-flow
invariant-loop-flow l = record {
  told : (done : List ℕ) × (l.into ≡ l.fn.into ++ done) × (notes_text [] (map (λ f. note.Resume f l.fn.buffer) l.flows) ≡ done ++ notes_text [] (map (λ f. note.Resume f l.fn.buffer) l.rest));
}

abbrev pub decreases-loop-flow : goal.decreases-loop-flow
decreases-loop-flow l = length l.rest
