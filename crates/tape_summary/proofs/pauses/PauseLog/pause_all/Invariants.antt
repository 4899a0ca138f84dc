use Rattle.std.proofs.Common.{◌≡◌, ◌++◌, List, length, map}
use Rattle.flow_notes.specs.declared.notes.Note.{Note}
use Rattle.tape_summary.specs.Pausing.{Logs}
use Rattle.flow_notes.specs.declared.notes.Note.TheVariants as note
use Rattle.tape_summary.proofs.pauses.PauseLog.pause_all.Given as goal

abbrev pub invariant-loop-flow : goal.invariant-loop-flow
invariant-loop-flow l = record {
  taken : (done : List Note) × (map (λ f. note.Pause f l.buffer) l.flows ≡ done ++ map (λ f. note.Pause f l.buffer) l.rest) × Logs l.fn.self done l.self;
}

abbrev pub decreases-loop-flow : goal.decreases-loop-flow
decreases-loop-flow l = length l.rest
