use Rattle.std.proofs.Common.{◌≡◌, ◌++◌, List}
use Rattle.std.specs.List.{flat_map}
use Rattle.flow_notes.specs.declared.notes.Note.{Note}
use Rattle.replay_run.specs.Tally.{TallyGoes}
use Rattle.replay_run.proofs.tally.Tally.note_all.Given as goal

abbrev pub invariant-loop-passage : goal.invariant-loop-passage
invariant-loop-passage l = record {
  taken : (done : List Note) × (l.notes ≡ done ++ flat_map (λ notes. notes) l.passage-iterator) × TallyGoes l.fn.self done l.self;
}
