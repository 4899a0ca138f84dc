use Rattle.std.proofs.Common.{◌≡◌, ◌++◌, List}
use Rattle.std.specs.List.{flat_map}
use Rattle.flow_notes.specs.declared.notes.Note.{Note}
use Rattle.relay_run.specs.Writes.{WritesGo}
use Rattle.relay_run.proofs.write_log.WriteLog.note_all.Given as goal

abbrev pub invariant-loop-passage : goal.invariant-loop-passage
invariant-loop-passage l = record {
  taken : (done : List Note) × (l.notes ≡ done ++ flat_map (λ notes. notes) l.passage-iterator) × WritesGo l.fn.self done l.self;
}
