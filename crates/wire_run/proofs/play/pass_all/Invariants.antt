use Rattle.flow_notes.specs.declared.notes.Note.{Note}
use Rattle.std.proofs.Common.{List, ◌++◌, ◌≡◌}
use Rattle.std.specs.List.{flat_map}
use Rattle.wire_run.proofs.play.pass_all.Given as goal
use Rattle.wire_run.specs.Passing.{PassesAll, row_told}

abbrev pub invariant-loop-passage : goal.invariant-loop-passage
invariant-loop-passage l = record {
  passed : (done : List Note) × (l.notes ≡ done ++ flat_map (λ notes. notes) l.passage-iterator) × PassesAll l.stages.rows.items (row_told l.session) done l.fn.log l.log;
}
