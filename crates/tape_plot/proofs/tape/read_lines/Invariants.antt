use Rattle.std.specs.Prelude.{Ok, ◌≤◌}
use Rattle.tape_plot.specs.Reading.{to_go}
use Rattle.tape_plot.specs.Reads.{Goes}
use Rattle.tape_plot.proofs.tape.read_lines.Given as goal

abbrev pub invariant-loop-stop : goal.invariant-loop-stop
invariant-loop-stop g l = record {
  goes : Goes l.fn.tape l.tape (g.S.Source.left l.fn.source) (g.S.Source.left l.source) (Ok tt);
  faults : g.S.Source.faults l.fn.source ≤ g.S.Source.faults l.source;
}

abbrev pub decreases-loop-stop : goal.decreases-loop-stop
decreases-loop-stop g l = to_go l.tape
