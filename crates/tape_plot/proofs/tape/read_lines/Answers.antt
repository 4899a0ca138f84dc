-- Steps are made until one of them ends.
use Rattle.std.proofs.Common.{arith}
use Rattle.tape_plot.proofs.Sayings.{goes_more}
use Rattle.tape_plot.proofs.Stopping.{caused_since}
use Rattle.tape_plot.proofs.tape.read_lines.Goals as goal

pub loop-stop-preserved : goal.loop-stop-preserved
loop-stop-preserved g c = record {
  goes = goes_more _ _ _ _ _ _ _ c.loop-stop.invariant.goes c.in_default.ensures.goes;
  faults = omega (arith, c.loop-stop.invariant.faults, c.in_default.ensures.faults);
}

pub returns-in-Err-clause-goes : goal.returns-in-Err-clause-goes
returns-in-Err-clause-goes g c = goes_more _ _ _ _ _ _ _ c.loop-stop.invariant.goes c.in-Err.ensures.goes

pub returns-in-Err-clause-caused : goal.returns-in-Err-clause-caused
returns-in-Err-clause-caused g c = caused_since _ _ _ c.in-Err.stop c.loop-stop.invariant.faults c.in-Err.ensures.caused
