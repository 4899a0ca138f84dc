use Rattle.std.proofs.Common.{◌≡◌, ◌++◌, List, ℕ, length}
use Rattle.std.specs.Prelude.{flat_map}
use Rattle.tape_summary.specs.Summarizes.{flow_peak_lines}
use Rattle.tape_summary.proofs.summary.put_streams.Given as goal

abbrev pub invariant-loop-x : goal.invariant-loop-x
invariant-loop-x l = record {
  told : (done : List ℕ) × (l.into ≡ l.fn.into ++ done) × (flat_map (flow_peak_lines l.log) l.log.started.items ≡ done ++ flat_map (flow_peak_lines l.log) l.rest);
}

abbrev pub decreases-loop-x : goal.decreases-loop-x
decreases-loop-x l = length l.rest
