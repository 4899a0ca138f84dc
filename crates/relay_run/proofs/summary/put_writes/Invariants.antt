use Rattle.std.proofs.Common.{◌≡◌, ◌++◌, List, ℕ, length}
use Rattle.std.specs.Prelude.{flat_map}
use Rattle.relay_run.specs.Summaries.{logged_peak, logged_peaks}
use Rattle.relay_run.proofs.summary.put_writes.Given as goal

abbrev pub invariant-loop-conn : goal.invariant-loop-conn
invariant-loop-conn l = record {
  told : (done : List ℕ) × (l.into ≡ l.fn.into ++ done) × (logged_peaks l.log ≡ done ++ flat_map (logged_peak l.log) l.rest);
}

abbrev pub decreases-loop-conn : goal.decreases-loop-conn
decreases-loop-conn l = length l.rest
