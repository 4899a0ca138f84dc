use Rattle.std.proofs.Common.{◌≡◌, ◌++◌, List, ℕ, length}
use Rattle.tape_summary.specs.Summarizes.{pause_lines}
use Rattle.tape_summary.proofs.summary.put_pauses.Given as goal

abbrev pub invariant-loop-pause : goal.invariant-loop-pause
invariant-loop-pause l = record {
  told : (done : List ℕ) × (l.into ≡ l.fn.into ++ done) × (pause_lines l.log.pauses.items ≡ done ++ pause_lines l.rest);
}

abbrev pub decreases-loop-pause : goal.decreases-loop-pause
decreases-loop-pause l = length l.rest
