use Rattle.std.proofs.Common.{◌≡◌, ◌++◌, List, ℕ, length}
use Rattle.std.specs.Prelude.{flat_map}
use Rattle.wire_summary.specs.Summarizes.{exchange_lines}
use Rattle.wire_summary.proofs.summary.put_exchanges.Given as goal

abbrev pub invariant-loop-exchange : goal.invariant-loop-exchange
invariant-loop-exchange l = record {
  told : (done : List ℕ) × (l.into ≡ l.fn.into ++ done) × (flat_map (exchange_lines l.levels) l.levels.started.items ≡ done ++ flat_map (exchange_lines l.levels) l.rest);
}

abbrev pub decreases-loop-exchange : goal.decreases-loop-exchange
decreases-loop-exchange l = length l.rest
