use Rattle.std.proofs.Common.{◌≡◌, ◌++◌, List, ℕ, length}
use Rattle.std.specs.Prelude.{flat_map}
use Rattle.wire_summary.specs.Summarizes.{write_line}
use Rattle.wire_summary.proofs.summary.put_writes.Given as goal

abbrev pub invariant-loop-conn : goal.invariant-loop-conn
invariant-loop-conn l = record {
  told : (done : List ℕ) × (l.into ≡ l.fn.into ++ done) × (flat_map (write_line l.levels) l.levels.conns.items ≡ done ++ flat_map (write_line l.levels) l.rest);
}

abbrev pub decreases-loop-conn : goal.decreases-loop-conn
decreases-loop-conn l = length l.rest
