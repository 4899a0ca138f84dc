use Rattle.std.proofs.Common.{◌≡◌, ◌++◌, ◌+◌, ◌<◌, ◌^◌, List, ℕ, length}
use Rattle.wire_summary.specs.Summarizes.{stage_lines}
use Rattle.wire_summary.proofs.summary.put_stages.Given as goal

abbrev pub invariant-loop-limit : goal.invariant-loop-limit
invariant-loop-limit l = record {
  told : (done : List ℕ) × (l.into ≡ l.fn.into ++ done) × (stage_lines l.flow l.places.levels.items 1 l.places.limits.items ≡ done ++ stage_lines l.flow l.places.levels.items l.place l.rest);
  within : l.place + length l.rest ≡ 1 + length l.places.limits.items;
}

abbrev pub decreases-loop-limit : goal.decreases-loop-limit
decreases-loop-limit l = length l.rest
