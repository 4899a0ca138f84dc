use Rattle.std.proofs.Common.{◌≡◌, ◌≤◌, false}
use Rattle.exchange_core.proofs.Free.{free_before}
use Rattle.exchange_core.proofs.flow.Flow.last_free.Given as goal
use Rattle.exchange_core.specs.Flow.{last_place}
use Rattle.exchange_core.specs.Moves.{last_free, later_above}

-- no source behind the place is above, and none of the places from it on is free
abbrev pub invariant-loop-place : goal.invariant-loop-place
invariant-loop-place l = record {
  within : l.place ≤ last_place l.self;
  clear : later_above l.gates l.fn.to l.self l.place ≡ false;
  rest : last_free l.gates l.fn.to l.self ≡ free_before l.gates l.fn.to l.self l.place;
}

abbrev pub decreases-loop-place : goal.decreases-loop-place
decreases-loop-place l = l.place
