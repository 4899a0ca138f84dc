use Rattle.std.proofs.Common.{◌≡◌, ◌≤◌, length}
use Rattle.std.specs.Prelude.{max}
use Rattle.shed_points.specs.Shedding.{point_state}
use Rattle.shed_points.proofs.shedder.point_state.Given as goal

abbrev pub invariant-loop-row : goal.invariant-loop-row
invariant-loop-row l = record {
  same : max l.most (point_state l.rest l.pressures l.point) ≡ point_state l.rows l.pressures l.point;
  most : l.most ≤ 1000000;
}

abbrev pub decreases-loop-row : goal.decreases-loop-row
decreases-loop-row l = length l.rest
