-- Row after row.
use Rattle.shed_points.proofs.States.{no_row_left, row_taken}
use Rattle.shed_points.proofs.shedder.point_state.Goals as goal
use Rattle.std.proofs.Common.{arith}

pub loop-row-preserved : goal.loop-row-preserved
loop-row-preserved c =
    let k = c.loop-row.invariant in
    let few = k.most in
    let greater = c.max-most.ensures in
    let most = c.state_at.ensures.most in
    record {
      same = row_taken c.in-Some.row.now c.loop-row.rest.now c.in-Some.after.now c.args.pressures.now c.args.point c.loop-row.most c.state_at.result c.max-most.result _ c.in-Some.ensures.cases.0 c.state_at.ensures.state greater k.same;
      most = omega (arith, greater, most, few);
    }

pub returns-clause-state : goal.returns-clause-state
returns-clause-state c = no_row_left c.loop-row.rest.now c.args.pressures.now c.args.point c.loop-row.most _ c.in_default.ensures.cases c.loop-row.invariant.same
