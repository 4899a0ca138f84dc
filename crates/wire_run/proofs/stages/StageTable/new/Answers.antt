-- One more row.
use Rattle.wire_run.proofs.Staging.{rows_taken}
use Rattle.wire_run.proofs.stages.StageTable.new.Goals as goal

pub loop-route-preserved : goal.loop-route-preserved
loop-route-preserved c =
    let k = c.loop-route.invariant.told in
    record { told = rows_taken c.args.routes.now k.0 _ _ c.in-Some.route.now _ _ c.in_ok-row_of.field-0 k.1 k.2 c.in-Some.ensures.cases.0 c.in_ok-row_of.ensures c.in_ok-push.ensures.items }
