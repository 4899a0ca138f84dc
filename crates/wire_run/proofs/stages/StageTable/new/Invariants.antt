use Rattle.std.proofs.Common.{◌≡◌, ◌++◌, List, length}
use Rattle.proxy_config.specs.declared.routes.Route.{Route}
use Rattle.wire_run.specs.Stages.{AreStages}
use Rattle.wire_run.proofs.stages.StageTable.new.Given as goal

abbrev pub invariant-loop-route : goal.invariant-loop-route
invariant-loop-route l = record {
  told : (done : List Route) × (l.routes ≡ done ++ l.rest) × AreStages l.rows.items done;
}

abbrev pub decreases-loop-route : goal.decreases-loop-route
decreases-loop-route l = length l.rest
