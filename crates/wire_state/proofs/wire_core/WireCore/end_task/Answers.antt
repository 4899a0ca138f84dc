use Rattle.std.proofs.Common.{ap, arith}
use Rattle.wire_state.proofs.Tasks.{rest_go}
use Rattle.wire_state.proofs.wire_core.WireCore.end_task.Goals as goal
use Rattle.wire_state.specs.Progress.{tasks_go, to_go}

pub returns-clause-go : goal.returns-clause-go
unfolding to_go
returns-clause-go c =
    let e = ap tasks_go c.pop.ensures in
    omega (arith, e, rest_go c.args.self.now.agenda)
