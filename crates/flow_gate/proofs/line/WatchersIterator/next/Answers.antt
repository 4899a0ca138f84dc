use Rattle.flow_gate.proofs.SideBySide.{steps_after}
use Rattle.flow_gate.proofs.line.WatchersIterator.next.Goals as goal

pub returns-clause-steps : goal.returns-clause-steps
returns-clause-steps c = rw (← c.self.view_is) (steps_after c.self.inside.row.now _ _ c.split_first-flow.result.0 c.in_default.ensures.cases c.split_first-flow.ensures)
