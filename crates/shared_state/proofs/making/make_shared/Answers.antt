use Rattle.shared_state.proofs.ListSteps.{begins}
use Rattle.shared_state.proofs.making.make_shared.Goals as goal

pub new-requires-clause-rule : goal.new-requires-clause-rule
new-requires-clause-rule g c = begins _ c.opening-entry.ensures.0 c.opening-entry.ensures.1
