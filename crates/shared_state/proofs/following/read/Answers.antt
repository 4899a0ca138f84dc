use Rattle.shared_state.proofs.ListSteps.{sees}
use Rattle.shared_state.proofs.following.read.Goals as goal

pub enter_as-requires : goal.enter_as-requires
enter_as-requires c = sees _ _
