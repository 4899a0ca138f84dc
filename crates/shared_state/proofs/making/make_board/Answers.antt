use Rattle.shared_state.proofs.VersionSteps.{begins}
use Rattle.shared_state.proofs.making.make_board.Goals as goal

pub of_words-requires : goal.of_words-requires
of_words-requires c = begins
