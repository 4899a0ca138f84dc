use Rattle.std.specs.Arc.{arc_value}
use Rattle.shared_state.specs.Following.{IsNewFollower}
use Rattle.shared_state.proofs.Lending.{left_of}
use Rattle.thread_tests.proofs.states.follower_of.Goals as goal

pub returns-clause-others : goal.returns-clause-others
returns-clause-others c = left_of (IsNewFollower (arc_value c.args.publisher.now.board)) _ _ c.take_one.result c.take_one.ensures c.requires
