use Rattle.std.proofs.Common.{arith}
use Rattle.shared_state.proofs.VersionSteps.{looks}
use Rattle.shared_state.proofs.following.look.Goals as goal

pub load-requires : goal.load-requires
load-requires c = let n = c.args.board.now.words in (c.requires, omega arith, looks _ _ _)
