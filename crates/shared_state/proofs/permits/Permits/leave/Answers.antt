use Rattle.std.proofs.Common.{arith}
use Rattle.shared_state.proofs.PermitSteps.{leaves}
use Rattle.shared_state.proofs.permits.Permits.leave.Goals as goal

pub fetch_sub-requires : goal.fetch_sub-requires
fetch_sub-requires c = let w = c.args.self.now.words in (c.requires.seat.0, omega arith, leaves _ _ _ _ c.requires.given c.requires.seat.2)
