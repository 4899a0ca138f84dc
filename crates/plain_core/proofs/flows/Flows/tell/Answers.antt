use Rattle.plain_core.proofs.FlowTells.{tells}
use Rattle.plain_core.proofs.flows.Flows.tell.Goals as goal

pub returns-clause-tells : goal.returns-clause-tells
returns-clause-tells c = tells c.args.n c.args.self.now c.take_lows.new.self c.take_lows.ensures.tells c.take_lows.ensures.sound
