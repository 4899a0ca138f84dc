use Rattle.plain_core.proofs.FlowSweeps.{sweeps}
use Rattle.plain_core.proofs.flows.Flows.sweep.Goals as goal

pub returns : goal.returns
returns c = sweeps c.sweep.result c.args.self.now c.sweep.new.self c.sweep.ensures.none c.sweep.ensures.sweeps c.sweep.ensures.sound
