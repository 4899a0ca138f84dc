use Rattle.mem_ports.proofs.wires.change.Goals as goal
use Rattle.std.specs.Prelude.{suc}

pub returns-in-Lost-clause-below : goal.returns-in-Lost-clause-below
returns-in-Lost-clause-below c = c.remove.ensures.below (suc c.args.greatest.now) c.requires.below
