use Rattle.relay_ports.proofs.mem_taps.change.Goals as goal

pub returns-in-Lost-clause-below : goal.returns-in-Lost-clause-below
returns-in-Lost-clause-below c = c.remove.ensures.below c.args.greatest.now c.requires.below
