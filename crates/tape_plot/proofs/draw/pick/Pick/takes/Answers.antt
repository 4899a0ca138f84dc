-- By what the choice asks for.
use Rattle.tape_plot.proofs.Taking.{takes_high, takes_place, takes_write}
use Rattle.tape_plot.proofs.draw.pick.Pick.takes.Goals as goal

pub returns-in-Highest : goal.returns-in-Highest
returns-in-Highest c = takes_high c.args.self.now c.args.buffer c.has.result c.in-Highest.is c.has.ensures

pub returns-in-Place : goal.returns-in-Place
returns-in-Place c = takes_place c.args.self.now c.args.buffer c.in-Place.id _ c.in-Named.flow c.in-Named.conn c.eq.result c.in-Place.is c.in-Named.is c.eq.ensures

pub returns-in-Write : goal.returns-in-Write
returns-in-Write c = takes_write c.args.self.now c.args.buffer c.in-Write.id c.in-Named.flow c.in-Named.conn c.eq-in-Write.result c.in-Write.is c.in-Named.is c.eq-in-Write.ensures
