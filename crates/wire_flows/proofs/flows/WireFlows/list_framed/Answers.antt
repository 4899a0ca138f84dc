use Rattle.wire_flows.proofs.Answering.{list_keeps, list_less, list_sound, may_end, waits_of}
use Rattle.wire_flows.proofs.flows.WireFlows.list_framed.Goals as goal
use Rattle.wire_flows.specs.Flows.{flows_of}

pub framed-requires-clause-waits : goal.framed-requires-clause-waits
framed-requires-clause-waits c = waits_of c.args.flow (flows_of c.self.inside) c.args.last (rw (← c.self.view_is) at c.requires.frameable)

pub framed-requires-clause-all : goal.framed-requires-clause-all
framed-requires-clause-all c = may_end c.args.flow (flows_of c.self.inside) c.args.last (rw (← c.self.view_is) at c.requires.frameable)

pub invariant_of-self : goal.invariant_of-self
invariant_of-self c = list_sound c.args.flow (flows_of c.self.inside) c.framed.new.self c.self.invariant (rw (← c.self.view_is) at c.requires.live) c.framed.ensures.sound c.args.last c.framed.ensures.framed (waits_of c.args.flow (flows_of c.self.inside) c.args.last (rw (← c.self.view_is) at c.requires.frameable))

pub returns-clause-keeps : goal.returns-clause-keeps
returns-clause-keeps c = rw (← c.self.view_is) (list_keeps c.args.flow (flows_of c.self.inside) c.framed.new.self c.self.invariant (rw (← c.self.view_is) at c.requires.live) c.framed.ensures.sound c.args.last c.framed.ensures.framed (waits_of c.args.flow (flows_of c.self.inside) c.args.last (rw (← c.self.view_is) at c.requires.frameable)))

pub returns-clause-less : goal.returns-clause-less
returns-clause-less c = rw (← c.self.view_is) (list_less c.args.flow (flows_of c.self.inside) c.framed.new.self c.self.invariant (rw (← c.self.view_is) at c.requires.live) c.framed.ensures.sound c.args.last c.framed.ensures.framed (waits_of c.args.flow (flows_of c.self.inside) c.args.last (rw (← c.self.view_is) at c.requires.frameable)))

pub returns-clause-sound : goal.returns-clause-sound
returns-clause-sound c = (list_sound c.args.flow (flows_of c.self.inside) c.framed.new.self c.self.invariant (rw (← c.self.view_is) at c.requires.live) c.framed.ensures.sound c.args.last c.framed.ensures.framed (waits_of c.args.flow (flows_of c.self.inside) c.args.last (rw (← c.self.view_is) at c.requires.frameable)))
