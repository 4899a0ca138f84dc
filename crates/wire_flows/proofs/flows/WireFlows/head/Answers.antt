use Rattle.wire_flows.proofs.Answering.{head_done, alone_of, err_same}
use Rattle.wire_flows.proofs.flows.WireFlows.head.Goals as goal
use Rattle.wire_flows.specs.Flows.{flows_of}

pub head-requires-clause-alone : goal.head-requires-clause-alone
head-requires-clause-alone c = alone_of c.args.flow (flows_of c.self.inside) c.args.last c.self.invariant (rw (← c.self.view_is) at c.requires.first)

pub invariant_of-self : goal.invariant_of-self
invariant_of-self c = (head_done c.args.flow (flows_of c.self.inside) c.head.new.self c.self.invariant (rw (← c.self.view_is) at c.requires.live) c.head.ensures.sound c.args.fields c.args.last c.head.result c.head.ensures.ok c.head.ensures.err).sound

pub returns-clause-keeps : goal.returns-clause-keeps
returns-clause-keeps c = rw (← c.self.view_is) (head_done c.args.flow (flows_of c.self.inside) c.head.new.self c.self.invariant (rw (← c.self.view_is) at c.requires.live) c.head.ensures.sound c.args.fields c.args.last c.head.result c.head.ensures.ok c.head.ensures.err).keeps

pub returns-clause-go : goal.returns-clause-go
returns-clause-go c = rw (← c.self.view_is) (head_done c.args.flow (flows_of c.self.inside) c.head.new.self c.self.invariant (rw (← c.self.view_is) at c.requires.live) c.head.ensures.sound c.args.fields c.args.last c.head.result c.head.ensures.ok c.head.ensures.err).go

pub returns-clause-sound : goal.returns-clause-sound
returns-clause-sound c = (head_done c.args.flow (flows_of c.self.inside) c.head.new.self c.self.invariant (rw (← c.self.view_is) at c.requires.live) c.head.ensures.sound c.args.fields c.args.last c.head.result c.head.ensures.ok c.head.ensures.err).sound

pub returns-clause-err : goal.returns-clause-err
returns-clause-err c = rw (← c.self.view_is) (err_same (flows_of c.self.inside) c.head.new.self c.head.result c.head.ensures.err)
