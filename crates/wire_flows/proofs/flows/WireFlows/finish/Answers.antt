use Rattle.wire_flows.proofs.Answering.{finish_done, err_same}
use Rattle.wire_flows.proofs.flows.WireFlows.finish.Goals as goal
use Rattle.wire_flows.specs.Flows.{flows_of}

pub invariant_of-self : goal.invariant_of-self
invariant_of-self c = (finish_done c.args.flow (flows_of c.self.inside) c.finish.new.self c.self.invariant (rw (← c.self.view_is) at c.requires.live) c.finish.ensures.sound c.args.trailers c.finish.result c.finish.ensures.ok c.finish.ensures.err).sound

pub returns-clause-keeps : goal.returns-clause-keeps
returns-clause-keeps c = rw (← c.self.view_is) (finish_done c.args.flow (flows_of c.self.inside) c.finish.new.self c.self.invariant (rw (← c.self.view_is) at c.requires.live) c.finish.ensures.sound c.args.trailers c.finish.result c.finish.ensures.ok c.finish.ensures.err).keeps

pub returns-clause-go : goal.returns-clause-go
returns-clause-go c = rw (← c.self.view_is) (finish_done c.args.flow (flows_of c.self.inside) c.finish.new.self c.self.invariant (rw (← c.self.view_is) at c.requires.live) c.finish.ensures.sound c.args.trailers c.finish.result c.finish.ensures.ok c.finish.ensures.err).go

pub returns-clause-sound : goal.returns-clause-sound
returns-clause-sound c = (finish_done c.args.flow (flows_of c.self.inside) c.finish.new.self c.self.invariant (rw (← c.self.view_is) at c.requires.live) c.finish.ensures.sound c.args.trailers c.finish.result c.finish.ensures.ok c.finish.ensures.err).sound

pub returns-clause-err : goal.returns-clause-err
returns-clause-err c = rw (← c.self.view_is) (err_same (flows_of c.self.inside) c.finish.new.self c.finish.result c.finish.ensures.err)
