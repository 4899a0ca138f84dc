-- One or two connections are told.
use Rattle.relay_work.proofs.Settled.{settles_after, settles_alone, settles_before}
use Rattle.relay_work.proofs.settle.settle.Goals as goal

pub returns-in-Some-clause-settles : goal.returns-in-Some-clause-settles
returns-in-Some-clause-settles g c = settles_before c.args.relay.now (g.T.Wires.seen c.args.taps.now) (g.T.Wires.seen c.settle_one.new.taps) (g.T.Wires.seen c.settle_one-in-Some.new.taps)
    c.args.conn c.in-Some.other c.args.was c.in-Some.is c.settle_one.ensures.settles c.settle_one-in-Some.ensures.settles

pub returns-in-Some-peer-clause-settles : goal.returns-in-Some-peer-clause-settles
returns-in-Some-peer-clause-settles g c = settles_after c.args.relay.now (g.T.Wires.seen c.args.taps.now) (g.T.Wires.seen c.settle_one.new.taps) (g.T.Wires.seen c.settle_one-in-Some-peer.new.taps)
    c.args.conn c.in-Some-peer.other c.args.was c.peer.result c.in-None.is c.peer.ensures c.in-Some-peer.is c.settle_one.ensures.settles c.settle_one-in-Some-peer.ensures.settles

pub returns-in_default-clause-settles : goal.returns-in_default-clause-settles
returns-in_default-clause-settles g c = settles_alone c.args.relay.now (g.T.Wires.seen c.args.taps.now) (g.T.Wires.seen c.settle_one.new.taps)
    c.args.conn c.args.was c.peer.result c.in-None.is c.peer.ensures c.in_default.is c.settle_one.ensures.settles
