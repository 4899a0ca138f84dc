use Rattle.relay_work.specs.Live.{live_of}
use Rattle.relay_work.specs.Offering.{OffersSomeFrom}
use Rattle.std.proofs.Common.{◌-◌, ◌≤◌}
use Rattle.relay_work.proofs.turns.offer_all.Given as goal

abbrev pub invariant-loop-conn : goal.invariant-loop-conn
invariant-loop-conn g l = record {
  offers : OffersSomeFrom l.names (live_of l.fn.relay (g.T.Wires.seen l.fn.taps) (g.J.Sink.contents l.fn.journal)) l.last (live_of l.relay (g.T.Wires.seen l.taps) (g.J.Sink.contents l.journal));
  taps : g.T.Wires.faults l.fn.taps ≤ g.T.Wires.faults l.taps;
  journal : g.J.Sink.faults l.fn.journal ≤ g.J.Sink.faults l.journal;
}

abbrev pub decreases-loop-conn : goal.decreases-loop-conn
decreases-loop-conn g l = 4294967296 - l.last
