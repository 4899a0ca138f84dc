use Rattle.relay_work.specs.Live.{live_of}
use Rattle.relay_work.specs.Turning.{TurningFrom}
use Rattle.std.proofs.Common.{◌≤◌}
use Rattle.relay_work.proofs.turns.relay_work.Given as goal

abbrev pub invariant-turns : goal.invariant-turns
invariant-turns g l = record {
  turning : TurningFrom l.names l._turn (live_of l.fn.relay (g.T.Wires.seen l.fn.taps) (g.J.Sink.contents l.fn.journal)) (live_of l.relay (g.T.Wires.seen l.taps) (g.J.Sink.contents l.journal));
  taps : g.T.Wires.faults l.fn.taps ≤ g.T.Wires.faults l.taps;
  journal : g.J.Sink.faults l.fn.journal ≤ g.J.Sink.faults l.journal;
}
