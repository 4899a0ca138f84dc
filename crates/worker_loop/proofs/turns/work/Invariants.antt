use Rattle.post_queue.specs.Clauses.{IsRunnerOf}
use Rattle.post_queue.specs.Pass as hands
use Rattle.shared_state.specs.Following.{looks}
use Rattle.shared_state.specs.PermitSeats.{view}
use Rattle.std.proofs.Common.{◌≤◌}
use Rattle.worker_core.specs.Sessions.{RestsWire}
use Rattle.worker_loop.specs.Keeping.{Keeps}
use Rattle.worker_loop.specs.Places.{place_of}
use Rattle.worker_loop.specs.Turns.{AreTurns, sides_of}
use Rattle.worker_loop.proofs.turns.work.Given as goal

abbrev pub invariant-turns : goal.invariant-turns
invariant-turns g l = record {
  core : RestsWire l.core.kind;
  pass : IsRunnerOf l.posts l.pass;
  turns : AreTurns l.names
      (sides_of (g.C.Clock.moments l.fn.clock) (hands.view l.fn.pass.pass) (looks l.fn.follower) l.fn.follower.kept) l.fn.core.kind
      (place_of (g.J.Sink.contents l.fn.journal) (g.J.Journal.told l.fn.journal) (g.W.Wires.seen l.fn.wires) l.fn.held (view l.fn.seat)) l.turn
      (sides_of (g.C.Clock.moments l.clock) (hands.view l.pass.pass) (looks l.follower) l.follower.kept) l.core.kind
      (place_of (g.J.Sink.contents l.journal) (g.J.Journal.told l.journal) (g.W.Wires.seen l.wires) l.held (view l.seat));
  keeps : Keeps l.permits (g.W.Wires.seen l.fn.wires) l.fn.held (view l.fn.seat) (g.W.Wires.seen l.wires) l.held l.seat;
  wires : g.W.Wires.faults l.fn.wires ≤ g.W.Wires.faults l.wires;
  journal : g.J.Sink.faults l.fn.journal ≤ g.J.Sink.faults l.journal;
}
