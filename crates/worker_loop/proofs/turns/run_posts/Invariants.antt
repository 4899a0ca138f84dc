use Rattle.shared_state.specs.PermitSeats.{view}
use Rattle.std.proofs.Common.{length, ◌≤◌}
use Rattle.worker_loop.proofs.Carrying.{RunsSoFar}
use Rattle.worker_loop.specs.Keeping.{Keeps}
use Rattle.worker_loop.specs.Places.{place_of}
use Rattle.worker_loop.proofs.turns.run_posts.Given as goal

abbrev pub invariant-loop-post : goal.invariant-loop-post
invariant-loop-post g l = record {
  so : RunsSoFar l.names l.posts l.rest l.fn.core.kind (place_of (g.J.Sink.contents l.fn.journal) (g.J.Journal.told l.fn.journal) (g.W.Wires.seen l.fn.wires) l.fn.held (view l.fn.seat)) l.core.kind (place_of (g.J.Sink.contents l.journal) (g.J.Journal.told l.journal) (g.W.Wires.seen l.wires) l.held (view l.seat));
  keeps : Keeps l.permits (g.W.Wires.seen l.fn.wires) l.fn.held (view l.fn.seat) (g.W.Wires.seen l.wires) l.held l.seat;
  wires : g.W.Wires.faults l.fn.wires ≤ g.W.Wires.faults l.wires;
  journal : g.J.Sink.faults l.fn.journal ≤ g.J.Sink.faults l.journal;
}

abbrev pub decreases-loop-post : goal.decreases-loop-post
decreases-loop-post g l = length l.rest
