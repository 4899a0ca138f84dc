use Rattle.shared_state.specs.PermitSeats.{view}
use Rattle.std.proofs.Common.{◌≤◌}
use Rattle.worker_loop.proofs.Closing.{EndsSoFar}
use Rattle.worker_loop.specs.Keeping.{Keeps}
use Rattle.worker_loop.proofs.settling.settle.Given as goal

abbrev pub invariant-loop-passage : goal.invariant-loop-passage
invariant-loop-passage g l = record {
  ends : EndsSoFar l.core.kind l.notes l.passage-iterator (g.W.Wires.seen l.fn.wires) l.fn.held (view l.fn.seat) (g.W.Wires.seen l.wires) l.held (view l.seat);
  keeps : Keeps l.permits (g.W.Wires.seen l.fn.wires) l.fn.held (view l.fn.seat) (g.W.Wires.seen l.wires) l.held l.seat;
  no_fall : g.W.Wires.faults l.fn.wires ≤ g.W.Wires.faults l.wires;
}
