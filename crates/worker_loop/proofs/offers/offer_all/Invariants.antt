use Rattle.shared_state.specs.PermitSeats.{view}
use Rattle.std.proofs.Common.{◌-◌, ◌^◌, ◌≤◌}
use Rattle.worker_core.specs.Sessions.{RestsWire}
use Rattle.worker_loop.specs.Clauses.{OffersSome}
use Rattle.worker_loop.specs.Keeping.{Keeps}
use Rattle.worker_loop.specs.Places.{place_of}
use Rattle.worker_loop.proofs.offers.offer_all.Given as goal

abbrev pub invariant-loop-conn : goal.invariant-loop-conn
invariant-loop-conn g l = record {
  core : RestsWire l.core.kind;
  some : OffersSome l.names l.last l.fn.core.kind (place_of (g.J.Sink.contents l.fn.journal) (g.J.Journal.told l.fn.journal) (g.W.Wires.seen l.fn.wires) l.fn.held (view l.fn.seat)) l.core.kind (place_of (g.J.Sink.contents l.journal) (g.J.Journal.told l.journal) (g.W.Wires.seen l.wires) l.held (view l.seat));
  keeps : Keeps l.permits (g.W.Wires.seen l.fn.wires) l.fn.held (view l.fn.seat) (g.W.Wires.seen l.wires) l.held l.seat;
  wires : g.W.Wires.faults l.fn.wires ≤ g.W.Wires.faults l.wires;
  journal : g.J.Sink.faults l.fn.journal ≤ g.J.Sink.faults l.journal;
}

-- the numbers above the last one
abbrev pub decreases-loop-conn : goal.decreases-loop-conn
decreases-loop-conn g l = 2 ^ 32 - l.last
