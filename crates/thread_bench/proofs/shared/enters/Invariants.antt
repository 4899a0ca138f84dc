use Rattle.std.proofs.Common.{All, vec_len}
use Rattle.std.specs.Arc.{arc_value}
use Rattle.shared_state.specs.PermitSeats.{IsNewSeat, seats_in}
use Rattle.thread_bench.proofs.shared.enters.Given as goal

abbrev pub invariant-loop-seat : goal.invariant-loop-seat
invariant-loop-seat l = All (IsNewSeat (arc_value l.permits)) (seats_in l.seats)

abbrev pub decreases-loop-seat : goal.decreases-loop-seat
decreases-loop-seat l = vec_len l.seats.seats
