use Rattle.std.proofs.Common.{Some}
use Rattle.std.proofs.lemmas.List.Elements.{All-pop}
use Rattle.std.specs.Arc.{arc_value}
use Rattle.shared_state.specs.PermitSeats.{IsNewSeat}
use Rattle.thread_bench.proofs.shared.enters.Goals as goal

pub loop-seat-preserved : goal.loop-seat-preserved
loop-seat-preserved c = (All-pop (IsNewSeat (arc_value c.in_ok-permits-2.permits)) _ _ (Some c.in-Some.seat) c.in-Some.ensures c.loop-seat.invariant).0
