use Rattle.wire_out.proofs.Framing.{as_list}
use Rattle.wire_out.proofs.units.frame_going.Goals as goal

pub frame_list-requires-clause-unit : goal.frame_list-requires-clause-unit
frame_list-requires-clause-unit c = rw c.in-Some-Head.field-0-is at c.in-Some-Head.ensures.unit

pub frame_list-requires-in-Some-Trailers-clause-unit : goal.frame_list-requires-in-Some-Trailers-clause-unit
frame_list-requires-in-Some-Trailers-clause-unit c = as_list _ (rw c.in-Some-Trailers.field-0-is at c.in-Some-Trailers.ensures.unit)
