use Rattle.wire_outlet.proofs.Ready.{room}
use Rattle.wire_outlet.proofs.laws.room_for_a_unit.Goals as goal

pub returns : goal.returns
returns c = room
