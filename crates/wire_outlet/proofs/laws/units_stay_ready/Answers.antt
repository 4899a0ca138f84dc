use Rattle.wire_outlet.proofs.Ready.{appended}
use Rattle.wire_outlet.proofs.laws.units_stay_ready.Goals as goal

pub returns : goal.returns
returns c = appended
