use Rattle.flow_rules.proofs.Narrow.{unit_narrowed}
use Rattle.flow_rules.proofs.unit.units_narrow.Goals as goal

pub returns : goal.returns
returns c = unit_narrowed
