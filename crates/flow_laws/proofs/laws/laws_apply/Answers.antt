use Rattle.flow_laws.proofs.MadeUp.{laws_apply}
use Rattle.flow_laws.proofs.laws.laws_apply.Goals as goal

pub returns : goal.returns
returns c = laws_apply
