use Rattle.flow_laws.proofs.Bounded.{bounds_hold}
use Rattle.flow_laws.proofs.laws.bounds_hold.Goals as goal

pub returns : goal.returns
returns c = λ start setup h ways limited m l t. bounds_hold setup ways limited h m l t
