use Rattle.flow_laws.proofs.Ends.{ends_once}
use Rattle.flow_laws.proofs.laws.ends_once.Goals as goal

pub returns : goal.returns
returns c = λ start setup h ways m l k t f. ends_once setup ways h m l k t f
