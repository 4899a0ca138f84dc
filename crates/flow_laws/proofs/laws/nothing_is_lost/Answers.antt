use Rattle.flow_laws.proofs.Losing.{each_loses_nothing}
use Rattle.flow_laws.proofs.laws.nothing_is_lost.Goals as goal

pub returns : goal.returns
returns c = λ start setup h ways m l. each_loses_nothing setup ways h m l
