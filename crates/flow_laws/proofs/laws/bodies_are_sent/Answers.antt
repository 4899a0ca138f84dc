use Rattle.flow_laws.proofs.Losing.{bodies_are_sent}
use Rattle.flow_laws.proofs.laws.bodies_are_sent.Goals as goal

pub returns : goal.returns
returns c = λ start setup h ways m l b g. bodies_are_sent setup ways h m l b g
