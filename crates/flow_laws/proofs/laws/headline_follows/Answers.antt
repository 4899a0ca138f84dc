use Rattle.flow_laws.proofs.Sound.{headline_of}
use Rattle.flow_laws.proofs.laws.headline_follows.Goals as goal

pub returns : goal.returns
returns c = λ start h ways s q. headline_of c.K.Kind.session ways h s q
