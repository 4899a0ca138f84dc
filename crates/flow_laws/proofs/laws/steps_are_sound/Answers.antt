use Rattle.flow_laws.proofs.Builders.{steps_are_sound}
use Rattle.flow_laws.proofs.laws.steps_are_sound.Goals as goal

pub returns : goal.returns
returns c = λ start h ways limited s. steps_are_sound c.K.Kind.session ways limited h s
