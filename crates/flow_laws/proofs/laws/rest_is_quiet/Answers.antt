use Rattle.flow_laws.proofs.Quiets.{rest_is_quiet}
use Rattle.flow_laws.proofs.laws.rest_is_quiet.Goals as goal

pub returns : goal.returns
returns c = λ start h ways p r. rest_is_quiet c.K.Kind.session h ways p r
