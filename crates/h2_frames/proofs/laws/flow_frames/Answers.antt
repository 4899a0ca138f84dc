use Rattle.std.proofs.Common.{refl}
use Rattle.h2_frames.proofs.laws.flow_frames.Goals as goal

pub returns-clause-data : goal.returns-clause-data
returns-clause-data c = λ stream padded last octets. refl

pub returns-clause-update : goal.returns-clause-update
returns-clause-update c = λ stream n. refl
