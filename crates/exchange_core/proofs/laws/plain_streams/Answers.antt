use Rattle.std.proofs.Common.{refl}
use Rattle.exchange_core.proofs.PlainStreams.{goes, stays}
use Rattle.exchange_core.proofs.laws.plain_streams.Goals as goal

pub returns-clause-begins : goal.returns-clause-begins
returns-clause-begins c = λ x window limit quantum now config. refl

pub returns-clause-arrives : goal.returns-clause-arrives
returns-clause-arrives c = λ x p octets. refl

pub returns-clause-finishes : goal.returns-clause-finishes
returns-clause-finishes c = λ x p. refl

pub returns-clause-moves : goal.returns-clause-moves
returns-clause-moves c = goes

pub returns-clause-stays : goal.returns-clause-stays
returns-clause-stays c = stays

pub returns-clause-frames : goal.returns-clause-frames
returns-clause-frames c = λ x n last p. refl
