use Rattle.h2_frames.proofs.Written.{spells, written_again}
use Rattle.h2_frames.proofs.laws.written_is_read.Goals as goal

pub returns-clause-spells : goal.returns-clause-spells
returns-clause-spells c = spells

pub returns-clause-again : goal.returns-clause-again
returns-clause-again c = written_again
