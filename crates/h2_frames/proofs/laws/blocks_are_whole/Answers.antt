use Rattle.h2_frames.proofs.Pieces.{few, long, read, whole}
use Rattle.h2_frames.proofs.laws.blocks_are_whole.Goals as goal

pub returns-clause-whole : goal.returns-clause-whole
returns-clause-whole c = whole

pub returns-clause-read : goal.returns-clause-read
returns-clause-read c = read

pub returns-clause-few : goal.returns-clause-few
returns-clause-few c = few

pub returns-clause-len : goal.returns-clause-len
returns-clause-len c = long
