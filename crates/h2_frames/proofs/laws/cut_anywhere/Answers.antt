use Rattle.h2_frames.proofs.FrameLists.{cut}
use Rattle.h2_frames.proofs.laws.cut_anywhere.Goals as goal

pub returns : goal.returns
returns c = cut
