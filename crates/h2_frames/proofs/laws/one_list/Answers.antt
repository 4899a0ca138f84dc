use Rattle.h2_frames.proofs.FrameLists.{reading_once}
use Rattle.h2_frames.proofs.laws.one_list.Goals as goal

pub returns : goal.returns
returns c = reading_once
