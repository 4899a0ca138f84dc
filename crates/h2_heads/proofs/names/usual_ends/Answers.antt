use Rattle.h2_heads.specs.Passes.{is_usual}
use Rattle.h2_heads.proofs.TwoEnds.{all_ends}
use Rattle.h2_heads.proofs.names.usual_ends.Goals as goal

pub returns : goal.returns
returns c =
    let both = all_ends is_usual c.args.octets.now c.args.n c.requires.within c.requires.covered in
    cc
