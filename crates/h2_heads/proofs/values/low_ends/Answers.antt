use Rattle.h2_heads.specs.Passes.{is_low}
use Rattle.h2_heads.proofs.TwoEnds.{any_ends}
use Rattle.h2_heads.proofs.values.low_ends.Goals as goal

pub returns : goal.returns
returns c =
    let both = any_ends is_low c.args.value.now c.args.n c.requires.within c.requires.covered in
    cc
