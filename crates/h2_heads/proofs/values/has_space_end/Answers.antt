use Rattle.h2_heads.proofs.Passes.{none_low_bad}
use Rattle.h2_heads.proofs.values.has_space_end.Goals as goal

pub returns : goal.returns
returns c =
    let bad = none_low_bad c.args.value.now c.requires in
    cc
