use Rattle.plain_laws.proofs.Above.{above_is_flag}
use Rattle.plain_laws.proofs.above_by_the_past.Goals as goal
use Rattle.tape_laws.specs.Plain.{plain_setup}
use Rattle.tape_laws.specs.Watermark.{lengths, limit}

pub returns : goal.returns
returns c = λ limits b h.
    let l = limit (plain_setup limits) b h in
    let ls = lengths (plain_setup limits) b h in
    rw (above_is_flag limits b h) (c.flag_is_watermark.ensures.above l ls)
