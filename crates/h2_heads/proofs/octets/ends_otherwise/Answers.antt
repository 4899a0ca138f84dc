use Rattle.h2_heads.proofs.TwoEnds.{other_ends}
use Rattle.h2_heads.proofs.octets.ends_otherwise.Goals as goal

pub returns : goal.returns
returns c differ =
    other_ends c.args.octets.now c.args.others.now c.last_of.result c.last_of-2.result c.last_of.ensures c.last_of-2.ensures differ
