-- The headline of a lawful tape.
use Rattle.plain_laws.proofs.Headlines.{headline_of}
use Rattle.plain_laws.proofs.whole_tapes_keep_the_headline.Goals as goal

pub returns : goal.returns
returns c = λ limits h w. headline_of limits h w
