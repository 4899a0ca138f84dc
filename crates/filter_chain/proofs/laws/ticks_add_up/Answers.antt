use Rattle.filter_chain.proofs.Ticks.{two_ticks}
use Rattle.filter_chain.proofs.laws.ticks_add_up.Goals as goal

pub returns : goal.returns
returns c = two_ticks
