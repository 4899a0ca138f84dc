use Rattle.filter_chain.proofs.Heads.{head_goes, head_waits}
use Rattle.filter_chain.proofs.laws.heads_wait_for_holds.Goals as goal

pub returns-clause-waits : goal.returns-clause-waits
returns-clause-waits c = head_waits

pub returns-clause-goes : goal.returns-clause-goes
returns-clause-goes c = head_goes
