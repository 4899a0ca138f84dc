use Rattle.flow_laws.proofs.Balance.{counts_balance}
use Rattle.flow_laws.proofs.laws.counts_balance.Goals as goal

pub returns : goal.returns
returns c = λ start setup h ways p. counts_balance setup h ways p
