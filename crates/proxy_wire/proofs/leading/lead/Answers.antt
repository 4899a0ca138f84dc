-- A fault of a round is one still once the workers are told to stop.
use Rattle.proxy_wire.proofs.Returning.{rose_on}
use Rattle.proxy_wire.proofs.leading.lead.Goals as goal

pub returns-clause-failed : goal.returns-clause-failed
returns-clause-failed g c = record { rose = λ round. rose_on _ _ _ c.make_rounds-end.ensures.no_fall (c.make_rounds-end.ensures.failed round) c.stop.ensures.no_fall }
