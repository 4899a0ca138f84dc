-- A round failed.
use Rattle.proxy_wire.proofs.Returning.{rose_before}
use Rattle.proxy_wire.proofs.leading.make_rounds.Goals as goal

pub returns-then-fails-clause-failed : goal.returns-then-fails-clause-failed
returns-then-fails-clause-failed g c round = rose_before _ _ _ c.loop.invariant.no_fall (c.fails.ensures.failed c.if-fails.true)
