use Rattle.post_queue.proofs.Steps.{pops, learns}
use Rattle.post_queue.proofs.close.take_all.Goals as goal

pub pop_as-requires-clause-rule : goal.pop_as-requires-clause-rule
pop_as-requires-clause-rule g c = (pops _ _ c.loop.invariant.pass.1, learns _ _ c.loop.invariant.pass.1)
