use Rattle.post_queue.proofs.Places.{in_place-pop}
use Rattle.post_queue.proofs.passes.PosterPasses.take_one.Goals as goal

pub returns-clause-places : goal.returns-clause-places
returns-clause-places c = in_place-pop _ _ _ c.pop.ensures.items
