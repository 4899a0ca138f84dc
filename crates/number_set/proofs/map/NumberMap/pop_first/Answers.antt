use Rattle.number_set.proofs.Entries.{sorted_rest}
use Rattle.number_set.proofs.map.NumberMap.pop_first.Goals as goal

pub invariant_of-self : goal.invariant_of-self
invariant_of-self g c = sorted_rest c.self.inside.items.items c.pop_front.new.self.items c.self.invariant c.pop_front.ensures.rest
