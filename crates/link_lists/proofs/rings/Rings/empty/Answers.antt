use Rattle.link_lists.proofs.Opened.{Sound-empty}
use Rattle.link_lists.proofs.rings.Rings.empty.Goals as goal

pub invariant_of-result : goal.invariant_of-result
invariant_of-result g c = rw (c.new.ensures, c.new-2.ensures.items, c.new-4.ensures) Sound-empty
