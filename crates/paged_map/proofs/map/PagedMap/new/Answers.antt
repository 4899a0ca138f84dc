use Rattle.paged_map.proofs.Ascending.{ascending, below_none}
use Rattle.paged_map.proofs.Directory.{kept_none}
use Rattle.paged_map.proofs.map.PagedMap.new.Goals as goal

pub invariant_of-result : goal.invariant_of-result
invariant_of-result g c = (kept_none c.new.result.items c.new.ensures.items, below_none g.K.Key.bound c.new.result.items c.new.ensures.items)

pub returns-clause-ordered : goal.returns-clause-ordered
returns-clause-ordered g c = ascending c.new.result.items (invariant_of-result g c).0.pages
