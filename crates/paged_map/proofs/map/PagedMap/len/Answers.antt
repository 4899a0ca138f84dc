use Rattle.number_set.specs.NumberMap.{IsSorted}
use Rattle.paged_map.proofs.Ascending.{ascending}
use Rattle.paged_map.proofs.map.PagedMap.len.Goals as goal
use Rattle.paged_map.specs.PagedMap.{PagedMap}
use Rattle.std.proofs.Common.{subst}

pub returns-clause-ordered : goal.returns-clause-ordered
returns-clause-ordered g c = subst (λ (m : PagedMap g.row.V.Denot). IsSorted m.entries) c.self.view_is (ascending c.self.inside.pages.items c.self.invariant.0.pages)
