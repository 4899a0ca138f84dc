use Rattle.std.proofs.Common.{◌∙◌}
use Rattle.link_lists.proofs.Shut.{nothing_left}
use Rattle.link_lists.proofs.rings.Rings.drop.Goals as goal

pub close-requires : goal.close-requires
close-requires g c = let i = c.self.inside in nothing_left i.heap.cells i.ends.items i.note.rings c.self.invariant (c.self.view_is ∙ c.loop-test.ensures)
