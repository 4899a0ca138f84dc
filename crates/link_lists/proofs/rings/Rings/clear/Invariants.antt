use Rattle.std.proofs.Common.{◌≡◌, ◌<◌, length}
use Rattle.link_lists.specs.Seen.{emptied}
use Rattle.link_lists.proofs.Fronts.{size_at}
use Rattle.link_lists.proofs.rings.Rings.clear.Given as goal

abbrev pub invariant-loop-at : goal.invariant-loop-at
invariant-loop-at g l = record { in_range : l.ring < length l.self; same : emptied l.ring l.self ≡ emptied l.ring l.initial.self }

abbrev pub decreases-loop-at : goal.decreases-loop-at
decreases-loop-at g l = size_at l.ring l.self
