use denote.RattleType.{RattleType}
use denote.Param.Send.{IsSync}
use Rattle.std.specs.declared.alloc.Allocator.{Ghosts}
use Rattle.link_lists.proofs.Crosses.{Heap-sync}
use Rattle.link_lists.specs.contracts.heap.Heap.{the_row}

pub sync : (T A : RattleType) (g : Ghosts A.Denot) → IsSync T → IsSync (the_row T A g)
sync = Heap-sync
