use denote.RattleType.{RattleType}
use denote.Param.Send.{IsSend, Frees}
use Rattle.std.specs.declared.alloc.Allocator.{Ghosts}
use Rattle.link_lists.proofs.Crosses.{Heap-send}
use Rattle.link_lists.specs.contracts.heap.Heap.{the_row}

pub send : (T A : RattleType) (g : Ghosts A.Denot) → IsSend T → IsSend A → Frees g g.dealloc_token → IsSend (the_row T A g)
send T A g s t f = Heap-send T A g s f
