-- What a heap ends as, once a `&mut` to a value has ended.
use Rattle.std.specs.Borrow.{Fml, RattleType, MutBor, Lends}
use denote.RawPtr.{Ptr}
use Rattle.std.specs.declared.alloc.Allocator.{Ghosts}
use Rattle.link_lists.specs.Cells.{write}
use Rattle.link_lists.specs.declared.heap.Heap.{Heap}
use Rattle.link_lists.specs.contracts.heap.Heap.{the_row}

-- the same heap with w at p
abbrev pub with_value : {V A : Type 0} → Heap V A → Ptr → V → Heap V A
with_value h p w = record { mark = h.mark; cells = write p w h.cells }

abbrev pub heap_lends : (V A : RattleType) (g : Ghosts A.Denot) → MutBor (Heap V.Denot A.Denot) → Ptr → MutBor V.Denot → Fml
heap_lends V A g h p r = Lends (the_row V A g) V h r (with_value h.now p)
