-- A `&` to the heap reaches each value. Assumes `Logic`.
use mathlib.Core.List.{[], ◌++◌}
use base.Fml.{Incl-trans}
use contract.BorrowLft.{meet_⊑_left}
use denote.RattleType.{RattleType}
use denote.RawPtr.{RawPtr}
use denote.Param.Laws.{Laws}
use denote.Param.Shared.{copy_shared}
use denote.Struct.Laws.{field_copy}
use denote.Struct.Lending.{of_Lends}
use Rattle.std.specs.declared.alloc.Allocator.{Ghosts}
use Rattle.core.specs.contracts.marker.PhantomData as marker
use Rattle.link_lists.specs.contracts.heap.Heap as C
use Rattle.link_lists.proofs.heap.Heap.TheLaw.Statement.{statement}
use Rattle.link_lists.proofs.Shared.{cells_lent_laws, Lends-cells}

pub shares : (V A : RattleType) (g : Ghosts A.Denot) (L : Laws V) (N : Laws A) → statement V A g L N
shares V A g L N = of_Lends (C.struct V A g) (C.the_codes V.Denot A.Denot V.coded A.coded (marker.the_row RawPtr).coded) (C.the_heap V A g) (C.the_lent V A g)
    (λ d p. cells_lent_laws V L.shr_laws d.cells) (copy_shared (marker.the_field RawPtr) (field_copy (marker.the_type RawPtr) tt), tt)
    (λ M 𝓤 𝓛 d p.
    Lends-cells 𝓛 (C.the_row V A g).lives V L (Incl-trans (meet_⊑_left (V.lives ++ (A.lives ++ [])) _) (meet_⊑_left V.lives (A.lives ++ []))) g.dealloc_token d.cells)
