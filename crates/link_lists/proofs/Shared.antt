-- A `&` to the heap is made where one to a value is. Assumes `Logic`.
use mathlib.Core.List.{List, [], ◌∷◌}
use seplogic.Ra.Ura.{Ura}
use mir.Syntax.{Ty}
use base.Fraction.{full_share}
use base.Fml.{Lft, Fml, Incl, ftrue}
use types.Logic.{Logic}
use denote.RattleType.{RattleType, RowLaws}
use denote.Param.Laws.{Laws}
use denote.RawPtr.{Ptr, lies_at}
use denote.Sharing.{ShrLaws}
use denote.SharingLaws.{beside_shr_laws, nothing_shr_laws}
use denote.Shares.{Shares-less}
use denote.Memory.{lone}
use mir.Raw.{raw}
use denote.Struct.Lending.{Lends, lent_at, lent_at_shr_laws, Lends-lies, Lends-first, Lends-both, Lends-nothing}
use Rattle.std_alloc.specs.Box.Ownership.{box_owns}
use Rattle.link_lists.specs.Cells.{Cell}
use Rattle.link_lists.specs.Ownership.{cells_own, cells_lent}

pub cells_lent_laws : (R : RattleType) (L : RowLaws R) {A : Type 0} (cs : List (Cell A R.Denot)) → ShrLaws (cells_lent R cs)
cells_lent_laws R L [] = nothing_shr_laws
cells_lent_laws R L (c ∷ cs) = beside_shr_laws _ _ (lent_at_shr_laws R L c.0 c.1.1) (cells_lent_laws R L cs)

pub Lends-cells : {M : Type 1} {𝓤 : Ura M} (𝓛 : Logic 𝓤) (l : Lft) (R : RattleType) (L : Laws R) (inc : Incl l R.lives) {A : Type 0} (holds : A → Ty → Ptr → Fml) (cs : List (Cell A R.Denot))
    → Lends 𝓛 (cells_own R holds cs) (cells_lent R cs) l
Lends-cells 𝓛 l R L inc holds [] = Lends-nothing 𝓛 ftrue l
Lends-cells 𝓛 l R L inc holds (c ∷ cs) =
    Lends-both 𝓛 (box_owns (holds c.1.0) R c.0 c.1.1) (cells_own R holds cs) (lent_at R c.0 c.1.1) (cells_lent R cs) l
    (Lends-first 𝓛 (lies_at R full_share c.0 c.1.1) (holds c.1.0 (raw (lone R.mir)) c.0) (lent_at R c.0 c.1.1) l
    (Lends-lies 𝓛 R l c.0 c.1.1 (Shares-less 𝓛 R R.lives l inc (L.shares 𝓛) c.1.1)))
    (Lends-cells 𝓛 l R L inc holds cs)
