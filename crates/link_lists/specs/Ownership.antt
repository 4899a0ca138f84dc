-- What a heap owns and lends, at values of the row R.
use Rattle.std.specs.Prelude.{List, [], ◌∷◌}
use base.Fml.{Lft, Fml, ftrue, fsep}
use mir.Syntax.{Ty}
use denote.RattleType.{RattleType}
use denote.RawPtr.{Ptr}
use denote.Sharing.{nothing, beside}
use denote.Struct.Lending.{lent_at}
use Rattle.std_alloc.specs.Box.Ownership.{box_owns}
use Rattle.link_lists.specs.Cells.{Cell}

module _ (R : RattleType) {A : Type 0} where
  abbrev pub cells_own : (A → Ty → Ptr → Fml) → List (Cell A R.Denot) → Fml
  cells_own holds [] = ftrue
  cells_own holds (c ∷ cs) = fsep (box_owns (holds c.1.0) R c.0 c.1.1) (cells_own holds cs)

  abbrev pub cells_lent : List (Cell A R.Denot) → Lft → Fml
  cells_lent [] = nothing
  cells_lent (c ∷ cs) = beside (lent_at R c.0 c.1.1) (cells_lent cs)
