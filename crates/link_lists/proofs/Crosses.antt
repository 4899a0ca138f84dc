-- A heap may cross threads as its values and its allocator may.
use Rattle.std.specs.Prelude.{List, [], ◌∷◌}
use mir.Raw.{raw}
use base.Shift.{Keyless}
use denote.RattleType.{RattleType}
use denote.Memory.{lone}
use denote.Struct.Struct.{exits_of}
use denote.Struct.Owning.{shape, fields, to}
use denote.Param.Send.{IsSend, IsSync, Common, AllSend, owning_send, struct_send, struct_sync, sendable}
use Rattle.std.specs.declared.alloc.Allocator.{Ghosts}
use Rattle.std_alloc.proofs.SendSync.{FreesAnywhere, quiet, lies, seen}
use Rattle.link_lists.specs.Cells.{Cell}
use Rattle.link_lists.specs.Ownership.{cells_own, cells_lent}
use Rattle.link_lists.specs.contracts.heap.Heap as C

module _ (V A : RattleType) (g : Ghosts A.Denot) where
  cells-Keyless : IsSend V → FreesAnywhere A.Denot g → (cs : List (Cell A.Denot V.Denot)) → Keyless (cells_own V g.dealloc_token cs)
  cells-Keyless s f [] = tt
  cells-Keyless s f (c ∷ cs) = ((lies V s c.0 c.1.1, f.frees c.1.0 (raw (lone V.mir)) c.0), cells-Keyless s f cs)

  cells_lent-Common : IsSync V → (cs : List (Cell A.Denot V.Denot)) → Common (cells_lent V cs)
  cells_lent-Common y [] κ = tt
  cells_lent-Common y (c ∷ cs) κ = (seen V y c.0 c.1.1 κ, cells_lent-Common y cs κ)

  pub Heap-send : IsSend V → FreesAnywhere A.Denot g → IsSend (C.the_row V A g)
  Heap-send s f =
      let O = C.the_type V A g in let all : AllSend (fields O) = (search sendable, tt) in
      owning_send O all (λ d. cells-Keyless s f d.cells) (λ k. quiet (to O) (exits_of k (fields O)) ((struct_send (shape O) all).leaving k))

  pub Heap-sync : IsSync V → IsSync (C.the_row V A g)
  Heap-sync y = let O = C.the_type V A g in record {
    shared = λ d b o κ. ((struct_sync (shape O) (search sendable, tt)).shared (to O d) b o κ, cells_lent-Common y d.cells κ);
  }
