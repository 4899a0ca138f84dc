-- A `&` to a note holds nothing. Assumes `Logic`.
use base.Fml.{ftrue}
use denote.RattleType.{RattleType}
use denote.RawPtr.{RawPtr}
use denote.Param.Laws.{Laws}
use denote.Param.Shared.{copy_shared}
use denote.SharingLaws.{nothing_shr_laws}
use denote.Struct.Laws.{field_copy}
use denote.Struct.Lending.{of_Lends, Lends-nothing}
use Rattle.core.specs.contracts.marker.PhantomData as marker
use Rattle.link_lists.specs.contracts.note.Note as C
use Rattle.link_lists.proofs.note.Note.TheLaw.Statement.{statement}

pub shares : (T : RattleType) (L : Laws T) → statement T L
shares T L = of_Lends (C.struct T) (C.the_codes T.Denot T.coded (marker.the_row RawPtr).coded) (C.the_heap T) (C.the_lent T)
    (λ d p. nothing_shr_laws) (copy_shared (marker.the_field RawPtr) (field_copy (marker.the_type RawPtr) tt), tt)
    (λ M 𝓤 𝓛 d p. Lends-nothing 𝓛 ftrue (C.the_row T).lives)
