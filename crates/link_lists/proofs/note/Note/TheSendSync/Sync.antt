use denote.RattleType.{RattleType}
use denote.Struct.Owning.{shape, to}
use denote.Param.Send.{IsSync, struct_sync, sendable}
use Rattle.link_lists.specs.contracts.note.Note as C

pub sync : (T : RattleType) → IsSync (C.the_row T)
sync T = let O = C.the_type T in record { shared = λ d b o κ. ((struct_sync (shape O) (search sendable, tt)).shared (to O d) b o κ, tt) }
