-- Why a connection was closed.
use Rattle.std.specs.Prelude.{ℕ, List, codes}
use Rattle.flow_notes.specs.declared.notes.CloseCause.{CloseCause}
use Rattle.flow_notes.specs.declared.notes.CloseCause.TheVariants.{Protocol, Lost, Drained, Idle, Overload, Flood}

abbrev pub close_word : CloseCause → List ℕ
close_word Protocol = codes "protocol"
close_word Lost = codes "lost"
close_word Drained = codes "drained"
close_word Idle = codes "idle"
close_word Overload = codes "overload"
close_word Flood = codes "flood"
