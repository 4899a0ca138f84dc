-- A journal in memory.
use Rattle.flow_notes.specs.declared.notes.Note.{Note}
use Rattle.io_ports.specs.Memory.{SinkMemory}
use Rattle.std.specs.List.{flat_map}
use Rattle.std.specs.Prelude.{List, Option, Some}
use Rattle.worker_parts.specs.declared.mem_journal.MemJournal.{MemJournal}

abbrev pub sink_of : MemJournal → SinkMemory
sink_of j = j.sink

-- the notes of each dispatch
abbrev pub notes_in : MemJournal → List (List Note)
notes_in j = j.notes.items

-- all that it was handed
abbrev pub told_by : MemJournal → Option (List Note)
told_by j = Some (flat_map (λ notes. notes) (notes_in j))
