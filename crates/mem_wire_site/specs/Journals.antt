-- What is seen of a worker's journal in memory.
use Rattle.flow_notes.specs.declared.notes.Note.{Note}
use Rattle.io_ports.specs.Memory.{SinkMemory}
use Rattle.std.specs.List.{flat_map}
use Rattle.std.specs.Prelude.{List, Option, Some, ℕ}

-- where its lines are, the notes of each dispatch, and how many writes failed
pub record JournalMemory : Type 0 where
  pub sink : SinkMemory
  pub notes : List (List Note)
  pub faults : ℕ

abbrev pub journal_text : JournalMemory → Option (List ℕ)
journal_text j = Some j.sink.octets

-- all notes that it was handed
abbrev pub journal_told : JournalMemory → Option (List Note)
journal_told j = Some (flat_map (λ notes. notes) j.notes)
