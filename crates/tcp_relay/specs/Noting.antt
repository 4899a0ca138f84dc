-- What writing some notes appends: all of them, or a front where memory was refused.
use Rattle.flow_notes.specs.declared.notes.Note.{Note}
use Rattle.io_ports.specs.declared.octets.NoMemory.{NoMemory}
use Rattle.std.specs.Prelude.{Err, List, Ok, Result, ◌++◌, ◌≡◌}

-- a front of the notes was appended
pub record AppendsSome (old ns new : List Note) : Type 0 where
  pub front : List Note
  pub rest : List Note
  pub whole : ns ≡ front ++ rest
  pub is : new ≡ old ++ front

abbrev pub AppendsNotes : List Note → List Note → List Note → Result (Unit {0}) NoMemory → Type 0
AppendsNotes old ns new (Ok u) = new ≡ old ++ ns
AppendsNotes old ns new (Err e) = AppendsSome old ns new
