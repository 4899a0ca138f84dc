-- What a journal is handed.
use Rattle.flow_notes.specs.declared.notes.Note.{Note}
use Rattle.std.specs.Option.{option_map}
use Rattle.std.specs.Prelude.{List, Option, codes, ℕ, ◌++◌}

-- the first line, with its newline
abbrev pub header : List ℕ
header = codes "h2replay-session 1 wire\n"

-- the notes that are told, and then these
abbrev pub with_notes : List Note → Option (List Note) → Option (List Note)
with_notes notes told = option_map (λ before. before ++ notes) told
