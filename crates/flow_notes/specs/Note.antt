-- Notes as lines of a tape.
use Rattle.std.specs.Prelude.{ℕ, ◌≤◌, Bool, List, [], ◌∷◌, codes, if◌then◌else◌}
use Rattle.std.specs.Fmt.{decimal}
use Rattle.hex.specs.Hex.{encode_lower}
use Rattle.flow_notes.specs.Buffer.{buffer_words}
use Rattle.flow_rules.specs.Pausing.{CanPause}
use Rattle.flow_notes.specs.Cause.{cause_words}
use Rattle.flow_notes.specs.Close.{close_word}
use Rattle.flow_notes.specs.Event.{event_words, IsEvent}
use Rattle.flow_notes.specs.Fields.{FitsNote}
use Rattle.flow_notes.specs.Fire.{fire_word}
use Rattle.flow_notes.specs.Flow.{flow_word}
use Rattle.flow_notes.specs.Hex.{HasOctets}
use Rattle.flow_notes.specs.Line.{line_of}
use Rattle.flow_notes.specs.declared.notes.Note.{Note}
use Rattle.flow_notes.specs.declared.notes.Note.TheVariants.{Turn, Arrive, Move, Frame, Out, Pause, Resume, Credit, Head, Answer, Waste, Start, Doom, Gone, Close, Fire}

-- whether a frame carries the end
abbrev pub last_word : Bool → List ℕ
last_word last = if last then codes "end" else codes "more"

-- the words of a note; names are those of the clusters
abbrev pub note_words : List (List ℕ) → Note → List (List ℕ)
note_words names (Turn number event) = codes "turn" ∷ decimal number ∷ event_words names event
note_words names (Arrive flow octets) = codes "in" ∷ flow_word flow ∷ encode_lower octets ∷ []
note_words names (Move flow place n) = codes "move" ∷ flow_word flow ∷ decimal place ∷ decimal n ∷ []
note_words names (Frame conn flow n last) = codes "frame" ∷ decimal conn ∷ flow_word flow ∷ decimal n ∷ last_word last ∷ []
note_words names (Out conn n) = codes "out" ∷ decimal conn ∷ decimal n ∷ []
note_words names (Pause flow buffer) = codes "pause" ∷ flow_word flow ∷ buffer_words buffer
note_words names (Resume flow buffer) = codes "resume" ∷ flow_word flow ∷ buffer_words buffer
note_words names (Credit conn stream n) = codes "credit" ∷ decimal conn ∷ decimal stream ∷ decimal n ∷ []
note_words names (Head conn stream octets) = codes "head" ∷ decimal conn ∷ decimal stream ∷ encode_lower octets ∷ []
note_words names (Answer conn octets) = codes "answer" ∷ decimal conn ∷ encode_lower octets ∷ []
note_words names (Waste conn stream n) = codes "waste" ∷ decimal conn ∷ decimal stream ∷ decimal n ∷ []
note_words names (Start exchange conn stream to) = codes "start" ∷ decimal exchange ∷ decimal conn ∷ decimal stream ∷ decimal to ∷ []
note_words names (Doom exchange cause) = codes "doom" ∷ decimal exchange ∷ cause_words cause
note_words names (Gone exchange) = codes "gone" ∷ decimal exchange ∷ []
note_words names (Close conn code cause) = codes "close" ∷ decimal conn ∷ decimal code ∷ close_word cause ∷ []
note_words names (Fire kind id) = codes "fire" ∷ fire_word kind ∷ decimal id ∷ []

-- the one spelling of a note, without the newline
abbrev pub note_spelling : List (List ℕ) → Note → List ℕ
note_spelling names note = line_of (note_words names note)

-- the notes in their ranges, which are those that have a spelling
abbrev pub IsNote : List (List ℕ) → Note → Type 0
IsNote names (Turn number event) = (1 ≤ number) × IsEvent names event
IsNote names (Arrive flow octets) = HasOctets octets
IsNote names (Out conn n) = 1 ≤ n
IsNote names (Pause flow buffer) = CanPause flow buffer
IsNote names (Resume flow buffer) = CanPause flow buffer
IsNote names (Head conn stream octets) = HasOctets octets
IsNote names (Answer conn octets) = HasOctets octets
IsNote names _ = Unit {0}

-- the notes of a machine that have a spelling
abbrev pub HasNoteSpelling : List (List ℕ) → Note → Type 0
HasNoteSpelling names note = IsNote names note × FitsNote note
