-- The short summary of a tape: six counts.
use Rattle.flow_rules.specs.declared.causes.Cause.{Cause}
use Rattle.flow_notes.specs.declared.notes.Note.{Note}
use Rattle.std.specs.Fmt.{decimal}
use Rattle.std.specs.List.{sum_by}
use Rattle.std.specs.Prelude.{List, [], codes, length, ℕ, ◌++◌, ◌∷◌}
use Rattle.tape_laws.specs.History.{History, NoMark, notes_of}
use Rattle.tape_laws.specs.Plain.{plain_setup}
use Rattle.tape_laws.specs.Report.{report_line}
use Rattle.tape_laws.specs.Summary.{peak}
use Rattle.tape_laws.specs.declared.PlainLimits.{PlainLimits}
use Rattle.flow_rules.specs.declared.ids.BufferId.TheVariants as buffer
use Rattle.flow_rules.specs.declared.causes.Cause.TheVariants as cause
use Rattle.flow_notes.specs.declared.notes.Note.TheVariants as note

-- the streams that begin with a note
abbrev pub streams_in : Note → ℕ
streams_in (note.Start x c s d) = 1
streams_in n = 0

-- the octets that a note brings into a receive buffer, and that it frames
abbrev pub octets_in : Note → ℕ
octets_in (note.Arrive f octets) = length octets
octets_in n = 0

abbrev pub octets_framed : Note → ℕ
octets_framed (note.Frame c f n last) = n
octets_framed n = 0

abbrev pub pauses_in : Note → ℕ
pauses_in (note.Pause f b) = 1
pauses_in n = 0

-- the streams that are doomed since their peer reset them
abbrev pub resets_by : Cause → ℕ
resets_by (cause.PeerReset code) = 1
resets_by why = 0

abbrev pub resets_in : Note → ℕ
resets_in (note.Doom x why) = resets_by why
resets_in n = 0

abbrev pub count_line : List ℕ → ℕ → List ℕ
count_line word n = report_line (word ∷ decimal n ∷ [])

abbrev pub counts_text : (streams received sent most pauses resets : ℕ) → List ℕ
counts_text streams received sent most pauses resets =
    count_line (codes "streams") streams
    ++ (count_line (codes "received") received
    ++ (count_line (codes "sent") sent
    ++ (count_line (codes "peak") most
    ++ (count_line (codes "pauses") pauses
    ++ count_line (codes "resets") resets))))

-- streams, octets received and framed, the most that the write buffer held, pauses, and resets
abbrev pub short_summary : PlainLimits → History NoMark → List ℕ
short_summary limits h =
    counts_text (sum_by streams_in (notes_of h)) (sum_by octets_in (notes_of h)) (sum_by octets_framed (notes_of h))
    (peak (plain_setup limits) (buffer.Write 0) h) (sum_by pauses_in (notes_of h)) (sum_by resets_in (notes_of h))
