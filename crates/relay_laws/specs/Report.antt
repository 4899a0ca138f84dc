-- The text of a relay's summary: the peaks of the write buffers that ever held an octet, pauses with their resumes, and the
-- dispatches.
use Rattle.relay_laws.specs.Pairs.{Tape}
use Rattle.relay_laws.specs.World.{out}
use Rattle.std.specs.Fmt.{decimal}
use Rattle.std.specs.Prelude.{List, [], codes, flat_map, length, max, ℕ, ◌++◌, ◌∷◌}
use Rattle.tape_laws.specs.Dispatches.{turns}
use Rattle.tape_laws.specs.History.{Noted}
use Rattle.tape_laws.specs.Report.{paused_line, peak_line, report_line}
use Rattle.tape_laws.specs.Summary.{paused_lines}
use Rattle.flow_notes.specs.declared.events.Event.TheVariants as event
use Rattle.flow_notes.specs.declared.notes.Note.TheVariants as note

-- the connections, in the order of their numbers
abbrev pub connections : Tape → List ℕ
connections [] = []
connections (Noted (note.Turn k (event.Accept c)) ∷ past) = connections past ++ c ∷ []
connections (Noted (note.Turn k (event.Join c cluster)) ∷ past) = connections past ++ c ∷ []
connections (step ∷ past) = connections past

-- the greatest length that the write buffer ever had
abbrev pub peak : ℕ → Tape → ℕ
peak c [] = 0
peak c (step ∷ past) = max (length (out c (step ∷ past))) (peak c past)

abbrev pub write_peak : ℕ → Tape → ℕ → List ℕ
write_peak limit history c = peak_line (codes "write" ∷ decimal c ∷ []) limit (peak c history)

abbrev pub relay_summary : ℕ → Tape → List ℕ
relay_summary limit history =
    flat_map (write_peak limit history) (connections history)
    ++ (flat_map paused_line (paused_lines history) ++ report_line (codes "done" ∷ decimal (turns history) ∷ []))
