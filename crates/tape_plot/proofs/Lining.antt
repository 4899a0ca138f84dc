-- Lines that are read and spelled.
use Rattle.flow_rules.specs.declared.ids.BufferId.{BufferId}
use Rattle.flow_notes.specs.Buffer.{buffer_words}
use Rattle.flow_notes.specs.Fields.{FitsNote}
use Rattle.flow_notes.specs.Flow.{flow_word}
use Rattle.flow_notes.specs.Line.{newline, spaced}
use Rattle.flow_notes.specs.Name.{AreNames}
use Rattle.flow_notes.specs.Note.{IsNote, note_spelling}
use Rattle.flow_notes.specs.declared.notes.Note.{Note}
use Rattle.io_ports.specs.declared.octets.NoMemory.{NoMemory}
use Rattle.std.proofs.Common.{ap, append_assoc, arith, sym, ◌∙◌}
use Rattle.std.proofs.lemmas.Grind.{common_steps}
use Rattle.std.specs.Fmt.{decimal}
use Rattle.std.specs.Prelude.{Err, IfNone, IfOk, IfSome, List, None, Ok, OnOk, Option, Result, Some, [], codes, ℕ, ◌++◌, ◌∷◌, ◌≡◌}
use Rattle.tape_laws.specs.Report.{paused_line, report_line, until_word}
use Rattle.tape_laws.specs.Summary.{Paused}
use Rattle.tape_plot.specs.Lines.{line_text}
use Rattle.tape_plot.specs.Reading.{ReadsNote}
use Rattle.tape_plot.specs.declared.report.Line.{Line}
use Rattle.flow_rules.specs.declared.ids.BufferId.TheVariants as buffer
use Rattle.tape_plot.specs.declared.report.Line.TheVariants as line

-- ---- a note

pub reads_note : (line : List ℕ) (names : List (List ℕ)) (r : Result (Option Note) NoMemory) → AreNames names
    → IfOk r (λ read. IfSome read (λ n. (line ≡ note_spelling names n) × IsNote names n × FitsNote n))
    → IfOk r (λ read. IfNone read ((n : Note) → FitsNote n → IsNote names n → note_spelling names n ≡ line → ⊥))
    → IfOk r (ReadsNote line)
reads_note line names (Err e) are some none = tt
reads_note line names (Ok None) are some none = record { names = names; are = are; spells = none }
reads_note line names (Ok (Some n)) are some none = record { names = names; are = are; spells = some }

-- ---- the last lines of a session that was refused

pub length_ends : (old new s : List ℕ) (l : Line) (r : Result (Unit {0}) NoMemory) → l ≡ line.RefusedLength → s ≡ line_text line.RefusedLength → OnOk r (new ≡ old ++ s) → OnOk r (new ≡ old ++ line_text l)
length_ends old new s l (Ok x) e f k = k ∙ ap (λ (v : List ℕ). old ++ v) (f ∙ ap line_text (sym e))
length_ends old new s l (Err x) e f k = tt

number_spelled : (n : ℕ) → (codes "refused line " ++ decimal n) ++ newline ≡ line_text (line.RefusedLine n)
number_spelled n = grind (arith, common_steps)

pub number_ends : (old mid new a b : List ℕ) (m n : ℕ) (l : Line) (r : Result (Unit {0}) NoMemory) → l ≡ line.RefusedLine n → m ≡ n → a ≡ codes "refused line " → b ≡ newline
    → mid ≡ old ++ (a ++ decimal m) → OnOk r (new ≡ mid ++ b) → OnOk r (new ≡ old ++ line_text l)
number_ends old mid new a b m n l (Ok x) e em ea eb f k =
    k
    ∙ ap (λ (v : List ℕ). v ++ b) f
    ∙ append_assoc old (a ++ decimal m) b
    ∙ ap (λ (v : List ℕ). old ++ v)
    (ap (λ (v : List ℕ). (v ++ decimal m) ++ b) ea ∙ ap (λ (v : List ℕ). (codes "refused line " ++ decimal m) ++ v) eb ∙ ap (λ (v : ℕ). (codes "refused line " ++ decimal v) ++ newline) em ∙ number_spelled n ∙ ap line_text (sym e))
number_ends old mid new a b m n l (Err x) e em ea eb f k = tt

-- ---- a pause

paused_spelled : (p : Paused) → codes "paused " ++ (flow_word p.flow ++ (spaced (buffer_words p.buffer) ++ (codes " " ++ (decimal p.at ++ (codes " " ++ (until_word p.until ++ newline)))))) ≡ paused_line p
paused_spelled p = by p.buffer
  where
    by : (b : BufferId) → codes "paused " ++ (flow_word p.flow ++ (spaced (buffer_words b) ++ (codes " " ++ (decimal p.at ++ (codes " " ++ (until_word p.until ++ newline))))))
        ≡ report_line (codes "paused" ∷ flow_word p.flow ∷ buffer_words b ++ decimal p.at ∷ until_word p.until ∷ [])
    by (buffer.Recv f) = grind (arith, common_steps)
    by (buffer.Stage f i) = grind (arith, common_steps)
    by (buffer.Send f) = grind (arith, common_steps)
    by (buffer.Write c) = grind (arith, common_steps)

pub paused_ends : (p : Paused) (old new s a b c d e f g h : List ℕ) (r : Result (Unit {0}) NoMemory) → h ≡ newline → g ≡ until_word p.until ++ h → f ≡ codes " " ++ g → e ≡ decimal p.at ++ f → d ≡ codes " " ++ e
    → c ≡ spaced (buffer_words p.buffer) ++ d → b ≡ flow_word p.flow ++ c → a ≡ codes "paused " ++ b → s ≡ a → OnOk r (new ≡ old ++ s)
    → OnOk r (new ≡ old ++ paused_line p)
paused_ends p old new s a b c d e f g h (Ok x) eh eg ef ee ed ec eb ea es k =
    k ∙ ap (λ (v : List ℕ). old ++ v) (es ∙ ea ∙ ap (λ (v : List ℕ). codes "paused " ++ v) (eb ∙ ap (λ (v : List ℕ). flow_word p.flow ++ v) (ec ∙ ap (λ (v : List ℕ). spaced (buffer_words p.buffer) ++ v)
    (ed ∙ ap (λ (v : List ℕ). codes " " ++ v) (ee ∙ ap (λ (v : List ℕ). decimal p.at ++ v) (ef ∙ ap (λ (v : List ℕ). codes " " ++ v) (eg ∙ ap (λ (v : List ℕ). until_word p.until ++ v) eh))))))
    ∙ paused_spelled p)
paused_ends p old new s a b c d e f g h (Err x) eh eg ef ee ed ec eb ea es k = tt
