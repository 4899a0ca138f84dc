-- The lines of a summary, with their newlines.
use Rattle.flow_rules.specs.declared.ids.BufferId.{BufferId}
use Rattle.flow_notes.specs.Flow.{flow_word}
use Rattle.std.specs.Fmt.{decimal}
use Rattle.std.specs.Prelude.{List, [], codes, ℕ, ◌∷◌}
use Rattle.tape_laws.specs.Report.{paused_line, peak_line, report_line}
use Rattle.tape_plot.specs.declared.report.Line.{Line}
use Rattle.flow_rules.specs.declared.ids.BufferId.TheVariants as buffer
use Rattle.tape_plot.specs.declared.report.Line.TheVariants as line

-- the words of a buffer in the line of its peak
abbrev pub peak_words : BufferId → List (List ℕ)
peak_words (buffer.Recv f) = codes "recv" ∷ flow_word f ∷ []
peak_words (buffer.Stage f i) = codes "stage" ∷ flow_word f ∷ decimal i ∷ []
peak_words (buffer.Send f) = codes "send" ∷ flow_word f ∷ []
peak_words (buffer.Write c) = codes "write" ∷ decimal c ∷ []

abbrev pub line_text : Line → List ℕ
line_text (line.Peak b limit most) = peak_line (peak_words b) limit most
line_text (line.Paused f b at until) = paused_line (record { flow = f; buffer = b; at = at; until = until })
line_text (line.Done turns) = report_line (codes "done" ∷ decimal turns ∷ [])
line_text (line.RefusedLine number) = report_line (codes "refused" ∷ codes "line" ∷ decimal number ∷ [])
line_text line.RefusedLength = report_line (codes "refused" ∷ codes "length" ∷ codes "session" ∷ [])
