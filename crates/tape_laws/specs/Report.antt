-- The text of a summary: peaks of the buffers that ever held an octet, pauses with their resumes, and the dispatches.
use Rattle.flow_rules.specs.declared.ids.FlowId.{FlowId}
use Rattle.flow_notes.specs.Buffer.{buffer_words}
use Rattle.flow_notes.specs.Flow.{flow_word}
use Rattle.flow_notes.specs.Line.{line_of, newline}
use Rattle.std.specs.Fmt.{decimal}
use Rattle.std.specs.Prelude.{List, None, Option, Some, [], codes, flat_map, if◌then◌else◌, ℕ, ◌++◌, ◌+◌, ◌==◌, ◌∷◌}
use Rattle.tape_laws.specs.Connections.{connections}
use Rattle.tape_laws.specs.Dispatches.{turns}
use Rattle.tape_laws.specs.History.{History}
use Rattle.tape_laws.specs.Setup.{Setup}
use Rattle.tape_laws.specs.Summary.{Paused, all_flows, paused_lines, peak}
use Rattle.tape_laws.specs.Units.{StageKind}
use Rattle.tape_laws.specs.Watermark.{kind_limit, limit}
use Rattle.flow_rules.specs.declared.ids.BufferId.TheVariants as buffer

-- a line of these words
abbrev pub report_line : List (List ℕ) → List ℕ
report_line words = line_of words ++ newline

-- a buffer's peak with its limit, where it ever held an octet
abbrev pub peak_line : List (List ℕ) → ℕ → ℕ → List ℕ
peak_line buffer limit n = if n == 0 then [] else report_line (codes "peak" ∷ buffer ++ decimal limit ∷ decimal n ∷ [])

-- the stages of a flow from place i on
abbrev pub stage_peaks : {Mark : Type 0} → Setup Mark → FlowId → ℕ → List StageKind → History Mark → List ℕ
stage_peaks setup f i [] history = []
stage_peaks setup f i (s ∷ ss) history =
    peak_line (codes "stage" ∷ flow_word f ∷ decimal i ∷ []) (kind_limit s) (peak setup (buffer.Stage f i) history)
    ++ stage_peaks setup f (i + 1) ss history

-- a flow's buffers in the order of their places; the limit of a receive buffer is its window
abbrev pub flow_peaks : {Mark : Type 0} → Setup Mark → History Mark → FlowId → List ℕ
flow_peaks setup history f =
    peak_line (codes "recv" ∷ flow_word f ∷ []) setup.recv (peak setup (buffer.Recv f) history)
    ++ stage_peaks setup f 1 (setup.stages f history) history
    ++ peak_line (codes "send" ∷ flow_word f ∷ []) setup.send (peak setup (buffer.Send f) history)

abbrev pub write_peak : {Mark : Type 0} → Setup Mark → History Mark → ℕ → List ℕ
write_peak setup history c = peak_line (codes "write" ∷ decimal c ∷ []) setup.write (peak setup (buffer.Write c) history)

-- the dispatch of a resume, or a dash where there is none
abbrev pub until_word : Option ℕ → List ℕ
until_word None = codes "-"
until_word (Some k) = decimal k

abbrev pub paused_line : Paused → List ℕ
paused_line p = report_line (codes "paused" ∷ flow_word p.flow ∷ buffer_words p.buffer ++ decimal p.at ∷ until_word p.until ∷ [])

-- flows by exchange, then connections by number, then pauses in the order of their notes
abbrev pub summary_text : {Mark : Type 0} → Setup Mark → History Mark → List ℕ
summary_text setup history =
    flat_map (flow_peaks setup history) (all_flows setup history)
    ++ (flat_map (write_peak setup history) (connections setup history)
    ++ (flat_map paused_line (paused_lines history)
    ++ report_line (codes "done" ∷ decimal (turns history) ∷ [])))
