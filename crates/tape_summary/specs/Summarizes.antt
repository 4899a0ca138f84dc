-- What writing a summary does to a text.
use Rattle.flow_notes.specs.Flow.{flow_word}
use Rattle.tape_summary.specs.Logging.{TapeLogIs}
use Rattle.tape_summary.specs.Pausing.{told_pause}
use Rattle.tape_summary.specs.Peaking.{levels_of}
use Rattle.tape_summary.specs.declared.pauses.Pause.{Pause}
use Rattle.tape_summary.specs.declared.peaks.PeakLog.{PeakLog}
use Rattle.tape_summary.specs.declared.tape_log.TapeLog.{TapeLog}
use Rattle.std.specs.BTreeMap.{get}
use Rattle.std.specs.Fmt.{decimal}
use Rattle.std.specs.Ordering.{nat_cmp}
use Rattle.std.specs.Prelude.{List, [], codes, flat_map, ℕ, ◌++◌, ◌∷◌, ◌≡◌}
use Rattle.tape_laws.specs.Connections.{connections}
use Rattle.tape_laws.specs.Flows.{request}
use Rattle.tape_laws.specs.History.{History, NoMark}
use Rattle.tape_laws.specs.Plain.{plain_setup}
use Rattle.tape_laws.specs.Report.{paused_line, peak_line, summary_text}
use Rattle.tape_laws.specs.declared.PlainLimits.{PlainLimits}

-- the lines of the peaks, each where its buffer ever held an octet
abbrev pub flow_peak_lines : PeakLog → ℕ → List ℕ
flow_peak_lines log x =
    let levels = levels_of (get nat_cmp log.flows x) in
    peak_line (codes "recv" ∷ flow_word (request x) ∷ []) log.limits.recv levels.recv.most
    ++ peak_line (codes "send" ∷ flow_word (request x) ∷ []) log.limits.send levels.send.most

abbrev pub write_peak_line : PeakLog → List ℕ
write_peak_line log = peak_line (codes "write" ∷ decimal 0 ∷ []) log.limits.write log.write.most

abbrev pub peak_lines : PeakLog → List ℕ
peak_lines log = flat_map (flow_peak_lines log) log.started.items ++ write_peak_line log

-- the lines of some pauses
abbrev pub pause_lines : List Pause → List ℕ
pause_lines ps = flat_map (λ p. paused_line (told_pause p)) ps

-- the summary of the history, of one connection, stands behind the text
pub record Summarizes (log : TapeLog) (old new : List ℕ) : Type 0 where
  pub added : List ℕ
  pub is : new ≡ old ++ added
  pub goes : (limits : PlainLimits) (h : History NoMark) → TapeLogIs limits log h → connections (plain_setup limits) h ≡ 0 ∷ []
      → added ≡ summary_text (plain_setup limits) h
