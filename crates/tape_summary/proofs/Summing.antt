-- The summary's text, from what the log of the tape shows.
use Rattle.flow_notes.specs.Flow.{flow_word}
use Rattle.flow_notes.specs.Line.{newline, spaced}
use Rattle.flow_notes.specs.Buffer.{buffer_words}
use Rattle.flow_rules.specs.declared.ids.BufferId.{BufferId}
use Rattle.io_ports.specs.declared.octets.NoMemory.{NoMemory}
use Rattle.tape_summary.specs.Pausing.{LogIs, told_pause}
use Rattle.tape_summary.specs.Peaking.{PeaksAre, levels_of}
use Rattle.tape_summary.specs.Summarizes.{Summarizes, flow_peak_lines, pause_lines, peak_lines, write_peak_line}
use Rattle.tape_summary.specs.declared.level.Level.{Level}
use Rattle.tape_summary.specs.declared.pauses.Pause.{Pause}
use Rattle.tape_summary.specs.declared.pauses.PauseLog.{PauseLog}
use Rattle.tape_summary.specs.declared.peaks.FlowLevels.{FlowLevels}
use Rattle.tape_summary.specs.declared.peaks.PeakLog.{PeakLog}
use Rattle.tape_summary.specs.declared.tape_log.TapeLog.{TapeLog}
use Rattle.std.proofs.Common.{ap, append_assoc, arith, refl, sym, ◌∙◌}
use Rattle.std.proofs.lemmas.Grind.{common_steps}
use Rattle.std.proofs.lemmas.List.{append-nil}
use Rattle.std.specs.BTreeMap.{get}
use Rattle.std.specs.Fmt.{decimal}
use Rattle.std.specs.Ordering.{nat_cmp}
use Rattle.std.specs.Prelude.{Err, List, Ok, OnOk, Result, [], codes, flat_map, map, ℕ, ◌++◌, ◌∷◌, ◌≡◌}
use Rattle.tape_laws.specs.Connections.{connections}
use Rattle.tape_laws.specs.Dispatches.{started, turns}
use Rattle.tape_laws.specs.Flows.{request}
use Rattle.tape_laws.specs.History.{History, NoMark}
use Rattle.tape_laws.specs.Plain.{plain_setup}
use Rattle.tape_laws.specs.Report.{flow_peaks, paused_line, peak_line, report_line, until_word, write_peak}
use Rattle.tape_laws.specs.Summary.{Paused, all_flows, paused_lines, peak}
use Rattle.tape_laws.specs.declared.PlainLimits.{PlainLimits}
use Rattle.flow_rules.specs.declared.ids.BufferId.TheVariants as buffer

-- ---- pauses

pauses_told : (ps : List Pause) → pause_lines ps ≡ flat_map paused_line (map told_pause ps)
pauses_told [] = refl
pauses_told (p ∷ ps) = ap (λ (v : List ℕ). paused_line (told_pause p) ++ v) (pauses_told ps)

pauses_are : (log : PauseLog) (h : History NoMark) → LogIs log h → pause_lines log.pauses.items ≡ flat_map paused_line (paused_lines h)
pauses_are log h l = pauses_told log.pauses.items ∙ ap (flat_map paused_line) l.pauses

-- ---- peaks

-- the lines of a stream's buffers
stream_lines : (log : PeakLog) (limits : PlainLimits) (h : History NoMark) (x : ℕ) → PeaksAre limits log h → flow_peak_lines log x ≡ flow_peaks (plain_setup limits) h (request x)
stream_lines log limits h x p =
    ap (λ (m : PlainLimits). peak_line (codes "recv" ∷ flow_word (request x) ∷ []) m.recv (levels_of (get nat_cmp log.flows x)).recv.most ++ peak_line (codes "send" ∷ flow_word (request x) ∷ []) m.send (levels_of (get nat_cmp log.flows x)).send.most) p.limits_are
    ∙ ap (λ (l : FlowLevels). peak_line (codes "recv" ∷ flow_word (request x) ∷ []) limits.recv l.recv.most ++ peak_line (codes "send" ∷ flow_word (request x) ∷ []) limits.send l.send.most) (p.flows x)
    ∙ unstaged (peak_line (codes "recv" ∷ flow_word (request x) ∷ []) limits.recv (peak (plain_setup limits) (buffer.Recv (request x)) h)) (peak_line (codes "send" ∷ flow_word (request x) ∷ []) limits.send (peak (plain_setup limits) (buffer.Send (request x)) h))
  where
    unstaged : (a s : List ℕ) → a ++ s ≡ a ++ [] ++ s
    unstaged a s = grind (arith, common_steps)

-- those of all streams
streams_lines : (log : PeakLog) (limits : PlainLimits) (h : History NoMark) (xs : List ℕ) → PeaksAre limits log h
    → flat_map (flow_peak_lines log) xs ≡ flat_map (flow_peaks (plain_setup limits) h) (flat_map (λ x. request x ∷ []) xs)
streams_lines log limits h [] p = refl
streams_lines log limits h (x ∷ xs) p =
    ap (λ (v : List ℕ). v ++ flat_map (flow_peak_lines log) xs) (stream_lines log limits h x p)
    ∙ ap (λ (v : List ℕ). flow_peaks (plain_setup limits) h (request x) ++ v) (streams_lines log limits h xs p)

abbrev peaks_text : PlainLimits → History NoMark → List ℕ
peaks_text limits h =
    flat_map (flow_peaks (plain_setup limits) h) (all_flows (plain_setup limits) h) ++ flat_map (write_peak (plain_setup limits) h) (connections (plain_setup limits) h)

write_line : (log : PeakLog) (limits : PlainLimits) (h : History NoMark) → PeaksAre limits log h → connections (plain_setup limits) h ≡ 0 ∷ []
    → write_peak_line log ≡ flat_map (write_peak (plain_setup limits) h) (connections (plain_setup limits) h)
write_line log limits h p c =
    ap (λ (m : PlainLimits). peak_line (codes "write" ∷ decimal 0 ∷ []) m.write log.write.most) p.limits_are
    ∙ ap (λ (l : Level). peak_line (codes "write" ∷ decimal 0 ∷ []) limits.write l.most) p.write
    ∙ sym (append-nil (write_peak (plain_setup limits) h 0))
    ∙ ap (flat_map (write_peak (plain_setup limits) h)) (sym c)

peaks_are : (log : PeakLog) (limits : PlainLimits) (h : History NoMark) → PeaksAre limits log h → connections (plain_setup limits) h ≡ 0 ∷ [] → peak_lines log ≡ peaks_text limits h
peaks_are log limits h p c =
    ap (λ (xs : List ℕ). flat_map (flow_peak_lines log) xs ++ write_peak_line log) p.streams
    ∙ ap (λ (v : List ℕ). v ++ write_peak_line log) (streams_lines log limits h (started h) p)
    ∙ ap (λ (v : List ℕ). flat_map (flow_peaks (plain_setup limits) h) (all_flows (plain_setup limits) h) ++ v) (write_line log limits h p c)

-- ---- the whole

pub summarizes : (log : TapeLog) (n : ℕ) (old new : List ℕ) → n ≡ log.pauses.turn
    → new ≡ old ++ (peak_lines log.peaks ++ (pause_lines log.pauses.pauses.items ++ report_line (codes "done" ∷ decimal n ∷ [])))
    → Summarizes log old new
summarizes log n old new en e = record {
  added = peak_lines log.peaks ++ (pause_lines log.pauses.pauses.items ++ report_line (codes "done" ∷ decimal n ∷ []));
  is = e;
  goes = λ limits h l c.
      ap (λ (v : List ℕ). v ++ (pause_lines log.pauses.pauses.items ++ report_line (codes "done" ∷ decimal n ∷ []))) (peaks_are log.peaks limits h l.peaks c)
      ∙ ap (λ (v : List ℕ). peaks_text limits h ++ (v ++ report_line (codes "done" ∷ decimal n ∷ []))) (pauses_are log.pauses h l.pauses)
      ∙ ap (λ k. peaks_text limits h ++ (flat_map paused_line (paused_lines h) ++ report_line (codes "done" ∷ decimal k ∷ []))) (en ∙ l.pauses.turn)
      ∙ append_assoc (flat_map (flow_peaks (plain_setup limits) h) (all_flows (plain_setup limits) h)) (flat_map (write_peak (plain_setup limits) h) (connections (plain_setup limits) h)) (flat_map paused_line (paused_lines h) ++ report_line (codes "done" ∷ decimal (turns h) ∷ []));
}

-- ---- lines

pub paused_spelled : (p : Paused) → codes "paused " ++ (flow_word p.flow ++ (spaced (buffer_words p.buffer) ++ (codes " " ++ (decimal p.at ++ (codes " " ++ (until_word p.until ++ newline)))))) ≡ paused_line p
paused_spelled p = by p.buffer
  where
    by : (b : BufferId) → codes "paused " ++ (flow_word p.flow ++ (spaced (buffer_words b) ++ (codes " " ++ (decimal p.at ++ (codes " " ++ (until_word p.until ++ newline))))))
        ≡ report_line (codes "paused" ∷ flow_word p.flow ∷ buffer_words b ++ decimal p.at ∷ until_word p.until ∷ [])
    by (buffer.Recv f) = grind (arith, common_steps)
    by (buffer.Stage f i) = grind (arith, common_steps)
    by (buffer.Send f) = grind (arith, common_steps)
    by (buffer.Write c) = grind (arith, common_steps)

pub paused_ends : (p : Pause) (old new s a b c d e f g h : List ℕ) (r : Result (Unit {0}) NoMemory) → h ≡ newline → g ≡ until_word p.until ++ h → f ≡ codes " " ++ g → e ≡ decimal p.at ++ f → d ≡ codes " " ++ e
    → c ≡ spaced (buffer_words p.spot.buffer) ++ d → b ≡ flow_word p.spot.flow ++ c → a ≡ codes "paused " ++ b → s ≡ a → OnOk r (new ≡ old ++ s)
    → OnOk r (new ≡ old ++ paused_line (told_pause p))
paused_ends p old new s a b c d e f g h (Ok x) eh eg ef ee ed ec eb ea es k =
    k ∙ ap (λ (v : List ℕ). old ++ v) (es ∙ ea ∙ ap (λ (v : List ℕ). codes "paused " ++ v) (eb ∙ ap (λ (v : List ℕ). flow_word p.spot.flow ++ v) (ec ∙ ap (λ (v : List ℕ). spaced (buffer_words p.spot.buffer) ++ v)
    (ed ∙ ap (λ (v : List ℕ). codes " " ++ v) (ee ∙ ap (λ (v : List ℕ). decimal p.at ++ v) (ef ∙ ap (λ (v : List ℕ). codes " " ++ v) (eg ∙ ap (λ (v : List ℕ). until_word p.until ++ v) eh))))))
    ∙ paused_spelled (told_pause p))
paused_ends p old new s a b c d e f g h (Err x) eh eg ef ee ed ec eb ea es k = tt

pub summary_ends : (log : TapeLog) (n : ℕ) (old t0 t1 t2 t3 : List ℕ) → n ≡ log.pauses.turn
    → t0 ≡ old → t1 ≡ t0 ++ peak_lines log.peaks → t2 ≡ t1 ++ pause_lines log.pauses.pauses.items → t3 ≡ t2 ++ report_line (codes "done" ∷ decimal n ∷ [])
    → Summarizes log old t3
summary_ends log n old t0 t1 t2 t3 tn e0 e1 e2 e3 =
    summarizes log n old t3 tn
    (e3 ∙ ap (λ (v : List ℕ). v ++ report_line (codes "done" ∷ decimal n ∷ [])) (e2 ∙ ap (λ (v : List ℕ). v ++ pause_lines log.pauses.pauses.items) (e1 ∙ ap (λ (v : List ℕ). v ++ peak_lines log.peaks) e0))
    ∙ append_assoc (old ++ peak_lines log.peaks) (pause_lines log.pauses.pauses.items) (report_line (codes "done" ∷ decimal n ∷ []))
    ∙ append_assoc old (peak_lines log.peaks) (pause_lines log.pauses.pauses.items ++ report_line (codes "done" ∷ decimal n ∷ [])))
