-- The summary's text, from what the log of a relay's tape shows.
use Rattle.relay_laws.specs.Pairs.{Tape}
use Rattle.relay_laws.specs.Report.{connections, write_peak}
use Rattle.relay_run.specs.Logs.{RelayLogIs}
use Rattle.relay_run.specs.Summaries.{Summarizes, logged_peak, logged_peaks}
use Rattle.relay_run.specs.Writes.{WritesAre, kept_level}
use Rattle.relay_run.specs.declared.relay_log.RelayLog.{RelayLog}
use Rattle.relay_run.specs.declared.write_log.WriteLog.{WriteLog}
use Rattle.std.proofs.Common.{ap, append_assoc, refl, ◌∙◌}
use Rattle.std.specs.BTreeMap.{get}
use Rattle.std.specs.Fmt.{decimal}
use Rattle.std.specs.Ordering.{nat_cmp}
use Rattle.std.specs.Prelude.{List, [], codes, flat_map, map, ℕ, ◌++◌, ◌∷◌, ◌≡◌}
use Rattle.tape_laws.specs.Dispatches.{turns}
use Rattle.tape_laws.specs.Report.{paused_line, peak_line, report_line}
use Rattle.tape_laws.specs.Summary.{paused_lines}
use Rattle.tape_summary.specs.Pausing.{LogIs, told_pause}
use Rattle.tape_summary.specs.Summarizes.{pause_lines}
use Rattle.tape_summary.specs.declared.level.Level.{Level}
use Rattle.tape_summary.specs.declared.pauses.Pause.{Pause}
use Rattle.tape_summary.specs.declared.pauses.PauseLog.{PauseLog}

-- ---- pauses
pauses_told : (ps : List Pause) → pause_lines ps ≡ flat_map paused_line (map told_pause ps)
pauses_told [] = refl
pauses_told (p ∷ ps) = ap (λ (v : List ℕ). paused_line (told_pause p) ++ v) (pauses_told ps)

pauses_are : (log : PauseLog) (h : Tape) → LogIs log h → pause_lines log.pauses.items ≡ flat_map paused_line (paused_lines h)
pauses_are log h l = pauses_told log.pauses.items ∙ ap (flat_map paused_line) l.pauses

-- ---- peaks
module _ (log : WriteLog) (limit : ℕ) (h : Tape) (w : WritesAre limit log h) where
  peak_is : (c : ℕ) → logged_peak log c ≡ write_peak limit h c
  peak_is c =
      ap (λ n. peak_line (codes "write" ∷ decimal c ∷ []) n (kept_level (get nat_cmp log.levels c)).most) w.limit_is
      ∙ ap (λ (l : Level). peak_line (codes "write" ∷ decimal c ∷ []) limit l.most) (w.levels_are c)

  peaks_of : (cs : List ℕ) → flat_map (logged_peak log) cs ≡ flat_map (write_peak limit h) cs
  peaks_of [] = refl
  peaks_of (c ∷ cs) =
      ap (λ (v : List ℕ). v ++ flat_map (logged_peak log) cs) (peak_is c)
      ∙ ap (λ (v : List ℕ). write_peak limit h c ++ v) (peaks_of cs)

  peaks_are : logged_peaks log ≡ flat_map (write_peak limit h) (connections h)
  peaks_are = ap (flat_map (logged_peak log)) w.conns_are ∙ peaks_of (connections h)

-- ---- the whole
summarizes : (log : RelayLog) (n : ℕ) (old new : List ℕ) → n ≡ log.pauses.turn
    → new ≡ old ++ (logged_peaks log.writes ++ (pause_lines log.pauses.pauses.items ++ report_line (codes "done" ∷ decimal n ∷ [])))
    → Summarizes log old new
summarizes log n old new en e = record {
  added = logged_peaks log.writes ++ (pause_lines log.pauses.pauses.items ++ report_line (codes "done" ∷ decimal n ∷ []));
  is = e;
  sums = record {
    goes = λ limit h l.
        ap (λ (v : List ℕ). v ++ (pause_lines log.pauses.pauses.items ++ report_line (codes "done" ∷ decimal n ∷ []))) (peaks_are log.writes limit h l.writes)
        ∙ ap (λ (v : List ℕ). flat_map (write_peak limit h) (connections h) ++ (v ++ report_line (codes "done" ∷ decimal n ∷ []))) (pauses_are log.pauses h l.pauses)
        ∙ ap (λ k. flat_map (write_peak limit h) (connections h) ++ (flat_map paused_line (paused_lines h) ++ report_line (codes "done" ∷ decimal k ∷ []))) (en ∙ l.pauses.turn);
  };
}

pub summary_ends : (log : RelayLog) (n : ℕ) (old t0 t1 t2 t3 : List ℕ) → n ≡ log.pauses.turn
    → t0 ≡ old → t1 ≡ t0 ++ logged_peaks log.writes → t2 ≡ t1 ++ pause_lines log.pauses.pauses.items → t3 ≡ t2 ++ report_line (codes "done" ∷ decimal n ∷ [])
    → Summarizes log old t3
summary_ends log n old t0 t1 t2 t3 tn e0 e1 e2 e3 =
    summarizes log n old t3 tn
    (e3 ∙ ap (λ (v : List ℕ). v ++ report_line (codes "done" ∷ decimal n ∷ [])) (e2 ∙ ap (λ (v : List ℕ). v ++ pause_lines log.pauses.pauses.items) (e1 ∙ ap (λ (v : List ℕ). v ++ logged_peaks log.writes) e0))
    ∙ append_assoc (old ++ logged_peaks log.writes) (pause_lines log.pauses.pauses.items) (report_line (codes "done" ∷ decimal n ∷ []))
    ∙ append_assoc old (logged_peaks log.writes) (pause_lines log.pauses.pauses.items ++ report_line (codes "done" ∷ decimal n ∷ [])))
