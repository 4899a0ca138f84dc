-- The summary's text, from what the log of the tape shows.
use Rattle.flow_rules.specs.declared.ids.FlowId.{FlowId}
use Rattle.flow_notes.specs.Flow.{flow_word}
use Rattle.std.proofs.Common.{ap, append_assoc, arith, refl, subst, sym, ◌∙◌}
use Rattle.std.proofs.lemmas.Grind.{common_steps}
use Rattle.std.proofs.lemmas.List.{append-nil, length-map}
use Rattle.std.specs.BTreeMap.{get}
use Rattle.std.specs.Fmt.{decimal}
use Rattle.std.specs.Option.{option_map}
use Rattle.std.specs.Ordering.{nat_cmp}
use Rattle.std.specs.Prelude.{List, None, Option, Some, [], codes, flat_map, length, map, max, ℕ, ◌++◌, ◌+◌, ◌<◌, ◌∷◌, ◌≡◌, ◌≤◌}
use Rattle.tape_laws.specs.Connections.{connections}
use Rattle.tape_laws.specs.Dispatches.{started, turns}
use Rattle.tape_laws.specs.Flows.{request, response}
use Rattle.tape_laws.specs.History.{History, NoMark}
use Rattle.tape_laws.specs.Report.{flow_peaks, paused_line, peak_line, report_line, stage_peaks, write_peak}
use Rattle.tape_laws.specs.Summary.{all_flows, paused_lines, peak}
use Rattle.tape_laws.specs.Units.{StageKind}
use Rattle.tape_laws.specs.Watermark.{kind_limit}
use Rattle.tape_laws.specs.World.{place}
use Rattle.tape_summary.specs.Levels.{no_level}
use Rattle.tape_summary.specs.Pausing.{LogIs, told_pause}
use Rattle.tape_summary.specs.Summarizes.{pause_lines}
use Rattle.tape_summary.specs.declared.level.Level.{Level}
use Rattle.tape_summary.specs.declared.pauses.Pause.{Pause}
use Rattle.tape_summary.specs.declared.pauses.PauseLog.{PauseLog}
use Rattle.wire_summary.proofs.Siding.{most_from}
use Rattle.wire_summary.specs.Levels.{Agrees, ExchangeIs, IsUnnoted, LevelsUnder, SideIs, SidesAre, peak_place, place_level, shaped, write_in}
use Rattle.wire_summary.specs.Logging.{WireLogIs}
use Rattle.wire_summary.specs.Places.{Side, Sides, most_at, side_of, sides_of}
use Rattle.wire_summary.specs.Summarizes.{Summarizes, exchange_lines, side_lines, sides_lines, stage_lines, write_line}
use Rattle.wire_summary.specs.declared.levels.BufferLimits.{BufferLimits}
use Rattle.wire_summary.specs.declared.levels.ExchangePlaces.{ExchangePlaces}
use Rattle.wire_summary.specs.declared.levels.Levels.{Levels}
use Rattle.wire_summary.specs.declared.levels.WriteLevel.{WriteLevel}
use Rattle.wire_summary.specs.declared.log.WireLog.{WireLog}
use Rattle.flow_rules.specs.declared.ids.BufferId.TheVariants as buffer

module _ (limits : BufferLimits) (stages : FlowId → List StageKind) where
  -- ---- a buffer's peak is that of its place

  recv_peak : (f : FlowId) (h : History NoMark) → peak (shaped limits stages) (buffer.Recv f) h ≡ peak_place (shaped limits stages) f 0 h
  recv_peak f [] = refl
  recv_peak f (step ∷ past) = ap (λ n. max (length (place (shaped limits stages) f 0 (step ∷ past))) n) (recv_peak f past)

  stage_peak : (f : FlowId) (i : ℕ) (h : History NoMark) → peak (shaped limits stages) (buffer.Stage f i) h ≡ peak_place (shaped limits stages) f i h
  stage_peak f i [] = refl
  stage_peak f i (step ∷ past) = ap (λ n. max (length (place (shaped limits stages) f i (step ∷ past))) n) (stage_peak f i past)

  send_peak : (f : FlowId) (h : History NoMark) → peak (shaped limits stages) (buffer.Send f) h ≡ peak_place (shaped limits stages) f (length (stages f) + 1) h
  send_peak f [] = refl
  send_peak f (step ∷ past) = ap (λ n. max (length (place (shaped limits stages) f (length (stages f) + 1) (step ∷ past))) n) (send_peak f past)

  -- ---- the lines of a flow

  most_is : (f : FlowId) (h : History NoMark) (side : Side) (p : ℕ) → SideIs limits stages f h side → p < length (stages f) + 2 → most_at p side.levels ≡ peak_place (shaped limits stages) f p h
  most_is f h side p k lt =
      let long = k.long in
      most_from (place_level (shaped limits stages) f h) 0 p p side.levels (omega arith) (omega (arith, long, lt)) k.levels_are

  stages_lines : (f : FlowId) (h : History NoMark) (levels : List Level) (i : ℕ) (ss : List StageKind) → ((p : ℕ) → i ≤ p → p < i + length ss → most_at p levels ≡ peak_place (shaped limits stages) f p h)
      → stage_lines f levels i (map kind_limit ss) ≡ stage_peaks (shaped limits stages) f i ss h
  stages_lines f h levels i [] is = refl
  stages_lines f h levels i (s ∷ ss) is =
      ap (λ n. peak_line (codes "stage" ∷ flow_word f ∷ decimal i ∷ []) (kind_limit s) n ++ stage_lines f levels (i + 1) (map kind_limit ss)) (is i (omega arith) (omega arith) ∙ sym (stage_peak f i h))
      ∙ ap (λ (v : List ℕ). peak_line (codes "stage" ∷ flow_word f ∷ decimal i ∷ []) (kind_limit s) (peak (shaped limits stages) (buffer.Stage f i) h) ++ v)
      (stages_lines f h levels (i + 1) ss (λ p le lt. is p (omega (arith, le)) (omega (arith, lt))))

  side_is : (f : FlowId) (h : History NoMark) (side : Side) → SideIs limits stages f h side → side_lines limits f side ≡ flow_peaks (shaped limits stages) h f
  side_is f h side k =
      (ap (λ n. peak_line (codes "recv" ∷ flow_word f ∷ []) limits.recv n ++ (stage_lines f side.levels 1 side.limits ++ peak_line (codes "send" ∷ flow_word f ∷ []) limits.send (most_at (length side.limits + 1) side.levels)))
      (most_is f h side 0 k (omega arith) ∙ sym (recv_peak f h))
      ∙ ap (λ (v : List ℕ). first ++ (v ++ peak_line (codes "send" ∷ flow_word f ∷ []) limits.send (most_at (length side.limits + 1) side.levels)))
      (ap (stage_lines f side.levels 1) k.limits_are ∙ stages_lines f h side.levels 1 (stages f) (λ p le lt. most_is f h side p k (omega (arith, lt))))
      ∙ ap (λ n. first ++ (stage_peaks (shaped limits stages) f 1 (stages f) h ++ peak_line (codes "send" ∷ flow_word f ∷ []) limits.send n))
      (ap (λ n. most_at (n + 1) side.levels) (ap length k.limits_are ∙ length-map (stages f) kind_limit) ∙ most_is f h side (length (stages f) + 1) k (omega arith) ∙ sym (send_peak f h)))
      ∙ sym (append_assoc first (stage_peaks (shaped limits stages) f 1 (stages f) h) (peak_line (codes "send" ∷ flow_word f ∷ []) limits.send (peak (shaped limits stages) (buffer.Send f) h)))
    where
      first : List ℕ
      first = peak_line (codes "recv" ∷ flow_word f ∷ []) limits.recv (peak (shaped limits stages) (buffer.Recv f) h)

  -- a flow for which nothing came has no lines
  no_stages : (f : FlowId) (h : History NoMark) (i : ℕ) (ss : List StageKind) → ((p : ℕ) → peak_place (shaped limits stages) f p h ≡ 0) → stage_peaks (shaped limits stages) f i ss h ≡ []
  no_stages f h i [] none = refl
  no_stages f h i (s ∷ ss) none =
      ap (λ n. peak_line (codes "stage" ∷ flow_word f ∷ decimal i ∷ []) (kind_limit s) n ++ stage_peaks (shaped limits stages) f (i + 1) ss h) (stage_peak f i h ∙ none i) ∙ no_stages f h (i + 1) ss none

  no_lines : (f : FlowId) (h : History NoMark) → ((p : ℕ) → place_level (shaped limits stages) f h p ≡ no_level) → flow_peaks (shaped limits stages) h f ≡ []
  no_lines f h none =
      append_assoc (peak_line (codes "recv" ∷ flow_word f ∷ []) limits.recv (peak (shaped limits stages) (buffer.Recv f) h)) (stage_peaks (shaped limits stages) f 1 (stages f) h) (peak_line (codes "send" ∷ flow_word f ∷ []) limits.send (peak (shaped limits stages) (buffer.Send f) h))
      ∙ ap (λ n. peak_line (codes "recv" ∷ flow_word f ∷ []) limits.recv n ++ (stage_peaks (shaped limits stages) f 1 (stages f) h ++ peak_line (codes "send" ∷ flow_word f ∷ []) limits.send (peak (shaped limits stages) (buffer.Send f) h))) (recv_peak f h ∙ zero 0)
      ∙ ap (λ (v : List ℕ). v ++ peak_line (codes "send" ∷ flow_word f ∷ []) limits.send (peak (shaped limits stages) (buffer.Send f) h)) (no_stages f h 1 (stages f) zero)
      ∙ ap (λ n. peak_line (codes "send" ∷ flow_word f ∷ []) limits.send n) (send_peak f h ∙ zero (length (stages f) + 1))
    where
      zero : (p : ℕ) → peak_place (shaped limits stages) f p h ≡ 0
      zero p = ap (λ l. l.most) (none p)

  -- ---- those of the exchanges and of the connections

  exchange_is : (h : History NoMark) (x : ℕ) (o : Option ExchangePlaces) → ExchangeIs limits stages x h o
      → sides_lines limits x (option_map sides_of o) ≡ flow_peaks (shaped limits stages) h (request x) ++ flow_peaks (shaped limits stages) h (response x)
  exchange_is h x None k = sym (ap (λ (v : List ℕ). v ++ flow_peaks (shaped limits stages) h (response x)) (no_lines (request x) h k.request_none) ∙ no_lines (response x) h k.response_none)
  exchange_is h x (Some e) k =
      ap (λ (v : List ℕ). v ++ side_lines limits (response x) (side_of e.response)) (side_is (request x) h (side_of e.request) k.request_is)
      ∙ ap (λ (v : List ℕ). flow_peaks (shaped limits stages) h (request x) ++ v) (side_is (response x) h (side_of e.response) k.response_is)

  exchanges_lines : (levels : Levels) (h : History NoMark) (xs : List ℕ) → levels.limits ≡ limits → LevelsUnder limits stages levels h
      → flat_map (exchange_lines levels) xs ≡ flat_map (flow_peaks (shaped limits stages) h) (flat_map (λ x. request x ∷ response x ∷ []) xs)
  exchanges_lines levels h [] el u = refl
  exchanges_lines levels h (x ∷ xs) el u =
      ap (λ (v : List ℕ). v ++ flat_map (exchange_lines levels) xs)
      (ap (λ (l : BufferLimits). sides_lines l x (option_map sides_of (get nat_cmp levels.exchanges x))) el ∙ exchange_is h x (get nat_cmp levels.exchanges x) (u.exchanges_are x))
      ∙ ap (λ (v : List ℕ). (flow_peaks (shaped limits stages) h (request x) ++ flow_peaks (shaped limits stages) h (response x)) ++ v) (exchanges_lines levels h xs el u)
      ∙ append_assoc (flow_peaks (shaped limits stages) h (request x)) (flow_peaks (shaped limits stages) h (response x)) (flat_map (flow_peaks (shaped limits stages) h) (flat_map (λ x. request x ∷ response x ∷ []) xs))

  writes_lines : (levels : Levels) (h : History NoMark) (cs : List ℕ) → levels.limits ≡ limits → LevelsUnder limits stages levels h → flat_map (write_line levels) cs ≡ flat_map (write_peak (shaped limits stages) h) cs
  writes_lines levels h [] el u = refl
  writes_lines levels h (c ∷ cs) el u =
      ap (λ (v : List ℕ). v ++ flat_map (write_line levels) cs)
      (ap (λ (l : BufferLimits). peak_line (codes "write" ∷ decimal c ∷ []) l.write (write_in levels c).level.most) el
      ∙ ap (λ (w : WriteLevel). peak_line (codes "write" ∷ decimal c ∷ []) limits.write w.level.most) (u.writes_are c))
      ∙ ap (λ (v : List ℕ). write_peak (shaped limits stages) h c ++ v) (writes_lines levels h cs el u)

-- ---- pauses

pauses_told : (ps : List Pause) → pause_lines ps ≡ flat_map paused_line (map told_pause ps)
pauses_told [] = refl
pauses_told (p ∷ ps) = ap (λ (v : List ℕ). paused_line (told_pause p) ++ v) (pauses_told ps)

pauses_are : (log : PauseLog) (h : History NoMark) → LogIs log h → pause_lines log.pauses.items ≡ flat_map paused_line (paused_lines h)
pauses_are log h l = pauses_told log.pauses.items ∙ ap (flat_map paused_line) l.pauses

-- ---- the whole

abbrev log_text : WireLog → ℕ → List ℕ
log_text log n =
    flat_map (exchange_lines log.levels) log.levels.started.items
    ++ (flat_map (write_line log.levels) log.levels.conns.items
    ++ (pause_lines log.pauses.pauses.items
    ++ report_line (codes "done" ∷ decimal n ∷ [])))

summarizes : (log : WireLog) (n : ℕ) (old new : List ℕ) → n ≡ log.pauses.turn → new ≡ old ++ log_text log n → Summarizes log old new
summarizes log n old new en e = record {
  added = log_text log n;
  is = e;
  goes = λ limits stages h l a.
      let u = l.levels.goes stages a in
      let peaks = flat_map (flow_peaks (shaped limits stages) h) (all_flows (shaped limits stages) h) in
      let writes = flat_map (write_peak (shaped limits stages) h) (connections (shaped limits stages) h) in
      ap (λ (v : List ℕ). v ++ (flat_map (write_line log.levels) log.levels.conns.items ++ (pause_lines log.pauses.pauses.items ++ report_line (codes "done" ∷ decimal n ∷ []))))
      (ap (flat_map (exchange_lines log.levels)) u.started_are ∙ exchanges_lines limits stages log.levels h (started h) l.levels.limits_are u)
      ∙ ap (λ (v : List ℕ). peaks ++ (v ++ (pause_lines log.pauses.pauses.items ++ report_line (codes "done" ∷ decimal n ∷ []))))
      (ap (flat_map (write_line log.levels)) u.conns_are ∙ writes_lines limits stages log.levels h (connections (shaped limits stages) h) l.levels.limits_are u)
      ∙ ap (λ (v : List ℕ). peaks ++ (writes ++ (v ++ report_line (codes "done" ∷ decimal n ∷ [])))) (pauses_are log.pauses h l.pauses)
      ∙ ap (λ k. peaks ++ (writes ++ (flat_map paused_line (paused_lines h) ++ report_line (codes "done" ∷ decimal k ∷ [])))) (en ∙ l.pauses.turn);
}

pub summary_ends : (log : WireLog) (n : ℕ) (old t0 t1 t2 t3 t4 : List ℕ) → n ≡ log.pauses.turn
    → t0 ≡ old → t1 ≡ t0 ++ flat_map (exchange_lines log.levels) log.levels.started.items → t2 ≡ t1 ++ flat_map (write_line log.levels) log.levels.conns.items
    → t3 ≡ t2 ++ pause_lines log.pauses.pauses.items → t4 ≡ t3 ++ report_line (codes "done" ∷ decimal n ∷ []) → Summarizes log old t4
summary_ends log n old t0 t1 t2 t3 t4 tn e0 e1 e2 e3 e4 =
    summarizes log n old t4 tn
    (e4 ∙ ap (λ (v : List ℕ). v ++ d) (e3 ∙ ap (λ (v : List ℕ). v ++ c) (e2 ∙ ap (λ (v : List ℕ). v ++ b) (e1 ∙ ap (λ (v : List ℕ). v ++ a) e0)))
    ∙ append_assoc ((old ++ a) ++ b) c d ∙ append_assoc (old ++ a) b (c ++ d) ∙ append_assoc old a (b ++ (c ++ d)))
  where
    a : List ℕ
    a = flat_map (exchange_lines log.levels) log.levels.started.items

    b : List ℕ
    b = flat_map (write_line log.levels) log.levels.conns.items

    c : List ℕ
    c = pause_lines log.pauses.pauses.items

    d : List ℕ
    d = report_line (codes "done" ∷ decimal n ∷ [])
