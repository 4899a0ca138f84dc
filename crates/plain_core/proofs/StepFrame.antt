-- The steps of rounds and drains: the frame that goes next goes, or there is none.
use Rattle.flow_gate.specs.Board.{watchers_of}
use Rattle.flow_rules.specs.declared.ids.FlowId.{FlowId}
use Rattle.flow_rules.specs.Pausing.{CanPause}
use Rattle.flow_notes.specs.declared.notes.Note.{Note}
use Rattle.plain_laws.proofs.Changes.{frame_keeps_lists, frame_paired}
use Rattle.plain_laws.proofs.Steps.{frame_step}
use Rattle.plain_laws.specs.StepNotes.{drain_notes, frame_notes, rise_notes}
use Rattle.std.proofs.Common.{ap, arith, refl, subst, sym, ◌∙◌}
use Rattle.std.proofs.lemmas.List.{append-nil}
use Rattle.std.proofs.lemmas.List.Sums.{sum_by-cons}
use Rattle.std.specs.List.{AllByRecursion, sum_by}
use Rattle.std.specs.Prelude.{Bool, Err, List, None, Ok, OnOk, Option, Some, [], drop, false, if◌then◌else◌, map, true, ℕ, ◌++◌, ◌+◌, ◌<◌, ◌∷◌, ◌≡◌, ◌≤◌}
use Rattle.plain_laws.specs.Words.{Past, past_frame}
use Rattle.tape_laws.specs.Dispatches.{live}
use Rattle.tape_laws.specs.Flows.{request}
use Rattle.tape_laws.specs.History.{onto}
use Rattle.tape_laws.specs.declared.PlainLimits.{PlainLimits}
use Rattle.plain_core.proofs.Agendas.{grounds_push_drain, holds_push, runs_push, top_is, weight_frame, weight_top}
use Rattle.plain_core.proofs.Fronts.{NoTurn, Stepped, all_both, appends_both, cuts_front, cuts_result, front_more, keeps_of, keeps_result, spelled_both}
use Rattle.plain_core.proofs.Keeping.{cuts_more, flows_are, good_of, keeps_then, only_moves, silent_rise, spelled_rise}
use Rattle.plain_core.proofs.UnderwayMoves.{rounded_next, underway_end_drain, underway_end_round, underway_frame, underway_same, unswept_rounded}
use Rattle.plain_core.specs.Agenda.{Agenda, after_frame}
use Rattle.plain_core.specs.Carries.{Frames, FramesAt, IsNextFrame, NextIs, NoNext}
use Rattle.plain_core.specs.Measure.{left_in, of_frame, to_go, weight}
use Rattle.plain_core.specs.Noting.{AppendsNotes, AppendsSome, low_of, pauses_of, rise_of}
use Rattle.plain_core.specs.Progress.{Underway}
use Rattle.plain_core.specs.Runs.{AreSpelled, Cuts, IsGood, Keeps}
use Rattle.plain_core.specs.Stands.{Good}
use Rattle.plain_core.specs.declared.agenda.Task.{Task}
use Rattle.plain_core.specs.declared.flows.Flows.{Flows}
use Rattle.plain_core.specs.declared.flows.Framed.{Framed}
use Rattle.plain_core.specs.declared.flows.NextFrame.{NextFrame}
use Rattle.plain_core.specs.declared.plain.PlainCore.{PlainCore}
use Rattle.flow_rules.specs.declared.ids.BufferId.TheVariants as buffer
use Rattle.flow_notes.specs.declared.notes.Note.TheVariants as note
use Rattle.plain_core.specs.declared.agenda.Task.TheVariants as task
use Rattle.plain_core.specs.Words.{HasFlows, OnTop, Written}

-- ---- the notes of a frame
-- the frame and the pauses of a rise
abbrev pub noted_rise : NextFrame → Framed → Flows → List Note
noted_rise next framed flows = note.Frame 0 (request next.exchange) next.n next.last ∷ rise_of framed.rose (buffer.Write 0) (watchers_of flows.gates (buffer.Write 0))

-- and the resume of its own low
abbrev pub noted_frame : NextFrame → Framed → Flows → List Note
noted_frame next framed flows = noted_rise next framed flows ++ low_of framed.drained (request next.exchange)

silent_low : (b : Bool) (f : FlowId) → AllByRecursion NoTurn (low_of b f)
silent_low true f = (record { events = λ h. refl }, tt)
silent_low false f = tt

spelled_low : (b : Bool) (f : FlowId) → AreSpelled (low_of b f)
spelled_low true f = (refl, tt)
spelled_low false f = tt

can_all : (fs : List FlowId) → AllByRecursion (λ f. CanPause f (buffer.Write 0)) fs
can_all [] = tt
can_all (f ∷ fs) = (tt, can_all fs)

pauses_each : (xs : List ℕ) → pauses_of (buffer.Write 0) (map request xs) ≡ map (λ y. note.Pause (request y) (buffer.Write 0)) xs
pauses_each [] = refl
pauses_each (x ∷ xs) = cc (pauses_each xs)

module _ (limits : PlainLimits) (next : NextFrame) (framed : Framed) (flows : Flows) (h : Past) where
  rise_is : FramesAt next framed limits flows h
      → rise_of framed.rose (buffer.Write 0) (watchers_of flows.gates (buffer.Write 0)) ≡ rise_notes limits next.exchange next.n next.last h
  rise_is s =
      cc ((frame_keeps_lists limits next.exchange next.n next.last h).lives, pauses_each (live h))

  low_is : FramesAt next framed limits flows h
      → low_of framed.drained (request next.exchange) ≡ drain_notes limits next.exchange next.n next.last h
  low_is s = cc

  frame_noted : FramesAt next framed limits flows h
      → noted_frame next framed flows ≡ frame_notes limits next.exchange next.n next.last h
  frame_noted s =
      let first = note.Frame 0 (request next.exchange) next.n next.last in
      ap (λ (ns : List Note). first ∷ (ns ++ low_of framed.drained (request next.exchange))) (rise_is s)
      ∙ ap (λ (ns : List Note). first ∷ (rise_notes limits next.exchange next.n next.last h ++ ns)) (low_is s)

-- ---- a frame
frame_good : (limits : PlainLimits) (old new : PlainCore) (flows : Flows) (next : NextFrame) (framed : Framed) (h : Past) → HasFlows flows old new
    → new.agenda ≡ after_frame next framed old.agenda → Good limits old h → NextIs next limits h → FramesAt next framed limits flows h
    → Good limits new (past_frame limits next.exchange next.n next.last h)
frame_good limits old new flows next framed h e a g i s =
    let x = next.exchange in
    let k = past_frame limits x next.n next.last h in
    good_of limits old new h k (only_moves old new flows e) (frame_keeps_lists limits x next.n next.last h).numbers (frame_paired limits x next.n next.last h)
    (rw (flows_are old new flows e) s.stands)
    (frame_step limits x next.n next.last h g.flows.lawful (unswept_rounded old.agenda h (rounded_next limits old.pairs old.agenda next h i g.underway) g.underway.unswept) i.live i.low i.turn)
    (rw a (underway_frame limits old.pairs old.agenda next framed h g.flows.lawful i s.drains g.books.pairs g.underway)) g

pub frame_steps : (old new : PlainCore) (flows : Flows) (next : NextFrame) (framed : Framed) → HasFlows flows old new
    → new.agenda ≡ after_frame next framed old.agenda → IsNextFrame old.flows (Some next) → Frames next framed old.flows flows → Stepped old (noted_frame next framed flows) new
frame_steps old new flows next framed e a i s = record {
  spelled = spelled_both (noted_rise next framed flows) (low_of framed.drained (request next.exchange))
      (tt, spelled_rise framed.rose (buffer.Write 0) (watchers_of flows.gates (buffer.Write 0)) (can_all (watchers_of flows.gates (buffer.Write 0))))
      (spelled_low framed.drained (request next.exchange));
  silent = all_both NoTurn (noted_rise next framed flows) (low_of framed.drained (request next.exchange))
      (record { events = λ h. refl }, silent_rise framed.rose (buffer.Write 0) (watchers_of flows.gates (buffer.Write 0)))
      (silent_low framed.drained (request next.exchange));
  goes = λ limits h g.
      let is : NextIs next limits h = i.goes limits h g.flows in
      let frames : FramesAt next framed limits flows h = s.goes limits h g.flows is in
      rw (frame_noted limits next framed flows h frames) (frame_good limits old new flows next framed h e a g is frames);
  well = (only_moves old new flows e).well;
}

-- the notes of the code are these, all of them or a front
pub rise_appends : (before after : List Note) (next : NextFrame) (framed : Framed) (flows : Flows) (f : FlowId) (r : Written) → f ≡ request next.exchange
    → AppendsNotes before (note.Frame 0 f next.n next.last ∷ rise_of framed.rose (buffer.Write 0) (watchers_of flows.gates (buffer.Write 0))) after r
    → AppendsNotes before (noted_rise next framed flows) after r
rise_appends before after next framed flows f r e a =
    rw (← e) a

pub frame_result : (old new : PlainCore) (before mid after : List Note) (flows : Flows) (next : NextFrame) (framed : Framed) (f : FlowId) (r : Written) → f ≡ request next.exchange
    → HasFlows flows old new → new.agenda ≡ after_frame next framed old.agenda → IsNextFrame old.flows (Some next) → Frames next framed old.flows flows
    → mid ≡ before ++ (note.Frame 0 f next.n next.last ∷ rise_of framed.rose (buffer.Write 0) (watchers_of new.flows.gates (buffer.Write 0)))
    → AppendsNotes mid (low_of framed.drained f) after r → OnOk r (Keeps old before new after) × Cuts old before after
frame_result old new before mid after flows next framed f r is e a i s m n =
    let first : mid ≡ before ++ noted_rise next framed flows = rise_appends before mid next framed flows f (Ok tt) is (rw (← flows_are old new flows e) m) in
    let all = appends_both before (noted_rise next framed flows) (low_of framed.drained (request next.exchange)) mid after r first (rw (← is) n) in
    let st = frame_steps old new flows next framed e a i s in
    (keeps_result old new before (noted_frame next framed flows) after r all st, cuts_result old new before (noted_frame next framed flows) after r all st)

pub frame_cuts : (old new : PlainCore) (before after : List Note) (flows : Flows) (next : NextFrame) (framed : Framed) (f : FlowId) → f ≡ request next.exchange
    → HasFlows flows old new → new.agenda ≡ after_frame next framed old.agenda → IsNextFrame old.flows (Some next) → Frames next framed old.flows flows
    → AppendsSome before (note.Frame 0 f next.n next.last ∷ rise_of framed.rose (buffer.Write 0) (watchers_of new.flows.gates (buffer.Write 0))) after → Cuts old before after
frame_cuts old new before after flows next framed f is e a i s n =
    cuts_front old new before (noted_frame next framed flows) after
    (front_more before (noted_rise next framed flows) (low_of framed.drained (request next.exchange)) after (rw (← is) (subst (λ (v : Flows). AppendsSome before (note.Frame 0 f next.n next.last ∷ rise_of framed.rose (buffer.Write 0) (watchers_of v.gates (buffer.Write 0))) after) (flows_are old new flows e) n))) (frame_steps old new flows next framed e a i s)

frame_sums : (last : Bool) (a b w v : ℕ) → a + (if last then 7 else 5) ≤ b → w ≤ (if last then 2 else 0) + (1 + v) → (a + w) + 2 ≤ b + v
frame_sums true a b w v e f = omega arith
frame_sums false a b w v e f = omega arith

pub frame_less : (old new : PlainCore) (flows : Flows) (next : NextFrame) (framed : Framed) → HasFlows flows old new
    → new.agenda ≡ after_frame next framed old.agenda → left_in flows + of_frame next ≤ left_in old.flows → to_go new + 2 ≤ to_go old
frame_less old new flows next framed e a less =
    let b = ap (sum_by weight) a in
    let l = ap left_in (flows_are old new flows e) in
    let s = frame_sums next.last (left_in flows) (left_in old.flows) (sum_by weight (after_frame next framed old.agenda)) (sum_by weight old.agenda) less (weight_frame next framed old.agenda) in
    omega (arith, b, l, s)

-- ---- nothing to frame
no_next : (old : PlainCore) (next : Option NextFrame) (limits : PlainLimits) (h : Past) → next ≡ None → IsNextFrame old.flows next → Good limits old h → NoNext limits h
no_next old next limits h e i g =
    let j : IsNextFrame old.flows None = rw (← e) i in
    j.goes limits h g.flows

pub some_next : (old : PlainCore) (next : NextFrame) (found : Option NextFrame) → found ≡ Some next → IsNextFrame old.flows found → IsNextFrame old.flows (Some next)
some_next old next found e i = rw (← e) i

-- the task on top ends, and all else stays
pub end_steps : (old new : PlainCore) (t : Task) → new ≡ record old { flows = old.flows; agenda = new.agenda } → OnTop t old.agenda → new.agenda ≡ drop 1 old.agenda
    → ((limits : PlainLimits) (h : Past) → Good limits old h → Underway limits old.pairs (t ∷ drop 1 old.agenda) h → Underway limits old.pairs (drop 1 old.agenda) h) → Stepped old [] new
end_steps old new t e top a ends = record {
  spelled = tt;
  silent = tt;
  goes = λ limits h g.
      good_of limits old new h h (only_moves old new old.flows e) refl (λ x. refl)
      (rw (flows_are old new old.flows e) g.flows.stands) g.flows.lawful
      (rw a (ends limits h g (subst (λ (v : Agenda). Underway limits old.pairs v h) (top_is t old.agenda top) g.underway))) g;
  well = (only_moves old new old.flows e).well;
}

module _ (old new : PlainCore) (before : List Note) where
  keeps_silent : Stepped old [] new → Keeps old before new before
  keeps_silent s = keeps_of old new before [] before (sym (append-nil before)) s

  pub round_ends : (next : Option NextFrame) → next ≡ None → IsNextFrame old.flows next → new ≡ record old { flows = old.flows; agenda = new.agenda }
      → OnTop task.Round old.agenda → new.agenda ≡ drop 1 old.agenda → Keeps old before new before
  round_ends next none i e top a =
      keeps_silent (end_steps old new task.Round e top a (λ limits h g u. underway_end_round limits old.pairs (drop 1 old.agenda) h (no_next old next limits h none i g) u))

  pub drain_ends : (c : ℕ) → new ≡ record old { flows = old.flows; agenda = new.agenda }
      → OnTop (task.Drain c) old.agenda → new.agenda ≡ drop 1 old.agenda → Keeps old before new before
  drain_ends c e top a =
      keeps_silent (end_steps old new (task.Drain c) e top a (λ limits h g u. underway_end_drain limits old.pairs c (drop 1 old.agenda) h u))

one_weight : (t : Task) (a : Agenda) → OnTop t a → 1 ≤ weight t → sum_by weight (drop 1 a) < sum_by weight a
one_weight t a top o = let w = weight_top t a top in omega (arith, w, o)

pub end_less : (old new : PlainCore) (t : Task) → new ≡ record old { flows = old.flows; agenda = new.agenda } → OnTop t old.agenda → new.agenda ≡ drop 1 old.agenda → 1 ≤ weight t
    → to_go new < to_go old
end_less old new t e top a o =
    let w = one_weight t old.agenda top o in
    let b = ap (sum_by weight) a in
    let l = ap left_in (flows_are old new old.flows e) in
    omega (arith, w, b, l)

-- ---- a connection is drained
-- the core whose agenda has a drain on top
abbrev pub draining : PlainCore → PlainCore
draining old = record old { agenda = task.Drain 0 ∷ old.agenda }

drain_good : (limits : PlainLimits) (old : PlainCore) (next : NextFrame) (h : Past) → IsNextFrame old.flows (Some next) → Good limits old h → Good limits (draining old) h
drain_good limits old next h i g = record {
  flows = g.flows;
  books = record { turn = g.books.turn; pairs = g.books.pairs; routes = g.books.routes };
  underway =
      let is : NextIs next limits h = i.goes limits h g.flows in
      underway_same limits old.pairs old.agenda (task.Drain 0 ∷ old.agenda) h (holds_push (task.Drain 0) old.agenda) (grounds_push_drain 0 old.agenda) (runs_push (task.Drain 0) old.agenda)
      (rounded_next limits old.pairs old.agenda next h is g.underway) g.underway;
}

-- the same of an agenda that was pushed onto
abbrev pub pushed : PlainCore → Agenda → PlainCore
pushed old a = record old { agenda = a }

module _ (old : PlainCore) (a : Agenda) (next : NextFrame) (before : List Note) where
  pub drain_is_good : a ≡ task.Drain 0 ∷ old.agenda → IsNextFrame old.flows (Some next) → IsGood old before → IsGood (pushed old a) before
  drain_is_good e i g =
      rw e (record { limits = g.limits; history = g.history; good = drain_good g.limits old next (onto before g.history) i g.good })

  drain_keeps : a ≡ task.Drain 0 ∷ old.agenda → IsNextFrame old.flows (Some next) → Keeps old before (pushed old a) before
  drain_keeps e i =
      rw e (keeps_silent old (draining old) before (record { spelled = tt; silent = tt; goes = λ limits h g. drain_good limits old next h i g; well = refl }))

pub drain_from_keeps : (old new : PlainCore) (a : Agenda) (next : NextFrame) (before after : List Note) (r : Written) → a ≡ task.Drain 0 ∷ old.agenda → IsNextFrame old.flows (Some next)
    → OnOk r (Keeps (pushed old a) before new after) → OnOk r (Keeps old before new after)
drain_from_keeps old new a next before after r e i k = keeps_then old (pushed old a) new before before after r (drain_keeps old a next before e i) k

pub drain_from_cuts : (old : PlainCore) (a : Agenda) (next : NextFrame) (before after : List Note) → a ≡ task.Drain 0 ∷ old.agenda → IsNextFrame old.flows (Some next) → Cuts (pushed old a) before after
    → Cuts old before after
drain_from_cuts old a next before after e i k = cuts_more old (pushed old a) before before after (drain_keeps old a next before e i) k

module _ (old new : PlainCore) where
  pub drain_from_less : (a : Agenda) (r : Written) → a ≡ task.Drain 0 ∷ old.agenda → OnOk r (to_go new + 2 ≤ to_go (pushed old a)) → OnOk r (to_go new < to_go old)
  drain_from_less a (Ok u) e l = let b = ap (sum_by weight) e in let w = sum_by-cons weight (task.Drain 0) old.agenda in omega (arith, l, b, w)
  drain_from_less a (Err x) e l = tt

  pub drain_less : (r : Written) → OnOk r (to_go new + 2 ≤ to_go old) → OnOk r (to_go new < to_go old)
  drain_less (Ok u) l = omega (arith, l)
  drain_less (Err e) l = tt
