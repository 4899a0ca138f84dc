-- A telling: watchers are told until one goes on, which is run, or all were told.
use Rattle.flow_gate.specs.Board.{pending_on}
use Rattle.flow_rules.specs.declared.ids.FlowId.{FlowId}
use Rattle.flow_notes.specs.declared.notes.Note.{Note}
use Rattle.plain_laws.specs.Regular.{IsLiveFlow}
use Rattle.std.proofs.Common.{ap, arith, refl, sym, ◌∙◌}
use Rattle.std.proofs.Math.Seq.{take-append_seam}
use Rattle.std.proofs.lemmas.List.{append-nil, length-append}
use Rattle.std.specs.List.{AllByRecursion, sum_by}
use Rattle.std.specs.Prelude.{Err, List, None, Ok, OnOk, Option, Some, [], drop, false, length, option_to_list, take, ℕ, ◌*◌, ◌++◌, ◌+◌, ◌<◌, ◌∷◌, ◌≡◌, ◌≤◌}
use Rattle.plain_laws.specs.Words.{Past, conn_lows}
use Rattle.tape_laws.specs.Dispatches.{live}
use Rattle.tape_laws.specs.declared.PlainLimits.{PlainLimits}
use Rattle.plain_core.proofs.Agendas.{after_telling, weight_run, weight_top}
use Rattle.plain_core.proofs.Fronts.{NoTurn, Stepped, cuts_lawful, keeps_of}
use Rattle.plain_core.proofs.Keeping.{flows_are, good_of, only_moves}
use Rattle.plain_core.proofs.Tellings.{AreTold, are_told, with_all_told}
use Rattle.plain_core.proofs.UnderwayMoves.{rounded_at, unswept_at}
use Rattle.plain_core.proofs.UnderwayTells.{underway_telling}
use Rattle.plain_core.specs.Agenda.{Agenda, with_run}
use Rattle.plain_core.specs.Carries.{IsStill, Tells, Wakes}
use Rattle.plain_core.specs.Flows.{FlowsStand, Settled}
use Rattle.plain_core.specs.Measure.{left_in, to_go, weight}
use Rattle.plain_core.specs.Noting.{AppendsSome, resumes_of}
use Rattle.plain_core.specs.Runs.{AreSpelled, Cuts, Keeps}
use Rattle.plain_core.specs.Telling.{TellsUpTo}
use Rattle.plain_core.specs.declared.flows.Flows.{Flows}
use Rattle.plain_core.specs.declared.agenda.Task.{Task}
use Rattle.plain_core.specs.declared.telling.Told.{Told}
use Rattle.plain_core.specs.declared.plain.PlainCore.{PlainCore}
use Rattle.flow_rules.specs.declared.ids.BufferId.TheVariants as buffer
use Rattle.plain_core.specs.declared.agenda.Task.TheVariants as task
use Rattle.plain_core.specs.Words.{HasFlows, OnTop, Written}

spelled_resumes : (fs : List FlowId) → AreSpelled (resumes_of (buffer.Write 0) fs)
spelled_resumes [] = tt
spelled_resumes (f ∷ fs) = (tt, spelled_resumes fs)

silent_resumes : (fs : List FlowId) → AllByRecursion NoTurn (resumes_of (buffer.Write 0) fs)
silent_resumes [] = tt
silent_resumes (f ∷ fs) = (record { events = λ h. refl }, silent_resumes fs)

-- the resumes of all that are to be told are lawful, and each front of them
pub resumes_cut : (old : PlainCore) (before after : List Note) (t : Task) → OnTop t old.agenda → AppendsSome before (resumes_of (buffer.Write 0) (pending_on old.flows.gates (buffer.Write 0))) after → Cuts old before after
resumes_cut old before after t top a =
    let lows = pending_on old.flows.gates (buffer.Write 0) in
    cuts_lawful old before (resumes_of (buffer.Write 0) lows) after a (spelled_resumes lows) (silent_resumes lows)
    (λ limits h g. (are_told limits lows [] h g.flows.lawful (unswept_at old.agenda t h top g.underway.unswept) (sym g.flows.stands.gates.write_pending ∙ sym (append-nil lows))).settled.regular.lawful)

-- ---- who doesn't go on stays as it is
still_of : (limits : PlainLimits) (flows : Flows) (fs : List FlowId) (h : Past) → Settled limits flows h → AllByRecursion (IsLiveFlow (live h)) fs
    → AllByRecursion (λ f. Wakes flows f.exchange false) fs → AllByRecursion (λ f. IsStill limits f.exchange h) fs
still_of limits flows [] h s l w = tt
still_of limits flows (f ∷ fs) h s l w = (w.0.no limits h s l.0.live refl, still_of limits flows fs h s l.1 w.1)

front_live : (P : FlowId → Type 0) (fs gs rest : List FlowId) → AllByRecursion P ((fs ++ gs) ++ rest) → AllByRecursion P fs
front_live P [] gs rest a = tt
front_live P (f ∷ fs) gs rest a = (a.0, front_live P fs gs rest a.1)

-- ---- the step
module _ (old new : PlainCore) (before after : List Note) (flows : Flows) (told : Told) (c : ℕ) where
  tell_steps : HasFlows flows old new → OnTop (task.Tell c) old.agenda
      → new.agenda ≡ after_telling told.next old.agenda → Tells told.n old.flows flows → (u : TellsUpTo old.flows before told after)
      → Stepped old (resumes_of (buffer.Write 0) (u.is.still ++ option_to_list told.next)) new
  tell_steps e top a tells u =
      let fs = u.is.still ++ option_to_list told.next in
      record {
        spelled = spelled_resumes fs;
        silent = silent_resumes fs;
        goes = λ limits h g.
            let fresh = unswept_at old.agenda (task.Tell c) h top g.underway.unswept in
            let lows : conn_lows limits h ≡ fs ++ u.is.rest = sym g.flows.stands.gates.write_pending ∙ u.is.whole in
            let is : AreTold limits fs u.is.rest h (with_all_told fs h) = are_told limits fs u.is.rest h g.flows.lawful fresh lows in
            let first : take told.n (conn_lows limits h) ≡ fs =
            cc (take-append_seam fs u.is.rest) in
            let stands : FlowsStand limits flows (with_all_told fs h) =
            (rw (← first) (tells.goes limits h g.flows fresh)) in
            let live : AllByRecursion (IsLiveFlow (live h)) u.is.still =
            (front_live (IsLiveFlow (live h)) u.is.still (option_to_list told.next) u.is.rest (rw (← lows) g.flows.lawful.regular.books.write_lows)) in
            good_of limits old new h (with_all_told fs h) (only_moves old new flows e) is.lists.numbers is.paired
            (rw (flows_are old new flows e) stands)
            is.settled
            (rw a (underway_telling limits old.pairs c old.agenda u.is.still told.next u.is.rest h g.flows.lawful lows u.is.last top
            (rounded_at limits old.pairs (task.Tell c) old.agenda h top g.underway) (still_of limits old.flows u.is.still h g.flows live u.is.stay) g.underway)) g;
        well = (only_moves old new flows e).well;
      }

  pub tell_keeps : HasFlows flows old new → OnTop (task.Tell c) old.agenda
      → new.agenda ≡ after_telling told.next old.agenda → Tells told.n old.flows flows → TellsUpTo old.flows before told after → Keeps old before new after
  tell_keeps e top a tells u =
      keeps_of old new before (resumes_of (buffer.Write 0) (u.is.still ++ option_to_list told.next)) after u.notes (tell_steps e top a tells u)

-- ---- the measure
-- so many as were told were to be
told_first : (old : Flows) (before after : List Note) (told : Told) (u : TellsUpTo old before told after)
    → length (take told.n (pending_on old.gates (buffer.Write 0))) ≡ length (u.is.still ++ option_to_list told.next)
told_first old before after told u =
    let fs = u.is.still ++ option_to_list told.next in
    ap (λ (v : List FlowId). length (take told.n v)) u.is.whole ∙ ap (λ (n : ℕ). length (take n (fs ++ u.is.rest))) u.is.number ∙ ap length (take-append_seam fs u.is.rest)

told_some : (fs : List FlowId) (f : FlowId) → 1 ≤ length (fs ++ f ∷ [])
told_some fs f = let n = length-append fs (f ∷ []) in omega (arith, n)

tell_weight : (a b : Agenda) (c : ℕ) (next : Option FlowId) (fs : List FlowId) (l m : ℕ) → OnTop (task.Tell c) a → b ≡ after_telling next a
    → l + 4 * length (fs ++ option_to_list next) ≤ m → l + sum_by weight b < m + sum_by weight a
tell_weight a b c (Some f) fs l m top e n =
    let s = told_some fs f in
    let w = weight_run f a in
    let g = ap (sum_by weight) e in
    omega (arith, n, s, w, g)
tell_weight a b c None fs l m top e n =
    let w = weight_top (task.Tell c) a top in
    let g = ap (sum_by weight) e in
    omega (arith, n, w, g)

module _ (old new : PlainCore) (before after : List Note) (flows : Flows) (told : Told) where
  pub tell_less : (c : ℕ) → HasFlows flows old new → OnTop (task.Tell c) old.agenda
      → new.agenda ≡ after_telling told.next old.agenda → left_in flows + 4 * length (take told.n (pending_on old.flows.gates (buffer.Write 0))) ≤ left_in old.flows
      → TellsUpTo old.flows before told after → to_go new < to_go old
  tell_less c e top a n u =
      let t = told_first old.flows before after told u in
      let k : left_in flows + 4 * length (u.is.still ++ option_to_list told.next) ≤ left_in old.flows = (rw (← t) n) in
      let w = tell_weight old.agenda new.agenda c told.next u.is.still (left_in flows) (left_in old.flows) top a k in
      let l = ap left_in (flows_are old new flows e) in
      omega (arith, w, l)

  -- ---- the one that goes on is run, where memory isn't refused
  pub run_keeps : (f : FlowId) (c : ℕ) (r : Written) → HasFlows flows old new
      → OnTop (task.Tell c) old.agenda → told.next ≡ Some f → OnOk r (new.agenda ≡ with_run f old.agenda) → Tells told.n old.flows flows → TellsUpTo old.flows before told after
      → OnOk r (Keeps old before new after)
  run_keeps f c (Ok k) e top some a tells u =
      tell_keeps old new before after flows told c e top (cc) tells u
  run_keeps f c (Err k) e top some a tells u = tt

  pub run_less : (f : FlowId) (c : ℕ) (r : Written) → HasFlows flows old new
      → OnTop (task.Tell c) old.agenda → told.next ≡ Some f → OnOk r (new.agenda ≡ with_run f old.agenda)
      → left_in flows + 4 * length (take told.n (pending_on old.flows.gates (buffer.Write 0))) ≤ left_in old.flows → TellsUpTo old.flows before told after → OnOk r (to_go new < to_go old)
  run_less f c (Ok k) e top some a n u =
      tell_less c e top (cc) n u
  run_less f c (Err k) e top some a n u = tt

-- none is left to be told
pub none_goes_on : (a b : Agenda) (next : Option FlowId) → next ≡ None → b ≡ drop 1 a → b ≡ after_telling next a
none_goes_on a b next none e = cc
