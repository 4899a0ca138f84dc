-- The steps of a run: its flow moves, or may not, or isn't live.
use Rattle.flow_gate.specs.Board.{watchers_of}
use Rattle.flow_rules.specs.declared.ids.FlowId.{FlowId}
use Rattle.flow_rules.specs.Pausing.{CanPause}
use Rattle.flow_notes.specs.declared.notes.Note.{Note}
use Rattle.plain_laws.proofs.Changes.{move_keeps_lists, move_paired, move_recv}
use Rattle.plain_laws.proofs.Steps.{move_step}
use Rattle.plain_laws.proofs.Streams.{not_both}
use Rattle.plain_laws.specs.Settled.{Settled as IsSettledHistory}
use Rattle.plain_laws.specs.StepNotes.{move_notes}
use Rattle.std.proofs.lemmas.Bool.{ltb-true}
use Rattle.std.proofs.Common.{ap, arith, refl, subst, sym, ◌∙◌}
use Rattle.std.proofs.lemmas.List.{append-nil, drop_all}
use Rattle.std.specs.List.{AllByRecursion, sum_by}
use Rattle.std.specs.Prelude.{Bool, Err, List, Ok, OnOk, Option, Some, [], drop, false, length, min, nat_lt, true, ℕ, ◌+◌, ◌<◌, ◌∷◌, ◌≡◌, ◌≤◌}
use Rattle.plain_laws.specs.Words.{Past, Alive, past_move, recv_at}
use Rattle.tape_laws.specs.Dispatches.{has, live}
use Rattle.tape_laws.specs.Flows.{request}
use Rattle.tape_laws.specs.History.{onto}
use Rattle.tape_laws.specs.declared.PlainLimits.{PlainLimits}
use Rattle.plain_core.proofs.Agendas.{grounds_drain, grounds_end, grounds_more, holds_drain, holds_end_run, holds_more, runs_drain, runs_end_run, top_is, weight_move, weight_top}
use Rattle.plain_core.proofs.Fronts.{Stepped, cuts_result, keeps_of, keeps_result}
use Rattle.plain_core.proofs.Keeping.{cuts_more, flows_are, good_of, keeps_then, only_moves, silent_rise, spelled_rise, with_flows}
use Rattle.plain_core.proofs.StepSweep.{good_kept}
use Rattle.plain_core.proofs.Rested.{may_not}
use Rattle.plain_core.proofs.UnderwayTells.{still_above}
use Rattle.plain_core.proofs.UnderwayMoves.{move_leaves_work, moves_after_move, rounded_at, rounded_top, underway_end_run, underway_kept, underway_of, unswept_at}
use Rattle.plain_core.specs.Agenda.{Agenda, after_move, with_drain}
use Rattle.plain_core.specs.Carries.{IdlesAt, IsNextFrame, IsNextUnless, MovesAt, StaysAt, Steps, may_move}
use Rattle.plain_core.specs.Flows.{FlowsStand, IsSettled}
use Rattle.plain_core.specs.Measure.{LessByStep, left_in, to_go, weight}
use Rattle.plain_core.specs.Noting.{AppendsNotes, rise_of}
use Rattle.plain_core.specs.Progress.{Pairs, Underway}
use Rattle.plain_core.specs.Runs.{Cuts, IsGood, Keeps}
use Rattle.plain_core.specs.Stands.{Good}
use Rattle.plain_core.specs.declared.agenda.Task.{Task}
use Rattle.plain_core.specs.declared.flows.Flows.{Flows}
use Rattle.plain_core.specs.declared.flows.Moved.{Moved}
use Rattle.plain_core.specs.declared.flows.NextFrame.{NextFrame}
use Rattle.plain_core.specs.declared.flows.Outcome.{Outcome}
use Rattle.plain_core.specs.declared.plain.PlainCore.{PlainCore}
use Rattle.flow_rules.specs.declared.ids.BufferId.TheVariants as buffer
use Rattle.flow_notes.specs.declared.notes.Note.TheVariants as note
use Rattle.plain_core.specs.declared.agenda.Task.TheVariants as task
use Rattle.plain_core.specs.declared.flows.Outcome.TheVariants as outcome
use Rattle.plain_core.specs.Words.{HasFlows, OnTop, Written}

-- ---- what is under way
-- at the top of an agenda, what is under way with the task spelled out
at_top : (limits : PlainLimits) (pairs : Pairs) (t : Task) (a : Agenda) (h : Past) → OnTop t a → Underway limits pairs a h → Underway limits pairs (t ∷ drop 1 a) h
at_top limits pairs t a h e u = rw (← top_is t a e) u

-- a move of less than a quantum leaves nothing
all_of : (m q l : ℕ) → m ≡ min q l → m < q → l ≤ m
all_of m q l e f = omega (arith, e, f)

all_moved : (limits : PlainLimits) (x n : ℕ) (h : Past) → n ≡ min limits.quantum (length (recv_at limits x h)) → nat_lt n limits.quantum ≡ true
    → may_move limits x (past_move limits x n h) ≡ false
all_moved limits x n h e f =
    may_not limits x (past_move limits x n h)
    (move_recv limits x n h ∙ drop_all n (recv_at limits x h) (all_of n limits.quantum _ e (ltb-true n limits.quantum f)))

-- the connection is drained, and the run ends where nothing is left to move
move_underway : (limits : PlainLimits) (pairs : Pairs) (f : FlowId) (n : ℕ) (a : Agenda) (h : Past) (is_all : Bool) → IsSettledHistory limits h → OnTop (task.Run f) a
    → (is_all ≡ true → may_move limits f.exchange (past_move limits f.exchange n h) ≡ false)
    → Underway limits pairs a h → Underway limits pairs (after_move is_all a) (past_move limits f.exchange n h)
move_underway limits pairs f n a h false s top still u =
    let x = f.exchange in
    underway_kept limits pairs a (with_drain 0 a) h (past_move limits x n h) (holds_drain 0 a) (grounds_drain 0 a) (runs_drain 0 a) (move_leaves_work limits x n h)
    (rounded_at limits pairs (task.Run f) a h top u) (λ y l m. moves_after_move limits x y n h s ((move_leaves_work limits x n h).lives y l) m) u
move_underway limits pairs f n a h true s top still u =
    let x = f.exchange in
    let k = past_move limits x n h in
    let r = drop 1 a in
    let v = at_top limits pairs (task.Run f) a h top u in
    underway_of limits pairs (task.Run f ∷ r) (with_drain 0 r) h k (holds_more (task.Run f ∷ r) r (with_drain 0 r) (holds_end_run f r) (holds_drain 0 r))
    (grounds_more (task.Run f ∷ r) r (with_drain 0 r) (grounds_end (task.Run f) r) (grounds_drain 0 r)) (move_leaves_work limits x n h) (rounded_top limits pairs (task.Run f) r h v)
    (λ y l m. let was = (move_leaves_work limits x n h).lives y l in
    (runs_drain 0 r).runs (request y)
    (runs_end_run f r y (λ e. not_both (may_move limits f.exchange k) (ap (λ (g : FlowId). may_move limits g.exchange k) e ∙ m) (still refl))
    (v.runs y was (moves_after_move limits x y n h s was m)))) v

-- ---- a flow that isn't live
idle_underway : (limits : PlainLimits) (old : PlainCore) (f : FlowId) (h : Past) → OnTop (task.Run f) old.agenda → Good limits old h
    → ((x : ℕ) → f ≡ request x → Alive h x → may_move limits x h ≡ true → ⊥) → Underway limits old.pairs (drop 1 old.agenda) h
idle_underway limits old f h top g still =
    underway_end_run limits old.pairs f (drop 1 old.agenda) h still (at_top limits old.pairs (task.Run f) old.agenda h top g.underway)

-- the outcome of a step, named
steps_as : (x : ℕ) (did known : Outcome) (old new : Flows) → did ≡ known → Steps x did old new → Steps x known old new
steps_as x did known old new e s = rw (← e) s

module _ (old new : PlainCore) where
  idle_steps : (flows : Flows) (f : FlowId) → HasFlows flows old new → OnTop (task.Run f) old.agenda → new.agenda ≡ drop 1 old.agenda
      → Steps f.exchange outcome.NotLive old.flows flows → Stepped old [] new
  idle_steps flows f e top a s = record {
    spelled = tt;
    silent = tt;
    goes = λ limits h g.
        let idles : IdlesAt f.exchange limits flows h = s.goes limits h g.flows in
        good_of limits old new h h (only_moves old new flows e) refl (λ x. refl)
        (rw (flows_are old new flows e) idles.stands) g.flows.lawful
        (rw a (idle_underway limits old f h top g (λ x is lx m. not_both (has (live h) f.exchange) (ap (λ (v : FlowId). has (live h) v.exchange) is ∙ lx) idles.dead))) g;
    well = (only_moves old new flows e).well;
  }

  pub idle_keeps : (before : List Note) (flows : Flows) (f : FlowId) (did : Outcome) → did ≡ outcome.NotLive → HasFlows flows old new
      → OnTop (task.Run f) old.agenda → new.agenda ≡ drop 1 old.agenda → Steps f.exchange did old.flows flows → Keeps old before new before
  idle_keeps before flows f did gone e top a s =
      keeps_of old new before [] before (sym (append-nil before)) (idle_steps flows f e top a (steps_as f.exchange did outcome.NotLive old.flows flows gone s))

  -- ---- a flow that the write buffer holds back
  held_steps : (f : FlowId) (answer : Bool) → answer ≡ old.flows.conn.write.above → answer ≡ true → new ≡ record old { flows = old.flows; agenda = new.agenda }
      → OnTop (task.Run f) old.agenda → new.agenda ≡ drop 1 old.agenda → Stepped old [] new
  held_steps f answer held high e top a = record {
    spelled = tt;
    silent = tt;
    goes = λ limits h g.
        good_of limits old new h h (only_moves old new old.flows e) refl (λ x. refl)
        (rw (flows_are old new old.flows e) g.flows.stands) g.flows.lawful
        (rw a (idle_underway limits old f h top g (λ x is lx m. not_both (may_move limits x h) m (still_above limits x h g.flows.lawful lx (sym g.flows.stands.conn.above ∙ (sym held ∙ high)))))) g;
    well = (only_moves old new old.flows e).well;
  }

  pub held_keeps : (before : List Note) (f : FlowId) (answer : Bool) → answer ≡ old.flows.conn.write.above → answer ≡ true → new ≡ record old { flows = old.flows; agenda = new.agenda }
      → OnTop (task.Run f) old.agenda → new.agenda ≡ drop 1 old.agenda → Keeps old before new before
  held_keeps before f answer held high e top a = keeps_of old new before [] before (sym (append-nil before)) (held_steps f answer held high e top a)

-- ---- a flow that may not move
stay_underway : (limits : PlainLimits) (old : PlainCore) (f : FlowId) (h : Past) → OnTop (task.Run f) old.agenda → Good limits old h → may_move limits f.exchange h ≡ false
    → Underway limits old.pairs (drop 1 old.agenda) h
stay_underway limits old f h top g still =
    idle_underway limits old f h top g (λ x is lx m. not_both (may_move limits f.exchange h) (ap (λ (v : FlowId). may_move limits v.exchange h) is ∙ m) still)

stay_steps : (old new : PlainCore) (flows : Flows) (f : FlowId) → HasFlows flows old new → OnTop (task.Run f) old.agenda
    → new.agenda ≡ drop 1 old.agenda → Steps f.exchange outcome.Still old.flows flows → Stepped old [] new
stay_steps old new flows f e top a s = record {
  spelled = tt;
  silent = tt;
  goes = λ limits h g.
      let stays : StaysAt f.exchange limits flows h = s.goes limits h g.flows in
      good_of limits old new h h (only_moves old new flows e) refl (λ x. refl)
      (rw (flows_are old new flows e) stays.stands) g.flows.lawful
      (rw a (stay_underway limits old f h top g stays.still)) g;
  well = (only_moves old new flows e).well;
}

pub stay_keeps : (old new : PlainCore) (before : List Note) (flows : Flows) (f : FlowId) (did : Outcome) → did ≡ outcome.Still → HasFlows flows old new
    → OnTop (task.Run f) old.agenda → new.agenda ≡ drop 1 old.agenda → Steps f.exchange did old.flows flows → Keeps old before new before
stay_keeps old new before flows f did still e top a s =
    keeps_of old new before [] before (sym (append-nil before)) (stay_steps old new flows f e top a (steps_as f.exchange did outcome.Still old.flows flows still s))

-- ---- a flow that may not move, while its run goes on
still_steps : (old : PlainCore) (flows : Flows) (x : ℕ) → Steps x outcome.Still old.flows flows → Stepped old [] (with_flows old flows)
still_steps old flows x s = record {
  spelled = tt;
  silent = tt;
  goes = λ limits h g.
      let stays : StaysAt x limits flows h = s.goes limits h g.flows in
      good_of limits old (with_flows old flows) h h (record { config = refl; turn = refl; pairs = refl; well = refl }) refl (λ y. refl) stays.stands g.flows.lawful g.underway g;
  well = refl;
}

module _ (old : PlainCore) (before : List Note) (flows : Flows) (x : ℕ) (did : Outcome) where
  still_keeps : did ≡ outcome.Still → Steps x did old.flows flows → Keeps old before (with_flows old flows) before
  still_keeps still s =
      keeps_of old (with_flows old flows) before [] before (sym (append-nil before)) (still_steps old flows x (steps_as x did outcome.Still old.flows flows still s))

  pub still_good : did ≡ outcome.Still → Steps x did old.flows flows → IsGood old before → IsGood (with_flows old flows) before
  still_good still s g = good_kept old (with_flows old flows) before before g (still_keeps still s)

pub still_then : (old new : PlainCore) (before after : List Note) (flows : Flows) (x : ℕ) (did : Outcome) (r : Written) → did ≡ outcome.Still → Steps x did old.flows flows
    → OnOk r (Keeps (with_flows old flows) before new after) → OnOk r (Keeps old before new after)
still_then old new before after flows x did r still s k = keeps_then old (with_flows old flows) new before before after r (still_keeps old before flows x did still s) k

pub still_cuts : (old : PlainCore) (before after : List Note) (flows : Flows) (x : ℕ) (did : Outcome) → did ≡ outcome.Still → Steps x did old.flows flows → Cuts (with_flows old flows) before after → Cuts old before after
still_cuts old before after flows x did still s k = cuts_more old (with_flows old flows) before before after (still_keeps old before flows x did still s) k

pub settled_of : (core : PlainCore) (notes : List Note) → IsGood core notes → IsSettled core.flows
settled_of core notes g = record { limits = g.limits; history = onto notes g.history; settled = g.good.flows }

-- a frame goes next where the connection isn't drained
pub undrained_next : (is_drained : Bool) (flows : Flows) (next : NextFrame) (found : Option NextFrame) → found ≡ Some next → IsNextUnless is_drained flows found → IsNextFrame flows (Some next)
undrained_next true flows next found e i = cc
undrained_next false flows next found e i = rw (← e) i

pub still_less : (old new : PlainCore) (flows : Flows) (did : Outcome) (r : Written) → did ≡ outcome.Still → LessByStep did old.flows flows
    → OnOk r (to_go new < to_go (with_flows old flows)) → OnOk r (to_go new < to_go old)
still_less old new flows did (Err x) still less l = tt
still_less old new flows did (Ok u) still less l =
    let n : left_in flows ≤ left_in old.flows = subst (λ (v : Outcome). LessByStep v old.flows flows) still less in
    omega (arith, n, l)

-- ---- a move
-- the watchers of the send buffer of a live stream
watched : (limits : PlainLimits) (x : ℕ) (flows : Flows) (h : Past) → FlowsStand limits flows h → Alive h x
    → watchers_of flows.gates (buffer.Send (request x)) ≡ request x ∷ []
watched limits x flows h s l = cc (s.gates.send_watchers x)

-- the notes of a move
abbrev pub noted_move : ℕ → Moved → Flows → List Note
noted_move x m flows = note.Move (request x) 0 m.n ∷ rise_of m.rose (buffer.Send (request x)) (watchers_of flows.gates (buffer.Send (request x)))

module _ (limits : PlainLimits) (x : ℕ) (m : Moved) (flows : Flows) (h : Past) where
  move_watched : MovesAt x m limits flows h → watchers_of flows.gates (buffer.Send (request x)) ≡ request x ∷ []
  move_watched s =
      watched limits x flows (past_move limits x m.n h) s.stands (cc ((move_keeps_lists limits x m.n h).lives))

  move_noted : MovesAt x m limits flows h → noted_move x m flows ≡ move_notes limits x m.n h
  move_noted s =
      cc (move_watched s)

move_good : (limits : PlainLimits) (old new : PlainCore) (flows : Flows) (f : FlowId) (m : Moved) (h : Past) → HasFlows flows old new
    → OnTop (task.Run f) old.agenda → new.agenda ≡ after_move (nat_lt m.n flows.limits.quantum) old.agenda
    → Good limits old h → MovesAt f.exchange m limits flows h → Good limits new (past_move limits f.exchange m.n h)
move_good limits old new flows f m h e top a g s =
    let x = f.exchange in
    let k = past_move limits x m.n h in
    good_of limits old new h k (only_moves old new flows e) (move_keeps_lists limits x m.n h).numbers (move_paired limits x m.n h)
    (rw (flows_are old new flows e) s.stands)
    (move_step limits x m.n h g.flows.lawful (unswept_at old.agenda (task.Run f) h top g.underway.unswept) s.live s.free s.some s.all)
    (subst (λ (v : Agenda). Underway limits old.pairs v k) (sym a) (move_underway limits old.pairs f m.n old.agenda h (nat_lt m.n flows.limits.quantum) g.flows.lawful top
    (λ t. all_moved limits x m.n h s.all (cc)) g.underway)) g

pub move_steps : (old new : PlainCore) (before : List Note) (flows : Flows) (f : FlowId) (m : Moved) → HasFlows flows old new
    → OnTop (task.Run f) old.agenda → new.agenda ≡ after_move (nat_lt m.n flows.limits.quantum) old.agenda
    → Steps f.exchange (outcome.Moved m) old.flows flows → IsGood old before → Stepped old (noted_move f.exchange m flows) new
move_steps old new before flows f m e top a s good = record {
  spelled = (tt, spelled_rise m.rose (buffer.Send (request f.exchange)) (watchers_of flows.gates (buffer.Send (request f.exchange))) can);
  silent = (record { events = λ h. refl }, silent_rise m.rose (buffer.Send (request f.exchange)) (watchers_of flows.gates (buffer.Send (request f.exchange))));
  goes = λ limits h g.
      let moves : MovesAt f.exchange m limits flows h = s.goes limits h g.flows in
      rw (move_noted limits f.exchange m flows h moves) (move_good limits old new flows f m h e top a g moves);
  well = (only_moves old new flows e).well;
}
  where
    can : AllByRecursion (λ g. CanPause g (buffer.Send (request f.exchange))) (watchers_of flows.gates (buffer.Send (request f.exchange)))
    can =
        let h = onto before good.history in
        let moves : MovesAt f.exchange m good.limits flows h = s.goes good.limits h good.good.flows in
        rw (move_watched good.limits f.exchange m flows h moves) (refl, tt)

-- what the notes of the code are
pub move_appends : (before after : List Note) (x : ℕ) (g : FlowId) (m : Moved) (flows : Flows) (r : Written) → g ≡ request x
    → AppendsNotes before (note.Move g 0 m.n ∷ rise_of m.rose (buffer.Send g) (watchers_of flows.gates (buffer.Send g))) after r → AppendsNotes before (noted_move x m flows) after r
move_appends before after x g m flows r e a =
    rw (← e) a

-- ---- the measure
-- the run ends, and nothing is more
module _ (old new : PlainCore) (flows : Flows) (f : FlowId) where
  rest_less : left_in flows ≤ left_in old.flows → HasFlows flows old new
      → OnTop (task.Run f) old.agenda → new.agenda ≡ drop 1 old.agenda → to_go new < to_go old
  rest_less n e top a =
      let w = weight_top (task.Run f) old.agenda top in
      let b = ap (sum_by weight) a in
      let l = ap left_in (flows_are old new flows e) in
      omega (arith, n, w, b, l)

  pub idle_less : (did : Outcome) → did ≡ outcome.NotLive → HasFlows flows old new
      → OnTop (task.Run f) old.agenda → new.agenda ≡ drop 1 old.agenda → LessByStep did old.flows flows → to_go new < to_go old
  idle_less did gone e top a less = rest_less (subst (λ (v : Outcome). LessByStep v old.flows flows) gone less) e top a

  pub stay_less : (did : Outcome) → did ≡ outcome.Still → HasFlows flows old new
      → OnTop (task.Run f) old.agenda → new.agenda ≡ drop 1 old.agenda → LessByStep did old.flows flows → to_go new < to_go old
  stay_less did still e top a less = rest_less (subst (λ (v : Outcome). LessByStep v old.flows flows) still less) e top a

pub move_less : (old new : PlainCore) (flows : Flows) (did : Outcome) (m : Moved) → did ≡ outcome.Moved m → HasFlows flows old new
    → new.agenda ≡ after_move (nat_lt m.n flows.limits.quantum) old.agenda → LessByStep did old.flows flows → to_go new < to_go old
move_less old new flows did m some e a less =
    let n : left_in flows + 4 ≤ left_in old.flows = subst (λ (v : Outcome). LessByStep v old.flows flows) some less in
    let t = weight_move (nat_lt m.n flows.limits.quantum) old.agenda in
    let b = ap (sum_by weight) a in
    let l = ap left_in (flows_are old new flows e) in
    omega (arith, n, t, b, l)

pub move_result : (old new : PlainCore) (before after : List Note) (flows : Flows) (f g : FlowId) (did : Outcome) (m : Moved) (r : Written) → g ≡ request f.exchange
    → did ≡ outcome.Moved m → HasFlows flows old new → OnTop (task.Run f) old.agenda
    → new.agenda ≡ after_move (nat_lt m.n flows.limits.quantum) old.agenda → Steps f.exchange did old.flows flows → IsGood old before
    → AppendsNotes before (note.Move g 0 m.n ∷ rise_of m.rose (buffer.Send g) (watchers_of new.flows.gates (buffer.Send g))) after r
    → OnOk r (Keeps old before new after) × Cuts old before after
move_result old new before after flows f g did m r is some e top a s good n =
    let st = move_steps old new before flows f m e top a (steps_as f.exchange did (outcome.Moved m) old.flows flows some s) good in
    let all = move_appends before after f.exchange g m flows r is (rw (← flows_are old new flows e) n) in
    (keeps_result old new before (noted_move f.exchange m flows) after r all st, cuts_result old new before (noted_move f.exchange m flows) after r all st)
