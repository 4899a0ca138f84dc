-- A stream is given up: its end was framed, or that of the stream that dooms it.
use Rattle.flow_rules.specs.declared.causes.Cause.{Cause}
use Rattle.flow_notes.specs.declared.notes.Note.{Note}
use Rattle.plain_laws.proofs.Keepings.{doom_keeps}
use Rattle.plain_laws.proofs.Steps.{done_step, early_pair_step}
use Rattle.plain_laws.proofs.Streams.{apart_from, differs_back, has_left, same_number}
use Rattle.plain_laws.specs.Settled.{Settled as IsSettledHistory}
use Rattle.std.proofs.Common.{ap, arith, inl, inr, refl, sym, ◌∙◌}
use Rattle.std.proofs.lemmas.List.Sums.{sum_by-cons}
use Rattle.std.specs.BTreeMap.{get}
use Rattle.std.specs.List.{AllByRecursion, list_any, sum_by}
use Rattle.std.specs.Ordering.{nat_cmp}
use Rattle.std.specs.Prelude.{Bool, Err, List, None, Ok, OnOk, Option, Some, [], drop, false, true, ℕ, ◌+◌, ◌<◌, ◌==◌, ◌||◌, ◌∷◌, ◌≡◌, ◌≤◌, ◌⊎◌}
use Rattle.plain_laws.specs.Words.{Past, Alive, conn_lows}
use Rattle.tape_laws.specs.Dispatches.{has, is_some_of, live}
use Rattle.tape_laws.specs.History.{Noted, onto}
use Rattle.tape_laws.specs.declared.PlainLimits.{PlainLimits}
use Rattle.plain_core.proofs.Agendas.{top_is, weight_top}
use Rattle.plain_core.proofs.Fronts.{NoTurn, Stepped, cuts_result, keeps_result}
use Rattle.plain_core.proofs.Keeping.{flows_are, good_of, only_moves}
use Rattle.plain_core.proofs.Rested.{may_same}
use Rattle.plain_core.proofs.UnderwayMoves.{LeavesWork, leaves_same, reasons_kept, rounded_top, unswept_at}
use Rattle.plain_core.specs.Agenda.{Agenda, after_end, is_telling}
use Rattle.plain_core.specs.Carries.{GivesUp, may_move}
use Rattle.plain_core.specs.Measure.{left_in, to_go, weight}
use Rattle.plain_core.specs.Noting.{AppendsNotes, doom_of}
use Rattle.plain_core.specs.Progress.{EndedHere, PairEndedHere, Pairs, Underway, will_doom}
use Rattle.plain_core.specs.Runs.{AreSpelled, Cuts, Keeps}
use Rattle.plain_core.specs.Stands.{BooksAre, Good}
use Rattle.plain_core.specs.declared.flows.Flows.{Flows}
use Rattle.plain_core.specs.declared.plain.PlainCore.{PlainCore}
use Rattle.flow_rules.specs.declared.causes.Cause.TheVariants as cause
use Rattle.flow_notes.specs.declared.notes.Note.TheVariants as note
use Rattle.plain_core.specs.declared.agenda.Task.TheVariants as task
use Rattle.plain_core.specs.Words.{HasFlows, OnTop, Written}
use Rattle.plain_laws.proofs.Streams.{or_true as other_of}

-- ---- what a doom leaves
pub doom_leaves_work : (limits : PlainLimits) (x : ℕ) (why : Cause) (h : Past) → LeavesWork limits h (Noted (note.Doom x why) ∷ h)
doom_leaves_work limits x why h = record {
  lives = λ y l. (has_left (live h) x y l).0;
  unswept = λ e. refl;
  told = λ e. cc;
  must = λ y l e. e;
  ends = record { framed = λ y e. e; before = refl; paired = λ y. refl };
}

doom_moves : (limits : PlainLimits) (x y : ℕ) (why : Cause) (h : Past) → IsSettledHistory limits h → Alive (Noted (note.Doom x why) ∷ h) y
    → may_move limits y (Noted (note.Doom x why) ∷ h) ≡ true → may_move limits y h ≡ true
doom_moves limits x y why h s l m = sym (may_same limits y h (Noted (note.Doom x why) ∷ h) refl (doom_keeps limits x y why h s (has_left (live h) x y l).1).recv) ∙ m

-- ---- what is under way then
rest_of : (a b c : Bool) → ((a || b) || c) ≡ true → a ≡ false → b ≡ false → c ≡ true
rest_of true b c e f g = cc
rest_of false true c e f g = cc
rest_of false false c e f g = e

pair_of : (a b c : Bool) → ((a || b) || c) ≡ true → a ≡ false → (b || c) ≡ true
pair_of true b c e f = cc
pair_of false b c e f = e

told_as : (limits : PlainLimits) (a : Agenda) (h k : Past) → LeavesWork limits h k
    → (conn_lows limits h ≡ []) ⊎ (list_any (is_telling 0) a ≡ true)
    → (conn_lows limits k ≡ []) ⊎ (list_any (is_telling 0) a ≡ true)
told_as limits a h k w t = elim t as (λ s. (conn_lows limits k ≡ []) ⊎ (list_any (is_telling 0) a ≡ true)) [ inl e ↦ inl (w.told e) | inr e ↦ inr e ]

-- the agenda after the doom of a stream that ended
abbrev pub pair_next : Option ℕ → Agenda → Agenda
pair_next None a = a
pair_next (Some y) a = task.EarlyEnd y ∷ a

pub underway_ended : (limits : PlainLimits) (pairs : Pairs) (x : ℕ) (p : Option ℕ) (a : Agenda) (h k : Past) → get nat_cmp pairs x ≡ p → LeavesWork limits h k
    → ((y : ℕ) → Alive k y → (x == y) ≡ false) → ((y : ℕ) → Alive k y → may_move limits y k ≡ true → may_move limits y h ≡ true)
    → ((y : ℕ) → is_some_of p y ≡ true → PairEndedHere limits y k) → Underway limits pairs (task.End x ∷ a) h → Underway limits pairs (pair_next p a) k
underway_ended limits pairs x None a h k ep w apart moves named u = record {
  runs = λ y l m. u.runs y (w.lives y l) (moves y l m);
  tells = told_as limits a h k w u.tells;
  ends = λ y l e.
      rest_of (x == y) (is_some_of (get nat_cmp pairs x) y) (list_any (will_doom pairs y) a) (u.ends y (w.lives y l) (w.must y l e)) (apart y l) (cc);
  reasons = reasons_kept limits a h k w.ends u.reasons.1;
  unswept = inr (w.unswept (unswept_at (task.End x ∷ a) (task.End x) h refl u.unswept));
  rested = inl (rounded_top limits pairs (task.End x) a h u);
}
underway_ended limits pairs x (Some z) a h k ep w apart moves named u = record {
  runs = λ y l m. u.runs y (w.lives y l) (moves y l m);
  tells = told_as limits a h k w u.tells;
  ends = λ y l e.
      cc (pair_of (x == y) (is_some_of (get nat_cmp pairs x) y) (list_any (will_doom pairs y) a) (u.ends y (w.lives y l) (w.must y l e)) (apart y l));
  reasons = (named z (same_number z), reasons_kept limits a h k w.ends u.reasons.1);
  unswept = inr (w.unswept (unswept_at (task.End x ∷ a) (task.End x) h refl u.unswept));
  rested = inl (rounded_top limits pairs (task.End x) a h u);
}

pub underway_early : (limits : PlainLimits) (pairs : Pairs) (x : ℕ) (a : Agenda) (h k : Past) → LeavesWork limits h k
    → ((y : ℕ) → Alive k y → (x == y) ≡ false) → ((y : ℕ) → Alive k y → may_move limits y k ≡ true → may_move limits y h ≡ true)
    → Underway limits pairs (task.EarlyEnd x ∷ a) h → Underway limits pairs a k
underway_early limits pairs x a h k w apart moves u = record {
  runs = λ y l m. u.runs y (w.lives y l) (moves y l m);
  tells = told_as limits a h k w u.tells;
  ends = λ y l e. other_of (x == y) (list_any (will_doom pairs y) a) (u.ends y (w.lives y l) (w.must y l e)) (apart y l);
  reasons = reasons_kept limits a h k w.ends u.reasons.1;
  unswept = inr (w.unswept (unswept_at (task.EarlyEnd x ∷ a) (task.EarlyEnd x) h refl u.unswept));
  rested = inl (rounded_top limits pairs (task.EarlyEnd x) a h u);
}

-- the streams that the end of x dooms have their reason
pair_ended : (limits : PlainLimits) (core : PlainCore) (x y : ℕ) (h k : Past) → BooksAre core h → LeavesWork limits h k → EndedHere limits x h
    → is_some_of (get nat_cmp core.pairs x) y ≡ true → PairEndedHere limits y k
pair_ended limits core x y h k b w e s = record {
  first = x;
  paired = cc (w.ends.paired y, b.pairs x y);
  ended = (reasons_kept limits (task.End x ∷ []) h k w.ends (e, tt)).0;
}

-- ---- the steps
after_is : (p : Option ℕ) (a : Agenda) → after_end p a ≡ pair_next p (drop 1 a)
after_is None a = refl
after_is (Some y) a = refl

doom_spelled : (b : Bool) (x : ℕ) (why : Cause) → AreSpelled (doom_of b x why)
doom_spelled true x why = (tt, tt)
doom_spelled false x why = tt

doom_silent : (b : Bool) (x : ℕ) (why : Cause) → AllByRecursion NoTurn (doom_of b x why)
doom_silent true x why = (record { events = λ h. refl }, tt)
doom_silent false x why = tt

not_live : (xs : List ℕ) (x y : ℕ) → has xs x ≡ false → has xs y ≡ true → (x == y) ≡ false
not_live xs x y dead is = differs_back y x (apart_from xs y x is dead)

end_good : (limits : PlainLimits) (old new : PlainCore) (x : ℕ) (b : Bool) (flows : Flows) (h : Past) → HasFlows flows old new
    → OnTop (task.End x) old.agenda → new.agenda ≡ after_end (get nat_cmp old.pairs x) old.agenda → GivesUp x cause.Done old.flows b flows → Good limits old h
    → Good limits new (onto (doom_of b x cause.Done) h)
end_good limits old new x true flows h e top ea gives g =
    let k = Noted (note.Doom x cause.Done) ∷ h in
    let A : Agenda → Type 0 = λ v. Underway limits old.pairs v h in
    let u : Underway limits old.pairs (task.End x ∷ drop 1 old.agenda) h = rw (← top_is (task.End x) old.agenda top) g.underway in
    let is : Alive h x = sym (gives.is.0.goes limits h g.flows) in
    let w = doom_leaves_work limits x cause.Done h in
    good_of limits old new h k (only_moves old new flows e) refl (λ y. refl) (rw (flows_are old new flows e) (gives.is.1.goes limits h g.flows is))
    (done_step limits x h g.flows.lawful (unswept_at old.agenda (task.End x) h top g.underway.unswept) is u.reasons.0.framed)
    (rw (ea ∙ after_is (get nat_cmp old.pairs x) old.agenda) (underway_ended limits old.pairs x (get nat_cmp old.pairs x) (drop 1 old.agenda) h k refl w (λ y l. (has_left (live h) x y l).1) (λ y l m. doom_moves limits x y cause.Done h g.flows.lawful l m)
    (λ y s. pair_ended limits old x y h k g.books w u.reasons.0 s) u)) g
end_good limits old new x false flows h e top ea gives g =
    let A : Agenda → Type 0 = λ v. Underway limits old.pairs v h in
    let u : Underway limits old.pairs (task.End x ∷ drop 1 old.agenda) h = rw (← top_is (task.End x) old.agenda top) g.underway in
    let dead : has (live h) x ≡ false = sym (gives.is.0.goes limits h g.flows) in
    let w = leaves_same limits h in
    good_of limits old new h h (only_moves old new flows e) refl (λ y. refl) (rw (flows_are old new flows e ∙ gives.is.1) g.flows.stands) g.flows.lawful
    (rw (ea ∙ after_is (get nat_cmp old.pairs x) old.agenda) (underway_ended limits old.pairs x (get nat_cmp old.pairs x) (drop 1 old.agenda) h h refl w (λ y l. not_live (live h) x y dead l) (λ y l m. m)
    (λ y s. pair_ended limits old x y h h g.books w u.reasons.0 s) u)) g

pub end_steps : (old new : PlainCore) (x : ℕ) (b : Bool) (flows : Flows) → HasFlows flows old new → OnTop (task.End x) old.agenda
    → new.agenda ≡ after_end (get nat_cmp old.pairs x) old.agenda → GivesUp x cause.Done old.flows b flows → Stepped old (doom_of b x cause.Done) new
end_steps old new x b flows e top ea gives = record {
  spelled = doom_spelled b x cause.Done;
  silent = doom_silent b x cause.Done;
  goes = λ limits h g. end_good limits old new x b flows h e top ea gives g;
  well = cc;
}

early_good : (limits : PlainLimits) (old new : PlainCore) (x : ℕ) (b : Bool) (flows : Flows) (h : Past) → HasFlows flows old new
    → OnTop (task.EarlyEnd x) old.agenda → new.agenda ≡ drop 1 old.agenda → GivesUp x cause.EarlyEnd old.flows b flows → Good limits old h
    → Good limits new (onto (doom_of b x cause.EarlyEnd) h)
early_good limits old new x true flows h e top ea gives g =
    let k = Noted (note.Doom x cause.EarlyEnd) ∷ h in
    let A : Agenda → Type 0 = λ v. Underway limits old.pairs v h in
    let u : Underway limits old.pairs (task.EarlyEnd x ∷ drop 1 old.agenda) h = rw (← top_is (task.EarlyEnd x) old.agenda top) g.underway in
    let is : Alive h x = sym (gives.is.0.goes limits h g.flows) in
    let why = u.reasons.0 in
    good_of limits old new h k (only_moves old new flows e) refl (λ y. refl) (rw (flows_are old new flows e) (gives.is.1.goes limits h g.flows is))
    (early_pair_step limits why.first x h g.flows.lawful (unswept_at old.agenda (task.EarlyEnd x) h top g.underway.unswept) is why.paired why.ended.framed why.ended.here)
    (rw ea (underway_early limits old.pairs x (drop 1 old.agenda) h k (doom_leaves_work limits x cause.EarlyEnd h) (λ y l. (has_left (live h) x y l).1)
    (λ y l m. doom_moves limits x y cause.EarlyEnd h g.flows.lawful l m) u)) g
early_good limits old new x false flows h e top ea gives g =
    let A : Agenda → Type 0 = λ v. Underway limits old.pairs v h in
    let u : Underway limits old.pairs (task.EarlyEnd x ∷ drop 1 old.agenda) h = rw (← top_is (task.EarlyEnd x) old.agenda top) g.underway in
    let dead : has (live h) x ≡ false = sym (gives.is.0.goes limits h g.flows) in
    good_of limits old new h h (only_moves old new flows e) refl (λ y. refl) (rw (flows_are old new flows e ∙ gives.is.1) g.flows.stands) g.flows.lawful
    (rw ea (underway_early limits old.pairs x (drop 1 old.agenda) h h (leaves_same limits h) (λ y l. not_live (live h) x y dead l) (λ y l m. m) u)) g

pub early_steps : (old new : PlainCore) (x : ℕ) (b : Bool) (flows : Flows) → HasFlows flows old new → OnTop (task.EarlyEnd x) old.agenda
    → new.agenda ≡ drop 1 old.agenda → GivesUp x cause.EarlyEnd old.flows b flows → Stepped old (doom_of b x cause.EarlyEnd) new
early_steps old new x b flows e top ea gives = record {
  spelled = doom_spelled b x cause.EarlyEnd;
  silent = doom_silent b x cause.EarlyEnd;
  goes = λ limits h g. early_good limits old new x b flows h e top ea gives g;
  well = cc;
}

-- ---- the measure
next_weight : (p : Option ℕ) (a : Agenda) → sum_by weight (pair_next p a) ≤ 1 + sum_by weight a
next_weight None a = omega arith
next_weight (Some y) a = let e = sum_by-cons weight (task.EarlyEnd y) a in omega (arith, e)

module _ (old new : PlainCore) (x : ℕ) (flows : Flows) where
  pub end_less : HasFlows flows old new → OnTop (task.End x) old.agenda
      → new.agenda ≡ after_end (get nat_cmp old.pairs x) old.agenda → left_in flows ≤ left_in old.flows → to_go new < to_go old
  end_less e top ea n =
      let w = weight_top (task.End x) old.agenda top in
      let b = ap (sum_by weight) (ea ∙ after_is (get nat_cmp old.pairs x) old.agenda) in
      let t = next_weight (get nat_cmp old.pairs x) (drop 1 old.agenda) in
      let l = ap left_in (flows_are old new flows e) in
      omega (arith, n, w, b, t, l)

  pub early_less : HasFlows flows old new → OnTop (task.EarlyEnd x) old.agenda
      → new.agenda ≡ drop 1 old.agenda → left_in flows ≤ left_in old.flows → to_go new < to_go old
  early_less e top ea n =
      let w = weight_top (task.EarlyEnd x) old.agenda top in
      let b = ap (sum_by weight) ea in
      let l = ap left_in (flows_are old new flows e) in
      omega (arith, n, w, b, l)

-- ---- what the functions answer
flows_agenda : (old mid new : PlainCore) → mid ≡ record old { flows = mid.flows } → new ≡ record mid { agenda = new.agenda } → new ≡ record old { flows = mid.flows; agenda = new.agenda }
flows_agenda old mid new e f = cc

module _ (old mid new : PlainCore) (before after : List Note) (x : ℕ) (b : Bool) (r : Written) where
  pub end_result : mid ≡ record old { flows = mid.flows } → new ≡ record mid { agenda = new.agenda }
      → new.agenda ≡ after_end (get nat_cmp mid.pairs x) mid.agenda → OnTop (task.End x) old.agenda → GivesUp x cause.Done old.flows b mid.flows → left_in mid.flows ≤ left_in old.flows
      → AppendsNotes before (doom_of b x cause.Done) after r → (OnOk r (Keeps old before new after)) × Cuts old before after × (to_go new < to_go old)
  end_result e f na top gives n a =
      let all = flows_agenda old mid new e f in
      let agenda = na ∙ ap (λ (v : PlainCore). after_end (get nat_cmp v.pairs x) v.agenda) e in
      let s = end_steps old new x b mid.flows all top agenda gives in
      (keeps_result old new before (doom_of b x cause.Done) after r a s, cuts_result old new before (doom_of b x cause.Done) after r a s, end_less old new x mid.flows all top agenda n)

  pub early_result : mid ≡ record old { flows = mid.flows } → new ≡ record mid { agenda = new.agenda }
      → new.agenda ≡ drop 1 mid.agenda → OnTop (task.EarlyEnd x) old.agenda → GivesUp x cause.EarlyEnd old.flows b mid.flows → left_in mid.flows ≤ left_in old.flows
      → AppendsNotes before (doom_of b x cause.EarlyEnd) after r → (OnOk r (Keeps old before new after)) × Cuts old before after × (to_go new < to_go old)
  early_result e f na top gives n a =
      let all = flows_agenda old mid new e f in
      let agenda = na ∙ ap (λ (v : PlainCore). drop 1 v.agenda) e in
      let s = early_steps old new x b mid.flows all top agenda gives in
      (keeps_result old new before (doom_of b x cause.EarlyEnd) after r a s, cuts_result old new before (doom_of b x cause.EarlyEnd) after r a s, early_less old new x mid.flows all top agenda n)

pub on_ok : {A : Type 0} (r : Written) → A → OnOk r A
on_ok (Ok u) a = a
on_ok (Err e) a = tt
