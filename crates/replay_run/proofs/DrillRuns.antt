-- A drill, event by event.
use Rattle.flow_notes.specs.declared.events.Event.{Event}
use Rattle.flow_notes.specs.declared.notes.Note.{Note}
use Rattle.io_ports.specs.declared.octets.NoMemory.{NoMemory}
use Rattle.replay_run.proofs.DrillFollows.{drill_follows}
use Rattle.plain_laws.proofs.Headlines.{headline_of}
use Rattle.replay_run.proofs.Tallying.{tally_spelled}
use Rattle.replay_run.specs.DrillEvents.{drill, drill_limits}
use Rattle.replay_run.specs.Drill.{DrillIs, Yields}
use Rattle.replay_run.specs.ReplayDrill.{CountsEvent, Drilled, IsDrillSummary, TalliesDrill}
use Rattle.replay_run.specs.GoingOn.{MayGoOn}
use Rattle.replay_run.specs.Tally.{TallyGoes, TallyIs, tally_text}
use Rattle.replay_run.specs.declared.drill.Drill.{Drill}
use Rattle.replay_run.specs.declared.tally.Tally.{Tally}
use Rattle.std.proofs.Common.{ap, append_assoc, arith, refl, subst, sym, ◌∙◌}
use Rattle.std.proofs.lemmas.List.{append-nil, reverse-append, reverse-reverse}
use Rattle.std.specs.Prelude.{Err, List, None, Ok, OnOk, Option, Result, Some, [], reverse, ℕ, ◌++◌, ◌∷◌, ◌≡◌, ◌≤◌}
use Rattle.tape_laws.specs.Dispatches.{events_back}
use Rattle.tape_laws.specs.Following.{MayFollowAll}
use Rattle.tape_laws.specs.History.{onto}
use Rattle.tape_laws.specs.declared.PlainLimits.{PlainLimits}
use Rattle.plain_core.specs.Flows.{AreLimits}
use Rattle.plain_core.specs.Runs.{Turns}
use Rattle.plain_core.specs.Stands.{CanTake, Rests}
use Rattle.plain_core.specs.declared.plain.PlainCore.{PlainCore}

pub drilled_none : (n : ℕ) (core : PlainCore) (d : Drill) (t : Tally) → n ≤ 1000 → Rests drill_limits core [] → DrillIs d (drill n) → ((limits : PlainLimits) → TallyIs limits t []) → Drilled n core d t
drilled_none n core d t few r k tally = record {
  history = [];
  later = drill n;
  rests = r;
  left = k;
  tally = tally drill_limits;
  split = refl;
  before = tt;
  goes = drill_follows n few;
}

-- the event that comes next may be taken
pub may_take : (n : ℕ) (core : PlainCore) (old new : Drill) (t : Tally) (e : Event) → Drilled n core old t → Yields old (Some e) new → CanTake core e []
may_take n core old new t e k y =
    let g = y.goes k.later k.left in
    let P : List Event → Type 0 = λ v. MayGoOn (events_back k.history) v in
    let may = subst P g.1 k.goes in
    record { limits = drill_limits; history = k.history; rests = k.rests; follows = (may.0, k.before) }

-- it was dispatched, and its notes were counted
pub event_counted : (core after : PlainCore) (t counted : Tally) (e : Event) (before notes : List Note) (r : Result (Unit {0}) NoMemory) → before ≡ [] → Turns core before e after notes → OnOk r (TallyGoes t notes counted)
    → OnOk r (CountsEvent core t e after counted)
event_counted core after t counted e before notes (Ok done) none turns tallied =
    let P : List Note → Type 0 = λ v. Turns core v e after notes in
    record { notes = notes; turns = subst P none turns; tally = tallied }
event_counted core after t counted e before notes (Err x) none turns tallied = tt

pub drilled_more : (n : ℕ) (core after : PlainCore) (old new : Drill) (t counted : Tally) (e : Event) → Drilled n core old t → Yields old (Some e) new → CountsEvent core t e after counted → Drilled n after new counted
drilled_more n core after old new t counted e k y c =
    let g = y.goes k.later k.left in
    let notes = c.notes in
    let shows : events_back (onto notes k.history) ≡ e ∷ events_back k.history = c.turns.shows k.history in
    let P : List Event → Type 0 = λ v. MayGoOn (events_back k.history) v in
    let may = subst P g.1 k.goes in
    let rests : Rests drill_limits after (onto notes k.history) = c.turns.goes drill_limits k.history k.rests (may.0, k.before) in
    let G : List Event → Type 0 = λ v. MayGoOn v g.0 in
    let B : List Event → Type 0 = λ v. MayFollowAll v in
    record {
      history = onto notes k.history;
      later = g.0;
      rests = rests;
      left = g.2;
      tally = c.tally.goes drill_limits k.history rests.whole.lawful k.tally;
      split =
          ap (λ (v : List Event). reverse v ++ g.0) shows
          ∙ ap (λ (v : List Event). v ++ g.0) (reverse-append (e ∷ []) (events_back k.history))
          ∙ append_assoc (reverse (events_back k.history)) (e ∷ []) g.0
          ∙ ap (λ (v : List Event). reverse (events_back k.history) ++ v) (sym g.1)
          ∙ k.split;
      before = subst B (sym shows) (may.0, k.before);
      goes = subst G (sym shows) may.1;
    }

reversed : (xs ys : List Event) → reverse xs ≡ ys → xs ≡ reverse ys
reversed xs ys e = sym (reverse-reverse xs) ∙ ap reverse e

pub drill_tallied : (n : ℕ) (core : PlainCore) (old new : Drill) (t : Tally) → Drilled n core old t → Yields old None new → TalliesDrill n t
drill_tallied n core old new t k y =
    let g = y.goes k.later k.left in
    record {
      history = k.history;
      tape = record {
        whole = k.rests.whole;
        events = reversed (events_back k.history) (drill n) (sym (append-nil (reverse (events_back k.history))) ∙ ap (λ (v : List Event). reverse (events_back k.history) ++ v) (sym g.0) ∙ k.split);
      };
      tally = k.tally;
    }

drill_summed : (n : ℕ) (t : Tally) (text : List ℕ) → TalliesDrill n t → text ≡ tally_text t → IsDrillSummary n text
drill_summed n t text k e = record {
  history = k.history;
  tape = k.tape;
  headline = headline_of drill_limits k.history k.tape.whole;
  is = e ∙ tally_spelled drill_limits t k.history k.tally;
}

-- into a text that was empty
pub drill_spelled : (n : ℕ) (t : Tally) (old new : List ℕ) → TalliesDrill n t → old ≡ [] → new ≡ old ++ tally_text t → IsDrillSummary n new
drill_spelled n t old new k none e = drill_summed n t new k (e ∙ ap (λ (v : List ℕ). v ++ tally_text t) none)

-- ---- by what was given

pub given_some : (old new : Drill) (given : Option Event) (e : Event) → Yields old given new → given ≡ Some e → Yields old (Some e) new
given_some old new given e y is = let P : Option Event → Type 0 = λ v. Yields old v new in subst P is y

pub given_none : (old new : Drill) (given : Option Event) → Yields old given new → ((e : Event) → given ≡ Some e → ⊥) → Yields old None new
given_none old new None y none = y
given_none old new (Some e) y none = absurd (none e refl)

pub drill_fits : AreLimits drill_limits
drill_fits = record { recv = omega arith; send = omega arith; write = omega arith; quantum = (omega arith, omega arith) }
