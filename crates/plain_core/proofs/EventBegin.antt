-- A stream begins.
use Rattle.plain_laws.proofs.Unswept.{begin_unswept}
use Rattle.plain_laws.proofs.Counts.{begin_count}
use Rattle.plain_laws.proofs.EventChanges.{begin_keeps, begin_keeps_write, begin_live, begin_must, begin_paired, begin_turns}
use Rattle.plain_laws.proofs.EventSteps.{begin_step}
use Rattle.plain_laws.proofs.Followings.{begin_above}
use Rattle.plain_laws.proofs.Quiets.{rests_told}
use Rattle.plain_laws.proofs.Streams.{by_case, has_was, own_or_other}
use Rattle.plain_laws.specs.Regular.{IsUnborn}
use Rattle.plain_laws.specs.StepNotes.{begin_notes as step_notes}
use Rattle.std.proofs.Common.{arith, inl, inr, refl, subst, sym, ◌∙◌}
use Rattle.std.specs.List.{AllByRecursion}
use Rattle.std.specs.Prelude.{Bool, [], false, true, ℕ, ◌++◌, ◌+◌, ◌<◌, ◌∷◌, ◌≡◌, ◌≤◌}
use Rattle.plain_laws.specs.Words.{Past, Alive}
use Rattle.tape_laws.specs.Dispatches.{events_back, has, live, started}
use Rattle.tape_laws.specs.Following.{MayFollowEvent, may_follow}
use Rattle.tape_laws.specs.History.{onto}
use Rattle.tape_laws.specs.PlainSession.{plain_must_end}
use Rattle.tape_laws.specs.declared.PlainLimits.{PlainLimits}
use Rattle.plain_core.proofs.EventOpens.{IsOpened, good_of, pairs_kept, turn_number, underway_round}
use Rattle.plain_core.proofs.Fronts.{NoTurn, Opened}
use Rattle.plain_core.proofs.Rested.{at_rest, may_not, may_same, rest_still, rest_unended}
use Rattle.plain_core.specs.Carries.{Begins, may_move}
use Rattle.plain_core.specs.Noting.{begin_notes, turn_note}
use Rattle.plain_core.specs.Runs.{AreSpelled}
use Rattle.plain_core.specs.Stands.{Good, Rests}
use Rattle.plain_core.specs.declared.flows.Flows.{Flows}
use Rattle.plain_core.specs.declared.plain.PlainCore.{PlainCore}
use Rattle.flow_notes.specs.declared.events.Event.TheVariants as event
use Rattle.flow_notes.specs.declared.events.PlainEvent.TheVariants as plain
use Rattle.plain_core.specs.declared.agenda.Task.TheVariants as task

less_itself : (x : ℕ) → x < x → ⊥
less_itself x e = omega (arith, e)

-- a stream that may begin wasn't started
unstarted : (limits : PlainLimits) (core : PlainCore) (x : ℕ) (h : Past) → Rests limits core h → may_follow (events_back h) (plain.Begin x) ≡ true → has (started h) x ≡ false
unstarted limits core x h r m = by_case (has (started h) x) (λ t. absurd (less_itself x (begin_above limits x h r.good.flows.lawful.regular m x t))) (λ f. f)

above_none : (last x : ℕ) → last ≡ 0 → 1 ≤ x → last < x
above_none last x e some = omega (arith, e, some)

some_number : (x : ℕ) → 1 ≤ x → 0 < x
some_number x some = omega (arith, some)

-- it is above the last one
pub begin_rises : (limits : PlainLimits) (core : PlainCore) (x : ℕ) (h : Past) → Rests limits core h → MayFollowEvent (events_back h) (event.Plain (plain.Begin x)) → core.flows.exchanges.last < x
begin_rises limits core x h r m =
    elim r.good.flows.stands.exchanges.last as (λ s. core.flows.exchanges.last < x) [
      | inl e ↦ above_none core.flows.exchanges.last x e m.0.0
      | inr t ↦ begin_above limits x h r.good.flows.lawful.regular m.2 core.flows.exchanges.last t
    ]

spelled : (x : ℕ) (held : Bool) → AreSpelled (begin_notes x held)
spelled x true = (tt, (tt, tt))
spelled x false = (tt, tt)

silent : (x : ℕ) (held : Bool) → AllByRecursion NoTurn (begin_notes x held)
silent x true = (record { events = λ h. refl }, (record { events = λ h. refl }, tt))
silent x false = (record { events = λ h. refl }, tt)

module _ (limits : PlainLimits) (core : PlainCore) (k x y : ℕ) (h : Past) where
  still : Rests limits core h → IsUnborn limits x h → has (live h ++ x ∷ []) y ≡ true
      → may_move limits y (onto (step_notes limits k x h) h) ≡ false
  still r unborn is =
      own_or_other (λ z. may_move limits z (onto (step_notes limits k x h) h) ≡ false) x y (may_not limits x (onto (step_notes limits k x h) h) ((begin_keeps limits k x h x).recv ∙ unborn.recv))
      (λ d. may_same limits y h (onto (step_notes limits k x h) h) (begin_count limits k x y h d) (begin_keeps limits k x h y).recv ∙ rest_still limits core y h r (has_was (live h) x y is d))

  unended : Rests limits core h → IsUnborn limits x h → has (live h ++ x ∷ []) y ≡ true
      → plain_must_end y (onto (step_notes limits k x h) h) ≡ false
  unended r unborn is =
      begin_must limits k x h y ∙ own_or_other (λ z. plain_must_end z h ≡ false) x y unborn.may_live (λ d. rest_unended limits core y h r (has_was (live h) x y is d))

pub begin_opened : (old new : PlainCore) (x k : ℕ) (held : Bool) (f : Flows) → IsOpened old f old.pairs (task.Round ∷ old.agenda) new → Begins x held old.flows f → k ≡ old.turn + 1
    → Opened old k (plain.Begin x) (begin_notes x held) new
begin_opened old new x k held f o b ek = record {
  number = omega (arith, ek);
  spelled = λ i. spelled x held;
  silent = silent x held;
  goes = λ limits h r m.
      let n = turn_number limits old k h r ek in
      let rest = at_rest limits old h r in
      let not_yet = unstarted limits old x h r m.2 in
      let unborn = r.good.flows.lawful.regular.books.unborn x not_yet in
      let s = b.goes limits k h r.good.flows not_yet in
      let is_live : (y : ℕ) → Alive (onto (step_notes limits k x h) h) y → has (live h ++ x ∷ []) y ≡ true =
      λ y is. cc (begin_live limits k x h) in
      subst (λ (v : Bool). Good limits new (onto (turn_note k (plain.Begin x) ∷ begin_notes x v) h)) (sym s.held)
      (good_of limits old new f old.pairs (task.Round ∷ old.agenda) (task.Round ∷ []) h (onto (step_notes limits k x h) h) o r (λ e. cc)
      s.stands (begin_step limits k x h rest n (some_number x m.0.0) m.2) (begin_turns limits k x h) (pairs_kept limits old h (onto (step_notes limits k x h) h) r (begin_paired limits k x h))
      (underway_round limits old.pairs _ (λ y is. still limits old k x y h r unborn (is_live y is)) ((begin_keeps_write limits k x h).lows ∙ rests_told limits h rest)
      (λ y is. unended limits old k x y h r unborn (is_live y is)) (begin_unswept limits k x h)));
  well = o.failed;
}
