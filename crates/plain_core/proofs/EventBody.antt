-- Octets of a stream come.
use Rattle.std.proofs.lemmas.Bool.{or_left}
use Rattle.flow_notes.specs.declared.events.PlainEvent.{PlainEvent}
use Rattle.plain_laws.proofs.EventChanges.{body_keeps, body_keeps_write, cut_keeps, over_keeps}
use Rattle.plain_laws.proofs.EventSteps.{body_late_step, body_step, cut_late_step, cut_step, finish_step, over_step}
use Rattle.plain_laws.proofs.Followings.{body_flowing, finish_flowing}
use Rattle.plain_laws.proofs.Quiets.{rests_told}
use Rattle.plain_laws.proofs.Streams.{apart_from, by_case, differs_back, has_left, not_both, same_request}
use Rattle.std.proofs.Common.{arith, inl, refl, sym, ◌∙◌}
use Rattle.std.specs.List.{list_any}
use Rattle.std.specs.Prelude.{Bool, List, [], false, length, true, ℕ, ◌+◌, ◌==◌, ◌∷◌, ◌≡◌}
use Rattle.plain_laws.specs.Words.{Past, Alive, conn_lows}
use Rattle.tape_laws.specs.Dispatches.{events_back, has, live}
use Rattle.tape_laws.specs.Flows.{request, same_flow}
use Rattle.tape_laws.specs.Following.{MayFollowEvent}
use Rattle.tape_laws.specs.History.{Noted}
use Rattle.tape_laws.specs.Plain.{plain_ended}
use Rattle.tape_laws.specs.declared.PlainLimits.{PlainLimits}
use Rattle.plain_core.proofs.EventOpens.{IsOpened, good_of, pairs_kept, turn_number, underway_of, underway_round}
use Rattle.plain_core.proofs.Fronts.{Opened}
use Rattle.plain_core.proofs.Rested.{at_rest, may_same, rest_still, rest_unended}
use Rattle.plain_core.proofs.TurnStands.{turn_stands, turned}
use Rattle.plain_core.specs.Agenda.{is_run_of, with_run}
use Rattle.plain_core.specs.Carries.{Arrives, Ends, Fits, GivesUp, GoesOn, IsOverrunBy, Lives}
use Rattle.plain_core.specs.Flows.{Settled}
use Rattle.plain_core.specs.Noting.{doom_of}
use Rattle.plain_core.specs.Stands.{Rests}
use Rattle.plain_core.specs.declared.flows.Flows.{Flows}
use Rattle.plain_core.specs.declared.plain.PlainCore.{PlainCore}
use Rattle.flow_notes.specs.declared.events.Event.TheVariants as event
use Rattle.flow_notes.specs.declared.events.PlainEvent.TheVariants as plain
use Rattle.flow_rules.specs.declared.causes.Cause.TheVariants as cause
use Rattle.flow_notes.specs.declared.notes.Note.TheVariants as note
use Rattle.plain_core.specs.declared.agenda.Task.TheVariants as task
use Rattle.plain_laws.proofs.Streams.{number_is as eq_of}

-- ---- what is seen
module _ (limits : PlainLimits) (flows : Flows) (x : ℕ) (h : Past) where
  pub lives_at : Lives flows x true → Settled limits flows h → Alive h x
  lives_at l s = sym (l.goes limits h s)

  pub dead_at : Lives flows x false → Settled limits flows h → has (live h) x ≡ false
  dead_at l s = sym (l.goes limits h s)

  -- a live stream whose end hasn't come
  goes_on_at : Settled limits flows h → Alive h x → plain_ended x h ≡ false → GoesOn flows x
  goes_on_at s is e =
      let i = s.stands.exchanges.there x is in
      rw i.is (i.ended ∙ e)

-- the end of a stream hasn't come where octets may, if it is live
module _ (limits : PlainLimits) (core : PlainCore) where
  pub body_goes_on : (x : ℕ) (octets : List ℕ) (h : Past) → Rests limits core h
      → MayFollowEvent (events_back h) (event.Plain (plain.Body x octets)) → GoesOn core.flows x
  body_goes_on x octets h r m =
      by_case (has (live h) x)
      (λ is. goes_on_at limits core.flows x h r.good.flows is (body_flowing limits x octets h r.good.flows.lawful.regular m.2).goes_on)
      (λ d. rw (r.good.flows.stands.exchanges.gone x d) tt)

  pub finish_goes_on : (x : ℕ) (h : Past) → Rests limits core h → Lives core.flows x true
      → MayFollowEvent (events_back h) (event.Plain (plain.Finish x)) → GoesOn core.flows x
  finish_goes_on x h r l m =
      goes_on_at limits core.flows x h r.good.flows (lives_at limits core.flows x h l r.good.flows) (finish_flowing limits x h r.good.flows.lawful.regular m.2).goes_on

  -- ---- a turn note alone
  -- nothing is told after a turn note at rest
  told_none : (k : ℕ) (e : PlainEvent) (h : Past) → Rests limits core h
      → conn_lows limits (turned k e ∷ h) ≡ []
  told_none k e h r = rests_told limits h (at_rest limits core h r)

pub late_opened : (old new : PlainCore) (x k : ℕ) (octets : List ℕ) → IsOpened old old.flows old.pairs (task.Round ∷ old.agenda) new → Lives old.flows x false → k ≡ old.turn + 1
    → Opened old k (plain.Body x octets) [] new
late_opened old new x k octets o l ek = record {
  number = omega (arith, ek);
  spelled = λ i. tt;
  silent = tt;
  goes = λ limits h r m.
      let is = dead_at limits old.flows x h l r.good.flows in
      good_of limits old new old.flows old.pairs (task.Round ∷ old.agenda) (task.Round ∷ []) h (turned k (plain.Body x octets) ∷ h) o r (λ e. cc)
      (turn_stands limits k (plain.Body x octets) h old.flows (λ y e. refl) r.good.flows.stands)
      (body_late_step limits k x octets h (at_rest limits old h r) (turn_number limits old k h r ek) m.2 is) refl (pairs_kept limits old h (turned k (plain.Body x octets) ∷ h) r (λ y. refl))
      (underway_round limits old.pairs _ (λ y e. rest_still limits old y h r e) (told_none limits old k (plain.Body x octets) h r) (λ y e. rest_unended limits old y h r e) refl);
  well = o.failed;
}

-- the end of a stream that isn't live any more
pub late_finished : (old new : PlainCore) (x k : ℕ) → IsOpened old old.flows old.pairs (task.Round ∷ old.agenda) new → Lives old.flows x false → k ≡ old.turn + 1 → Opened old k (plain.Finish x) [] new
late_finished old new x k o l ek = record {
  number = omega (arith, ek);
  spelled = λ i. tt;
  silent = tt;
  goes = λ limits h r m.
      let is = dead_at limits old.flows x h l r.good.flows in
      good_of limits old new old.flows old.pairs (task.Round ∷ old.agenda) (task.Round ∷ []) h (turned k (plain.Finish x) ∷ h) o r (λ e. cc)
      (turn_stands limits k (plain.Finish x) h old.flows (λ y e. cc (differs_back y x (apart_from (live h) y x e is))) r.good.flows.stands)
      (finish_step limits k x h (at_rest limits old h r) (turn_number limits old k h r ek) m.2) refl (pairs_kept limits old h (turned k (plain.Finish x) ∷ h) r (λ y. refl))
      (underway_round limits old.pairs _ (λ y e. rest_still limits old y h r e) (told_none limits old k (plain.Finish x) h r) (λ y e. rest_unended limits old y h r e) refl);
  well = o.failed;
}

-- ---- its flow is run
run_own : (x : ℕ) → list_any (is_run_of (request x)) (task.Run (request x) ∷ task.Round ∷ []) ≡ true
run_own x = or_left (same_flow (request x) (request x)) false (same_request x)

pub arrive_opened : (old new : PlainCore) (x k : ℕ) (octets : List ℕ) (f : Flows) → IsOpened old f old.pairs (with_run (request x) (task.Round ∷ old.agenda)) new → Lives old.flows x true
    → Fits old.flows x (length octets) true → Arrives x octets old.flows f → k ≡ old.turn + 1 → Opened old k (plain.Body x octets) (note.Arrive (request x) octets ∷ []) new
arrive_opened old new x k octets f o l fits a ek = record {
  number = omega (arith, ek);
  spelled = λ i. (i.1.0, tt);
  silent = (record { events = λ h. refl }, tt);
  goes = λ limits h r m.
      let is = lives_at limits old.flows x h l r.good.flows in
      let rest = at_rest limits old h r in
      let agenda = task.Run (request x) ∷ task.Round ∷ [] in
      good_of limits old new f old.pairs (with_run (request x) (task.Round ∷ old.agenda)) agenda h (Noted (note.Arrive (request x) octets) ∷ turned k (plain.Body x octets) ∷ h) o r
      (λ e. cc)
      (a.goes limits k h r.good.flows is)
      (body_step limits k x octets h rest (turn_number limits old k h r ek) is m.0.1.0 (fits.yes limits h r.good.flows is refl)) refl (pairs_kept limits old h (Noted (note.Arrive (request x) octets) ∷ turned k (plain.Body x octets) ∷ h) r (λ y. refl))
      (underway_of limits old.pairs agenda _
      (λ y e t. by_case (x == y) (λ s. rw (← eq_of x y s) (run_own x))
      (λ d. not_both _ t (may_same limits y h (Noted (note.Arrive (request x) octets) ∷ turned k (plain.Body x octets) ∷ h) refl (body_keeps limits k x y octets h d).recv ∙ rest_still limits old y h r e)))
      (inl ((body_keeps_write limits k x octets h).lows ∙ rests_told limits h rest)) (λ y e. rest_unended limits old y h r e) (tt, (tt, tt)) refl refl);
  well = o.failed;
}

module _ (old new : PlainCore) (x k : ℕ) where
  pub finish_opened : (f : Flows) → IsOpened old f old.pairs (with_run (request x) (task.Round ∷ old.agenda)) new → Lives old.flows x true
      → Ends x old.flows f → k ≡ old.turn + 1 → Opened old k (plain.Finish x) [] new
  finish_opened f o l a ek = record {
    number = omega (arith, ek);
    spelled = λ i. tt;
    silent = tt;
    goes = λ limits h r m.
        let is = lives_at limits old.flows x h l r.good.flows in
        let agenda = task.Run (request x) ∷ task.Round ∷ [] in
        good_of limits old new f old.pairs (with_run (request x) (task.Round ∷ old.agenda)) agenda h (turned k (plain.Finish x) ∷ h) o r (λ e. cc)
        (a.goes limits k h r.good.flows is)
        (finish_step limits k x h (at_rest limits old h r) (turn_number limits old k h r ek) m.2) refl (pairs_kept limits old h (turned k (plain.Finish x) ∷ h) r (λ y. refl))
        (underway_of limits old.pairs agenda _ (λ y e t. not_both _ t (rest_still limits old y h r e)) (inl (told_none limits old k (plain.Finish x) h r)) (λ y e. rest_unended limits old y h r e)
        (tt, (tt, tt)) refl refl);
    well = o.failed;
  }

  -- ---- it is doomed
  pub over_opened : (octets : List ℕ) (b : Bool) (f : Flows) → IsOpened old f old.pairs (task.Round ∷ old.agenda) new → Lives old.flows x true
      → Fits old.flows x (length octets) false → GivesUp x (cause.StreamError 3) old.flows b f → k ≡ old.turn + 1 → Opened old k (plain.Body x octets) (doom_of b x (cause.StreamError 3)) new
  over_opened octets false f o l fits g ek = record {
    number = omega (arith, ek);
    spelled = λ i. tt;
    silent = tt;
    goes = λ limits h r m. not_both _ (lives_at limits old.flows x h l r.good.flows) (dead_at limits old.flows x h g.is.0 r.good.flows);
    well = o.failed;
  }
  over_opened octets true f o l fits g ek = record {
    number = omega (arith, ek);
    spelled = λ i. (tt, tt);
    silent = (record { events = λ h. refl }, tt);
    goes = λ limits h r m.
        let is = lives_at limits old.flows x h l r.good.flows in
        let e = plain.Body x octets in
        good_of limits old new f old.pairs (task.Round ∷ old.agenda) (task.Round ∷ []) h (Noted (note.Doom x (cause.StreamError 3)) ∷ turned k e ∷ h) o r (λ e. cc)
        (g.is.1.turned limits k e h r.good.flows is (turn_stands limits k e h old.flows (λ y e. refl) r.good.flows.stands))
        (over_step limits k x octets h (at_rest limits old h r) (turn_number limits old k h r ek) is (fits.no limits h r.good.flows is refl)) refl (pairs_kept limits old h (Noted (note.Doom x (cause.StreamError 3)) ∷ turned k e ∷ h) r (λ y. refl))
        (underway_round limits old.pairs _
        (λ y t. let k2 = has_left (live h) x y t in may_same limits y h (Noted (note.Doom x (cause.StreamError 3)) ∷ turned k e ∷ h) refl (over_keeps limits k x y octets h r.good.flows.lawful k2.1).recv
        ∙ rest_still limits old y h r k2.0)
        (cc (told_none limits old k e h r)) (λ y t. rest_unended limits old y h r (has_left (live h) x y t).0) refl);
    well = o.failed;
  }

  pub over_any : (e : PlainEvent) (b : Bool) (f : Flows) → IsOpened old f old.pairs (task.Round ∷ old.agenda) new → Lives old.flows x true → IsOverrunBy old.flows x e
      → GivesUp x (cause.StreamError 3) old.flows b f → k ≡ old.turn + 1 → Opened old k e (doom_of b x (cause.StreamError 3)) new
  over_any (plain.Body y octets) b f o l over g ek =
      rw over.0 (over_opened octets b f o l over.1 g ek)
  over_any (plain.Begin y) b f o l over g ek = absurd over
  over_any (plain.Pair y z) b f o l over g ek = absurd over
  over_any (plain.Finish y) b f o l over g ek = absurd over
  over_any (plain.Cut y) b f o l over g ek = absurd over
  over_any (plain.Room n) b f o l over g ek = absurd over

pub cut_opened : (old new : PlainCore) (x k : ℕ) (b : Bool) (f : Flows) → IsOpened old f old.pairs (task.Round ∷ old.agenda) new → GivesUp x (cause.PeerReset 8) old.flows b f → k ≡ old.turn + 1
    → Opened old k (plain.Cut x) (doom_of b x (cause.PeerReset 8)) new
cut_opened old new x k false f o g ek = record {
  number = omega (arith, ek);
  spelled = λ i. tt;
  silent = tt;
  goes = λ limits h r m.
      let is = dead_at limits old.flows x h g.is.0 r.good.flows in
      good_of limits old new f old.pairs (task.Round ∷ old.agenda) (task.Round ∷ []) h (turned k (plain.Cut x) ∷ h) o r (λ e. cc)
      (rw g.is.1 (turn_stands limits k (plain.Cut x) h old.flows (λ y e. refl) r.good.flows.stands))
      (cut_late_step limits k x h (at_rest limits old h r) (turn_number limits old k h r ek) is) refl (pairs_kept limits old h (turned k (plain.Cut x) ∷ h) r (λ y. refl))
      (underway_round limits old.pairs _ (λ y e. rest_still limits old y h r e) (told_none limits old k (plain.Cut x) h r) (λ y e. rest_unended limits old y h r e) refl);
  well = o.failed;
}
cut_opened old new x k true f o g ek = record {
  number = omega (arith, ek);
  spelled = λ i. (tt, tt);
  silent = (record { events = λ h. refl }, tt);
  goes = λ limits h r m.
      let is = lives_at limits old.flows x h g.is.0 r.good.flows in
      let e = plain.Cut x in
      good_of limits old new f old.pairs (task.Round ∷ old.agenda) (task.Round ∷ []) h (Noted (note.Doom x (cause.PeerReset 8)) ∷ turned k e ∷ h) o r (λ e. cc)
      (g.is.1.turned limits k e h r.good.flows is (turn_stands limits k e h old.flows (λ y e. refl) r.good.flows.stands))
      (cut_step limits k x h (at_rest limits old h r) (turn_number limits old k h r ek) is) refl (pairs_kept limits old h (Noted (note.Doom x (cause.PeerReset 8)) ∷ turned k e ∷ h) r (λ y. refl))
      (underway_round limits old.pairs _
      (λ y t. let k2 = has_left (live h) x y t in may_same limits y h (Noted (note.Doom x (cause.PeerReset 8)) ∷ turned k e ∷ h) refl (cut_keeps limits k x y h r.good.flows.lawful k2.1).recv
      ∙ rest_still limits old y h r k2.0)
      (cc (told_none limits old k e h r)) (λ y t. rest_unended limits old y h r (has_left (live h) x y t).0) refl);
  well = o.failed;
}
