-- The same event by other names, and what the event functions ask of the flows.
use Rattle.exchange_core.specs.declared.step.Received.{Received}
use Rattle.flow_notes.specs.declared.events.Event.{Event}
use Rattle.flow_notes.specs.declared.events.PlainEvent.{PlainEvent}
use Rattle.flow_notes.specs.declared.notes.Note.{Note}
use Rattle.std.proofs.Common.{ap, refl, subst, sym, ◌∙◌}
use Rattle.std.specs.Prelude.{Bool, List, OnOk, [], false, length, true, ℕ, ◌+◌, ◌∷◌, ◌≡◌}
use Rattle.tape_laws.specs.Dispatches.{events_back}
use Rattle.tape_laws.specs.Following.{MayFollowEvent}
use Rattle.tape_laws.specs.History.{onto}
use Rattle.plain_core.proofs.EventBody.{body_goes_on, finish_goes_on, late_opened}
use Rattle.plain_core.proofs.EventOpens.{IsOpened, lives_is}
use Rattle.plain_core.proofs.Fronts.{Opened, event_is, opens_result, turn_result}
use Rattle.plain_core.specs.Carries.{Fits, GoesOn, IsOverrun, Lives, Receives, ReceivesAs}
use Rattle.plain_core.specs.Noting.{AppendsNotes, turn_note}
use Rattle.plain_core.specs.Runs.{CutsTurn, Opens}
use Rattle.plain_core.specs.Stands.{CanTake}
use Rattle.plain_core.specs.declared.flows.Flows.{Flows}
use Rattle.plain_core.specs.declared.plain.PlainCore.{PlainCore}
use denote.Enum.Declared.{tag_of}
use Rattle.flow_notes.specs.contracts.events.Event.{the_type}
use Rattle.exchange_core.specs.declared.step.Received.TheVariants as received
use Rattle.flow_notes.specs.declared.events.Event.TheVariants as event
use Rattle.flow_notes.specs.declared.events.PlainEvent.TheVariants as plain
use Rattle.plain_core.specs.declared.agenda.Task.TheVariants as task
use Rattle.plain_core.specs.Words.{Written}

-- ---- the event
pub take_named : (core : PlainCore) (notes : List Note) (e said : Event) → e ≡ said → CanTake core said notes → CanTake core e notes
take_named core notes e said eq t = rw eq t

pub opens_named : (old new : PlainCore) (before after : List Note) (e said : Event) (r : Written) → e ≡ said → OnOk r (Opens old before e new after)
    → OnOk r (Opens old before said new after)
opens_named old new before after e said r eq o = rw (← eq) o

pub cut_named : (old : PlainCore) (before after : List Note) (e said : Event) → e ≡ said → CutsTurn old before e after → CutsTurn old before said after
cut_named old before after e said eq o = rw (← eq) o

-- octets of a stream, by another number and kept apart
pub body_same : (s x : ℕ) (o octets : List ℕ) → x ≡ s → o ≡ octets → plain.Body s o ≡ plain.Body x octets
body_same s x o octets es eo = cc

pub body_said : (s : ℕ) (o octets : List ℕ) → o ≡ octets → event.Plain (plain.Body s o) ≡ event.Plain (plain.Body s octets)
body_said s o octets eo = cc

pub plain_is : (e : Event) (p said : PlainEvent) → e ≡ event.Plain p → p ≡ said → event.Plain said ≡ e
plain_is e p said ep es = cc

-- no other event may be taken
pub plain_alone : (core : PlainCore) (e : Event) (notes : List Note) → CanTake core e notes → (tag_of the_type e ≡ 8 → ⊥) → ⊥
plain_alone core e notes t none = alone (events_back (onto notes t.history)) e t.follows.0 none
  where
    alone : (es : List Event) (e : Event) → MayFollowEvent es e → (tag_of the_type e ≡ 8 → ⊥) → ⊥
    alone es (event.Plain p) m none = none refl
    alone es (event.Accept c) m none = m
    alone es (event.Join c d) m none = m
    alone es (event.Read c o) m none = m
    alone es (event.Gone c) m none = m
    alone es (event.Room c n) m none = m
    alone es (event.Tick n) m none = m
    alone es (event.Post p n j) m none = m
    alone es (event.Obey v p) m none = m

-- ---- the flows
-- the end of a live stream hasn't come
module _ (core : PlainCore) (notes : List Note) (s x : ℕ) where
  pub finish_goes : (b : Bool) → x ≡ s → b ≡ true → Lives core.flows x b → CanTake core (event.Plain (plain.Finish s)) notes → GoesOn core.flows x
  finish_goes b es eb l t =
      finish_goes_on t.limits core x (onto notes t.history) t.rests (lives_is core.flows x b true eb l) (rw es t.follows.0)

  pub body_goes : (octets : List ℕ) → x ≡ s → CanTake core (event.Plain (plain.Body s octets)) notes → GoesOn core.flows x
  body_goes octets es t =
      body_goes_on t.limits core x octets (onto notes t.history) t.rests (rw es t.follows.0)

-- what became of octets that came
pub received_as : (x : ℕ) (octets : List ℕ) (answer said : Received) (old new : Flows) → answer ≡ said → Receives x octets answer old new → ReceivesAs x octets said old new
received_as x octets answer said old new e r = rw (← e) r.is

-- they are too many
pub over_lives : (old new : Flows) (x : ℕ) (octets : List ℕ) → ReceivesAs x octets received.TooMany old new → Lives new x true
over_lives old new x octets r = rw r.2 r.0

pub over_named : (old new : Flows) (s x : ℕ) (o p octets : List ℕ) → x ≡ s → o ≡ octets → p ≡ octets → ReceivesAs x p received.TooMany old new → IsOverrun new x (plain.Body s o)
over_named old new s x o p octets es eo ep r =
    record { is = (sym es, rw r.2 (subst (λ (v : List ℕ). Fits old x (length v) false) (ep ∙ sym eo) r.1)) }

-- ---- a core whose flows are as they were
module _ (old : PlainCore) where
  core_same : (f : Flows) → f ≡ old.flows → record old { flows = f } ≡ old
  core_same f e = ap (λ (v : Flows). record old { flows = v }) e

  pub take_same : (f : Flows) (e : Event) (notes : List Note) → f ≡ old.flows → CanTake old e notes → CanTake (record old { flows = f }) e notes
  take_same f e notes eq t = rw (core_same f eq) t

  pub opens_same : (new : PlainCore) (f : Flows) (before after : List Note) (e : Event) (r : Written) → f ≡ old.flows
      → OnOk r (Opens (record old { flows = f }) before e new after) → OnOk r (Opens old before e new after)
  opens_same new f before after e r eq o = rw (← core_same f eq) o

  pub cut_same : (f : Flows) (before after : List Note) (e : Event) → f ≡ old.flows → CutsTurn (record old { flows = f }) before e after → CutsTurn old before e after
  cut_same f before after e eq o = rw (← core_same f eq) o

-- ---- octets of a stream that isn't live any more
pub late_result : (old new : PlainCore) (f : Flows) (before after : List Note) (s x k : ℕ) (o octets : List ℕ) (r : Written) → x ≡ s → o ≡ octets
    → AppendsNotes before (turn_note k (plain.Body s o) ∷ []) after r → IsOpened old f old.pairs (task.Round ∷ old.agenda) new → (Lives old.flows x false × (f ≡ old.flows)) → k ≡ old.turn + 1
    → (OnOk r (Opens old before (event.Plain (plain.Body s octets)) new after)) × CutsTurn old before (event.Plain (plain.Body s octets)) after
late_result old new f before after s x k o octets r es eo a op l ek =
    let A : List ℕ → Type 0 = λ v. AppendsNotes before (turn_note k (plain.Body s v) ∷ []) after r in
    let d : Opened old k (plain.Body s octets) [] new =
    event_is old new k (plain.Body x octets) (plain.Body s octets) [] (ap (λ v. plain.Body v octets) es) (late_opened old new x k octets (subst (λ (v : Flows). IsOpened old v old.pairs (task.Round ∷ old.agenda) new) l.1 op) l.0 ek) in
    (opens_result old new before after k (plain.Body s octets) [] r (rw (← eo) a) d, turn_result old new before after k (plain.Body s octets) [] r (rw (← eo) a) d)
