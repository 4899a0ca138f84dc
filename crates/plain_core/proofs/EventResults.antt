-- What the event functions answer.
use Rattle.flow_rules.specs.declared.ids.FlowId.{FlowId}
use Rattle.flow_notes.specs.declared.events.PlainEvent.{PlainEvent}
use Rattle.flow_notes.specs.declared.notes.Note.{Note}
use Rattle.std.proofs.Common.{ap, subst, sym}
use Rattle.std.specs.Prelude.{Bool, List, OnOk, [], true, ℕ, ◌++◌, ◌+◌, ◌∷◌, ◌≡◌}
use Rattle.tape_laws.specs.Flows.{request}
use Rattle.plain_core.proofs.EventBody.{arrive_opened, finish_opened}
use Rattle.plain_core.proofs.EventOpens.{IsOpened, opened_more}
use Rattle.plain_core.proofs.EventRoom.{with_telling}
use Rattle.plain_core.proofs.Fronts.{Opened, event_is, opens_after, turn_after}
use Rattle.plain_core.specs.Agenda.{Agenda, with_run}
use Rattle.plain_core.specs.Carries.{Ends, Lives, ReceivesAs}
use Rattle.plain_core.specs.Noting.{AppendsNotes, turn_note}
use Rattle.plain_core.specs.Progress.{Pairs}
use Rattle.plain_core.specs.Runs.{CutsTurn, Opens}
use Rattle.plain_core.specs.declared.flows.Flows.{Flows}
use Rattle.plain_core.specs.declared.plain.PlainCore.{PlainCore}
use Rattle.exchange_core.specs.declared.step.Received.TheVariants as received
use Rattle.flow_notes.specs.declared.events.Event.TheVariants as event
use Rattle.flow_notes.specs.declared.events.PlainEvent.TheVariants as plain
use Rattle.flow_notes.specs.declared.notes.Note.TheVariants as note
use Rattle.plain_core.specs.declared.agenda.Task.TheVariants as task
use Rattle.plain_core.specs.Words.{Written}

-- the turn note and then others
pub event_result : (old new : PlainCore) (before mid after : List Note) (k : ℕ) (e : PlainEvent) (ns : List Note) (r : Written) → mid ≡ before ++ turn_note k e ∷ []
    → AppendsNotes mid ns after r → Opened old k e ns new → (OnOk r (Opens old before (event.Plain e) new after)) × CutsTurn old before (event.Plain e) after
event_result old new before mid after k e ns r eq a o = (opens_after old new before mid after k e ns r eq a o, turn_after old new before mid after k e ns r eq a o)

-- the same octets, flow and event by other names
pub arrive_named : (old new : PlainCore) (x k : ℕ) (e : PlainEvent) (octets o p : List ℕ) (g : FlowId) (f : Flows) → o ≡ octets → p ≡ octets → g ≡ request x → e ≡ plain.Body x octets
    → IsOpened old f old.pairs (with_run g (task.Round ∷ old.agenda)) new → ReceivesAs x p received.Arrived old.flows f → k ≡ old.turn + 1
    → Opened old k e (note.Arrive g o ∷ []) new
arrive_named old new x k e octets o p g f eo ep eg ee op came ek =
    let all = subst (λ (v : List ℕ). ReceivesAs x v received.Arrived old.flows f) ep came in
    rw eg (subst (λ (v : List ℕ). Opened old k e (note.Arrive (request x) v ∷ []) new) (sym eo) (event_is old new k (plain.Body x octets) e (note.Arrive (request x) octets ∷ []) (sym ee) (arrive_opened old new x k octets f (subst (λ (v : FlowId). IsOpened old f old.pairs (with_run v (task.Round ∷ old.agenda)) new) eg op) all.0 all.1 all.2 ek)))

-- the telling is begun
pub opened_telling : (old mid new : PlainCore) (f : Flows) (p : Pairs) (a : Agenda) (low : Bool) → IsOpened old f p a mid → new.agenda ≡ with_telling low mid.agenda → new ≡ record mid { agenda = new.agenda }
    → IsOpened old f p (with_telling low a) new
opened_telling old mid new f p a low o na rest = opened_more old mid new f p a (with_telling low a) o (λ e. cc) rest

pub finish_named : (old new : PlainCore) (x s k : ℕ) (g : FlowId) (f : Flows) → x ≡ s → g ≡ request x → IsOpened old f old.pairs (with_run g (task.Round ∷ old.agenda)) new → Lives old.flows x true
    → Ends x old.flows f → k ≡ old.turn + 1 → Opened old k (plain.Finish s) [] new
finish_named old new x s k g f es eg op l a ek =
    event_is old new k (plain.Finish x) (plain.Finish s) [] (ap plain.Finish es) (finish_opened old new x k f (subst (λ (v : FlowId). IsOpened old f old.pairs (with_run v (task.Round ∷ old.agenda)) new) eg op) l a ek)
