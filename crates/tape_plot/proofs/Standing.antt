-- What a note tells nothing of stays as it was.
use Rattle.flow_rules.specs.declared.ids.FlowId.{FlowId}
use Rattle.flow_notes.specs.declared.notes.Note.{Note}
use Rattle.std.proofs.Common.{ap, arith, refl, sym, ◌∙◌}
use Rattle.std.specs.Prelude.{Bool, List, None, Option, Some, [], false, if◌then◌else◌, length, true, ℕ, ◌+◌, ◌∷◌, ◌≡◌}
use Rattle.tape_laws.specs.Connections.{was_closed}
use Rattle.tape_laws.specs.Flows.{same_flow}
use Rattle.tape_laws.specs.History.{History, NoMark, Noted, Step}
use Rattle.tape_laws.specs.Pauses.{pauses, resumes}
use Rattle.tape_plot.proofs.Columns.{eq_false}
use Rattle.tape_plot.proofs.Flowing.{lanes_still, shown_same}
use Rattle.tape_plot.proofs.Laning.{still}
use Rattle.tape_plot.specs.Flows.{FlowIs, lanes_of}
use Rattle.tape_plot.specs.Kept.{ConnectionAt, ExchangeAt, IsUntold}
use Rattle.tape_plot.specs.Lanes.{drawn_of, fresh}
use Rattle.tape_plot.specs.Levels.{places, relayed, shown_count, was_doomed, written}
use Rattle.tape_plot.specs.Subjects.{flow_id, flow_named, subject_of}
use Rattle.tape_plot.specs.declared.connection.Connection.{Connection}
use Rattle.tape_plot.specs.declared.exchange.Exchange.{Exchange}
use Rattle.tape_plot.specs.declared.flow.Flow.{Flow}
use Rattle.tape_plot.specs.declared.subject.Subject.{Subject}
use Rattle.flow_notes.specs.declared.events.Event.TheVariants as event
use Rattle.flow_notes.specs.declared.notes.CloseCause.TheVariants as closed
use Rattle.flow_notes.specs.declared.notes.Note.TheVariants as note
use Rattle.tape_plot.specs.declared.subject.Subject.TheVariants as subject

-- ---- numbers and names

pub none_is_not : {A : Type 0} (x : A) → None ≡ Some x → ⊥
none_is_not x e = cc

pub same_exchange : (x y : ℕ) → subject.Exchange x ≡ subject.Exchange y → x ≡ y
same_exchange x y e = cc

pub same_connection : (c d : ℕ) → subject.Connection c ≡ subject.Connection d → c ≡ d
same_connection c d e = cc

pub not_both : (s : Subject) (c x : ℕ) → s ≡ subject.Connection c → s ≡ subject.Exchange x → ⊥
not_both s c x e f = cc

pub not_nothing : (s : Subject) (x : ℕ) → s ≡ subject.Nothing → s ≡ subject.Exchange x → ⊥
not_nothing s x e f = cc

pub nothing_not : (s : Subject) (c : ℕ) → s ≡ subject.Nothing → s ≡ subject.Connection c → ⊥
nothing_not s c e f = cc

pub same_some : {A : Type 0} (x y : A) → Some x ≡ Some y → x ≡ y
same_some x y e = cc

apart : (g f : FlowId) → (g.exchange ≡ f.exchange → ⊥) → same_flow g f ≡ false
apart g f differ = rw (eq_false g.exchange f.exchange _ refl differ) refl

-- the exchange of the flow that a note names
pub named_subject : (n : Note) (g : FlowId) → flow_named n ≡ Some g → subject_of n ≡ subject.Exchange g.exchange
named_subject (note.Arrive k octets) g e = ap (λ (v : FlowId). subject.Exchange v.exchange) (same_some k g e)
named_subject (note.Move k p n) g e = ap (λ (v : FlowId). subject.Exchange v.exchange) (same_some k g e)
named_subject (note.Frame c k n last) g e = ap (λ (v : FlowId). subject.Exchange v.exchange) (same_some k g e)
named_subject (note.Pause k b) g e = ap (λ (v : FlowId). subject.Exchange v.exchange) (same_some k g e)
named_subject (note.Resume k b) g e = ap (λ (v : FlowId). subject.Exchange v.exchange) (same_some k g e)
named_subject n g e = absurd (none_is_not g e)

-- a note of a flow tells nothing of where flows go
pub named_relay : (n : Note) (g f : FlowId) (h : History NoMark) → flow_named n ≡ Some g → relayed f (Noted n ∷ h) ≡ relayed f h
named_relay (note.Arrive k octets) g f h e = refl
named_relay (note.Move k p n) g f h e = refl
named_relay (note.Frame c k n last) g f h e = refl
named_relay (note.Pause k b) g f h e = refl
named_relay (note.Resume k b) g f h e = refl
named_relay n g f h e = absurd (none_is_not g e)

-- ---- a flow that a step tells nothing of

pub record StillFlow (f : FlowId) (step : Step NoMark) (h : History NoMark) : Type 0 where
  pub held : places f (step ∷ h) ≡ places f h
  pub paused : pauses f (step ∷ h) ≡ pauses f h
  pub resumed : resumes f (step ∷ h) ≡ resumes f h
  pub doomed : was_doomed f.exchange (step ∷ h) ≡ was_doomed f.exchange h

pub flow_still : (flow : Flow) (f : FlowId) (first : ℕ) (step : Step NoMark) (h : History NoMark) → FlowIs flow f first h → StillFlow f step h → FlowIs flow f first (step ∷ h)
flow_still flow f first step h is s = record {
  held = is.held ∙ sym s.held;
  lanes = lanes_still (lanes_of flow.places.items) (places f) first step h is.lanes s.held;
  many = is.many ∙ ap length (sym s.held);
  pauses = is.pauses ∙ sym s.paused;
  resumes = is.resumes ∙ sym s.resumed;
  doomed = is.doomed ∙ sym s.doomed;
  count = still (drawn_of flow.count) (shown_count f) first step h is.count (shown_same _ _ _ _ _ _ s.doomed s.paused s.resumed);
}

untold_still : (f : FlowId) (first : ℕ) (step : Step NoMark) (h : History NoMark) → IsUntold f first h → StillFlow f step h → relayed f (step ∷ h) ≡ relayed f h → IsUntold f first (step ∷ h)
untold_still f first step h is s e = record {
  held = is.held ∙ sym s.held;
  lanes = lanes_still [] (places f) first step h is.lanes s.held;
  pauses = is.pauses ∙ sym s.paused;
  resumes = is.resumes ∙ sym s.resumed;
  doomed = is.doomed ∙ sym s.doomed;
  count = still fresh (shown_count f) first step h is.count (shown_same _ _ _ _ _ _ s.doomed s.paused s.resumed);
  relay = is.relay ∙ sym e;
}

none_more : (n : ℕ) → 0 + n ≡ n
none_more n = omega arith

-- a note of another flow
pub other_still : (n : Note) (g f : FlowId) (h : History NoMark) → flow_named n ≡ Some g → same_flow g f ≡ false → StillFlow f (Noted n) h
other_still (note.Arrive k octets) g f h e d =
    let d2 : same_flow k f ≡ false = ap (λ (v : FlowId). same_flow v f) (same_some k g e) ∙ d in
    record { held = rw d2 refl; paused = refl; resumed = refl; doomed = refl }
other_still (note.Move k p n) g f h e d =
    let d2 : same_flow k f ≡ false = ap (λ (v : FlowId). same_flow v f) (same_some k g e) ∙ d in
    record { held = rw d2 refl; paused = refl; resumed = refl; doomed = refl }
other_still (note.Frame c k n last) g f h e d =
    let d2 : same_flow k f ≡ false = ap (λ (v : FlowId). same_flow v f) (same_some k g e) ∙ d in
    record { held = rw d2 refl; paused = refl; resumed = refl; doomed = refl }
other_still (note.Pause k b) g f h e d =
    let d2 : same_flow k f ≡ false = ap (λ (v : FlowId). same_flow v f) (same_some k g e) ∙ d in
    record { held = refl; paused = rw d2 (none_more (pauses f h)); resumed = refl; doomed = refl }
other_still (note.Resume k b) g f h e d =
    let d2 : same_flow k f ≡ false = ap (λ (v : FlowId). same_flow v f) (same_some k g e) ∙ d in
    record { held = refl; paused = refl; resumed = rw d2 (none_more (resumes f h)); doomed = refl }
other_still n g f h e d = absurd (none_is_not g e)

-- a note of another exchange, or of none
pub untouched : (n : Note) (f : FlowId) (h : History NoMark) → (subject_of n ≡ subject.Exchange f.exchange → ⊥) → StillFlow f (Noted n) h
untouched (note.Arrive g octets) f h other = other_still (note.Arrive g octets) g f h refl (apart g f (λ e. other (ap subject.Exchange e)))
untouched (note.Move g p n) f h other = other_still (note.Move g p n) g f h refl (apart g f (λ e. other (ap subject.Exchange e)))
untouched (note.Frame c g n last) f h other = other_still (note.Frame c g n last) g f h refl (apart g f (λ e. other (ap subject.Exchange e)))
untouched (note.Pause g b) f h other = other_still (note.Pause g b) g f h refl (apart g f (λ e. other (ap subject.Exchange e)))
untouched (note.Resume g b) f h other = other_still (note.Resume g b) g f h refl (apart g f (λ e. other (ap subject.Exchange e)))
untouched (note.Doom x why) f h other = record {
  held = rw (eq_false f.exchange x _ refl (λ e. other (ap subject.Exchange (sym e)))) refl;
  paused = refl;
  resumed = refl;
  doomed = rw (eq_false x f.exchange _ refl (λ e. other (ap subject.Exchange e))) refl;
}
untouched n f h other = record { held = refl; paused = refl; resumed = refl; doomed = refl }

untouched_relay : (n : Note) (f : FlowId) (h : History NoMark) → (subject_of n ≡ subject.Exchange f.exchange → ⊥) → relayed f (Noted n ∷ h) ≡ relayed f h
untouched_relay (note.Start x c s d) f h other = rw (eq_false x f.exchange _ refl (λ e. other (ap subject.Exchange e))) refl
untouched_relay n f h other = refl

-- octets of a flow that is relayed
pub relayed_still : (g f : FlowId) (octets : List ℕ) (h : History NoMark) (c : ℕ) → relayed f h ≡ Some c → StillFlow f (Noted (note.Arrive g octets)) h
relayed_still g f octets h c e = record { held = rw e (by (same_flow g f)); paused = refl; resumed = refl; doomed = refl }
  where
    by : (b : Bool) → (if b then places f h else places f h) ≡ places f h
    by true = refl
    by false = refl

-- ---- an exchange

pub exchange_still : (o : Option Exchange) (x first : ℕ) (n : Note) (h : History NoMark) → (subject_of n ≡ subject.Exchange x → ⊥) → ExchangeAt o x first h → ExchangeAt o x first (Noted n ∷ h)
exchange_still None x first n h other u = λ back. untold_still (flow_id x back) first (Noted n) h (u back) (untouched n (flow_id x back) h other) (untouched_relay n (flow_id x back) h other)
exchange_still (Some e) x first n h other is = record {
  request = flow_still e.request (flow_id x false) first (Noted n) h is.request (untouched n (flow_id x false) h other);
  response = flow_still e.response (flow_id x true) first (Noted n) h is.response (untouched n (flow_id x true) h other);
  relay = λ back. is.relay back ∙ sym (untouched_relay n (flow_id x back) h other);
}

-- ---- a connection

pub connection_still : (o : Option Connection) (c first : ℕ) (step : Step NoMark) (h : History NoMark) → written c (step ∷ h) ≡ written c h → was_closed c (step ∷ h) ≡ was_closed c h
    → ConnectionAt o c first h → ConnectionAt o c first (step ∷ h)
connection_still None c first step h e f is = record { write = still fresh (written c) first step h is.write e; closed = is.closed ∙ sym f }
connection_still (Some k) c first step h e f is = record { write = still (drawn_of k.write.lane) (written c) first step h is.write e; closed = is.closed ∙ sym f }

nothing_more : (a : ℕ) → a + 0 ≡ a
nothing_more a = omega arith

-- a note of another connection, and of no exchange
pub record StillConnection (c : ℕ) (step : Step NoMark) (h : History NoMark) : Type 0 where
  pub write : written c (step ∷ h) ≡ written c h
  pub closed : was_closed c (step ∷ h) ≡ was_closed c h

pub quiet : (n : Note) (c : ℕ) (h : History NoMark) → ((x : ℕ) → subject_of n ≡ subject.Exchange x → ⊥) → (subject_of n ≡ subject.Connection c → ⊥) → StillConnection c (Noted n) h
quiet (note.Arrive f octets) c h none other = absurd (none f.exchange refl)
quiet (note.Frame d f n last) c h none other = absurd (none f.exchange refl)
quiet (note.Head d s octets) c h none other = record { write = rw (eq_false d c _ refl (λ e. other (ap subject.Connection e))) (nothing_more (written c h)); closed = refl }
quiet (note.Answer d octets) c h none other = record { write = rw (eq_false d c _ refl (λ e. other (ap subject.Connection e))) (nothing_more (written c h)); closed = refl }
quiet (note.Credit d s n) c h none other = record { write = rw (eq_false d c _ refl (λ e. other (ap subject.Connection e))) (nothing_more (written c h)); closed = refl }
quiet (note.Out d n) c h none other = record { write = rw (eq_false d c _ refl (λ e. other (ap subject.Connection e))) (omega arith); closed = refl }
quiet (note.Close d code closed.Lost) c h none other =
    let k = eq_false d c _ refl (λ e. other (ap subject.Connection e)) in record { write = rw k refl; closed = rw k refl }
quiet (note.Close d code why) c h none other = record { write = refl; closed = rw (eq_false d c _ refl (λ e. other (ap subject.Connection e))) refl }
quiet (note.Turn k (event.Gone d)) c h none other = record { write = rw (eq_false d c _ refl (λ e. other (ap subject.Connection e))) refl; closed = refl }
quiet (note.Turn k e) c h none other = record { write = refl; closed = refl }
quiet n c h none other = record { write = refl; closed = refl }
