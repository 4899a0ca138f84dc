-- An exchange and its flows, note by note.
use Rattle.flow_rules.specs.declared.ids.BufferId.{BufferId}
use Rattle.flow_rules.specs.declared.ids.FlowId.{FlowId}
use Rattle.flow_rules.specs.declared.causes.Cause.{Cause}
use Rattle.flow_notes.specs.declared.notes.Note.{Note}
use Rattle.std.proofs.Common.{ap, refl, subst, sym, ◌∙◌}
use Rattle.std.specs.Prelude.{Bool, List, Ok, OnOk, Option, Result, Err, Some, false, if◌then◌else◌, length, true, ℕ, ◌+◌, ◌==◌, ◌∷◌, ◌≡◌}
use Rattle.tape_laws.specs.Dispatches.{is_some_of, turns}
use Rattle.tape_laws.specs.Flows.{same_flow}
use Rattle.tape_laws.specs.History.{History, NoMark, Noted}
use Rattle.tape_plot.proofs.Columns.{eq_true}
use Rattle.tape_plot.proofs.Standing.{flow_still, named_relay, named_subject, other_still, relayed_still, same_exchange, same_some}
use Rattle.tape_plot.specs.Flows.{Arrives, Dooms, FlowIs, Frames, Pauses, Resumes}
use Rattle.tape_plot.specs.Goes.{DoomsBoth, Enters, ExchangeFills, ExchangeGoes, FlowGoes, FlowStays, HandsOn, IsArrival, Starts}
use Rattle.tape_plot.specs.Kept.{ExchangeIs, goes_to}
use Rattle.tape_plot.specs.Levels.{relayed, written}
use Rattle.tape_plot.specs.Subjects.{flow_id, flow_named, subject_of}
use Rattle.tape_plot.specs.declared.clock.Clock.{Clock}
use Rattle.tape_plot.specs.declared.exchange.Exchange.{Exchange}
use Rattle.tape_plot.specs.declared.exchange.Relay.{Relay}
use Rattle.tape_plot.specs.declared.flow.Flow.{Flow}
use Rattle.flow_notes.specs.declared.notes.Note.TheVariants as note
use Rattle.tape_plot.specs.declared.subject.Subject.TheVariants as subject

pub when_ok : {A E : Type 0} (P Q : Type 0) (r : Result A E) → (P → Q) → OnOk r P → OnOk r Q
when_ok P Q (Ok x) f p = f p
when_ok P Q (Err e) f p = tt

pub always : {A E : Type 0} (P : Type 0) (r : Result A E) → P → OnOk r P
always P (Ok x) p = p
always P (Err e) p = tt

pub both_ok : {A E : Type 0} (P Q R : Type 0) (r : Result A E) → (P → Q → R) → OnOk r P → OnOk r Q → OnOk r R
both_ok P Q R (Ok x) f p q = f p q
both_ok P Q R (Err x) f p q = tt

-- ---- a flow with a note of its own

pub arrive_goes : (old new : Flow) (n : Note) (g : FlowId) (octets : List ℕ) (k : ℕ) (clock : Clock) → n ≡ note.Arrive g octets → k ≡ length octets → Arrives old k clock new → FlowGoes old n clock new
arrive_goes old new n g octets k clock e l a = record { goes = goes }
  where
    goes : (f : FlowId) (h : History NoMark) → flow_named n ≡ Some f → Enters n h → turns h ≡ clock.turn → FlowIs old f clock.first h → FlowIs new f clock.first (Noted n ∷ h)
    goes f h named enters t is =
        let m : n ≡ note.Arrive f octets = e ∙ ap (λ (v : FlowId). note.Arrive v octets) (same_some g f (ap flow_named (sym e) ∙ named)) in
        subst (λ (v : Note). FlowIs new f clock.first (Noted v ∷ h)) (sym m) (a.goes f octets h (subst (λ (v : Note). Enters v h) m enters) (sym l) t is)

pub frame_goes : (old new : Flow) (n : Note) (c : ℕ) (g : FlowId) (k : ℕ) (last : Bool) (clock : Clock) → n ≡ note.Frame c g k last → Frames old k clock new → FlowGoes old n clock new
frame_goes old new n c g k last clock e a = record { goes = goes }
  where
    goes : (f : FlowId) (h : History NoMark) → flow_named n ≡ Some f → Enters n h → turns h ≡ clock.turn → FlowIs old f clock.first h → FlowIs new f clock.first (Noted n ∷ h)
    goes f h named enters t is =
        let m : n ≡ note.Frame c f k last = e ∙ ap (λ (v : FlowId). note.Frame c v k last) (same_some g f (ap flow_named (sym e) ∙ named)) in
        subst (λ (v : Note). FlowIs new f clock.first (Noted v ∷ h)) (sym m) (a.goes c f last h t is)

pub pause_goes : (old mid new : Flow) (n : Note) (g : FlowId) (b : BufferId) (clock : Clock) → n ≡ note.Pause g b → FlowStays old mid → Pauses mid clock new → FlowGoes old n clock new
pause_goes old mid new n g b clock e s a = record { goes = goes }
  where
    goes : (f : FlowId) (h : History NoMark) → flow_named n ≡ Some f → Enters n h → turns h ≡ clock.turn → FlowIs old f clock.first h → FlowIs new f clock.first (Noted n ∷ h)
    goes f h named enters t is =
        let m : n ≡ note.Pause f b = e ∙ ap (λ (v : FlowId). note.Pause v b) (same_some g f (ap flow_named (sym e) ∙ named)) in
        subst (λ (v : Note). FlowIs new f clock.first (Noted v ∷ h)) (sym m) (a.goes f b h t (s.goes f clock.first h is))

pub resume_goes : (old mid new : Flow) (n : Note) (g : FlowId) (b : BufferId) (clock : Clock) → n ≡ note.Resume g b → FlowStays old mid → Resumes mid clock new → FlowGoes old n clock new
resume_goes old mid new n g b clock e s a = record { goes = goes }
  where
    goes : (f : FlowId) (h : History NoMark) → flow_named n ≡ Some f → Enters n h → turns h ≡ clock.turn → FlowIs old f clock.first h → FlowIs new f clock.first (Noted n ∷ h)
    goes f h named enters t is =
        let m : n ≡ note.Resume f b = e ∙ ap (λ (v : FlowId). note.Resume v b) (same_some g f (ap flow_named (sym e) ∙ named)) in
        subst (λ (v : Note). FlowIs new f clock.first (Noted v ∷ h)) (sym m) (a.goes f b h t (s.goes f clock.first h is))

-- ---- an exchange with a note of one of its flows

other_way : (x : ℕ) → same_flow (flow_id x true) (flow_id x false) ≡ false
other_way x = rw (eq_true x x _ refl refl) refl

this_way : (x : ℕ) → same_flow (flow_id x false) (flow_id x true) ≡ false
this_way x = rw (eq_true x x _ refl refl) refl

pub hands_back : (old new : Exchange) (back : Bool) (n : Note) (clock : Clock) → back ≡ true → FlowGoes old.response n clock new.response → new.request ≡ old.request → new.relay ≡ old.relay → HandsOn old back n clock new
hands_back old new back n clock b g er el = subst (λ (v : Bool). HandsOn old v n clock new) (sym b) (record {
  goes = λ x h named enters t is. record {
    request = subst (λ (v : Flow). FlowIs v (flow_id x false) clock.first (Noted n ∷ h)) (sym er)
        (flow_still old.request (flow_id x false) clock.first (Noted n) h is.request (other_still n (flow_id x true) (flow_id x false) h named (other_way x)));
    response = g.goes (flow_id x true) h named enters t is.response;
    relay = λ back. ap (λ (v : Option Relay). goes_to v back) el ∙ is.relay back ∙ sym (named_relay n (flow_id x true) (flow_id x back) h named);
  };
})

pub hands_on : (old new : Exchange) (back : Bool) (n : Note) (clock : Clock) → back ≡ false → FlowGoes old.request n clock new.request → new.response ≡ old.response → new.relay ≡ old.relay → HandsOn old back n clock new
hands_on old new back n clock b g er el = subst (λ (v : Bool). HandsOn old v n clock new) (sym b) (record {
  goes = λ x h named enters t is. record {
    request = g.goes (flow_id x false) h named enters t is.request;
    response = subst (λ (v : Flow). FlowIs v (flow_id x true) clock.first (Noted n ∷ h)) (sym er)
        (flow_still old.response (flow_id x true) clock.first (Noted n) h is.response (other_still n (flow_id x false) (flow_id x true) h named (this_way x)));
    relay = λ back. ap (λ (v : Option Relay). goes_to v back) el ∙ is.relay back ∙ sym (named_relay n (flow_id x false) (flow_id x back) h named);
  };
})

named_id : (n : Note) (g : FlowId) (x : ℕ) → flow_named n ≡ Some g → subject_of n ≡ subject.Exchange x → g ≡ flow_id x g.back
named_id n g x named s = ap (λ (v : ℕ). flow_id v g.back) (same_exchange g.exchange x (sym (named_subject n g named) ∙ s))

-- ---- octets that come

arrived_at : (old : Exchange) (f : FlowId) (octets : List ℕ) (x first : ℕ) (h : History NoMark) → subject.Exchange f.exchange ≡ subject.Exchange x → ExchangeIs old x first h → relayed f h ≡ goes_to old.relay f.back
arrived_at old f octets x first h s is = ap (λ (v : FlowId). relayed v h) (named_id (note.Arrive f octets) f x refl s) ∙ sym (is.relay f.back)

pub arrive_relayed : (old : Exchange) (n : Note) (back : Bool) (k : ℕ) (r : Relay) (clock : Clock) → IsArrival n back k → old.relay ≡ Some r → ExchangeGoes old n clock old
arrive_relayed old (note.Arrive f octets) back k r clock a e = record {
  goes = λ x h s t is. record {
    request = flow_still old.request (flow_id x false) clock.first (Noted (note.Arrive f octets)) h is.request (relayed_still f (flow_id x false) octets h _ (sym (is.relay false) ∙ ap (λ (v : Option Relay). goes_to v false) e));
    response = flow_still old.response (flow_id x true) clock.first (Noted (note.Arrive f octets)) h is.response (relayed_still f (flow_id x true) octets h _ (sym (is.relay true) ∙ ap (λ (v : Option Relay). goes_to v true) e));
    relay = is.relay;
  };
}
arrive_relayed old n back k r clock a e = absurd a

pub arrive_fills : (old : Exchange) (n : Note) (back : Bool) (k : ℕ) (r : Relay) (conn : ℕ) → IsArrival n back k → old.relay ≡ Some r → Some conn ≡ goes_to (Some r) back
    → ExchangeFills old n (Some (record { conn = conn; n = k }))
arrive_fills old (note.Arrive f octets) back k r conn a e g = record {
  fills = λ x first h s is c.
      ap (λ (v : Option ℕ). written c h + (if is_some_of v c then length octets else 0))
      (arrived_at old f octets x first h s is ∙ ap (λ (v : Option Relay). goes_to v f.back) e ∙ ap (goes_to (Some r)) a.0 ∙ sym g)
      ∙ ap (λ (v : ℕ). written c h + (if conn == c then v else 0)) a.1;
}
arrive_fills old n back k r conn a e g = absurd a

-- ---- it begins, and is given up

begun : (x c s d : ℕ) (r : Option Relay) (back b : Bool) (h : History NoMark) → (s == 0) ≡ b → goes_to r back ≡ relayed (flow_id x back) h
    → goes_to (if b then Some (record { client = c; cluster = d }) else r) back ≡ relayed (flow_id x back) (Noted (note.Start x c s d) ∷ h)
begun x c s d r back true h z e = rw (eq_true x x _ refl refl, z) refl
begun x c s d r back false h z e = rw (eq_true x x _ refl refl, z) e

started : (flow : Flow) (f : FlowId) (first x c s d : ℕ) (h : History NoMark) → FlowIs flow f first h → FlowIs flow f first (Noted (note.Start x c s d) ∷ h)
started flow f first x c s d h is = flow_still flow f first (Noted (note.Start x c s d)) h is (record { held = refl; paused = refl; resumed = refl; doomed = refl })

pub starts : (old new : Exchange) (c s d : ℕ) (b : Bool) → (s == 0) ≡ b → new.request ≡ old.request → new.response ≡ old.response
    → new.relay ≡ (if b then Some (record { client = c; cluster = d }) else old.relay) → Starts old c s d new
starts old new c s d b z er es el = record {
  goes = λ x first h is. record {
    request = subst (λ (v : Flow). FlowIs v (flow_id x false) first (Noted (note.Start x c s d) ∷ h)) (sym er) (started old.request (flow_id x false) first x c s d h is.request);
    response = subst (λ (v : Flow). FlowIs v (flow_id x true) first (Noted (note.Start x c s d) ∷ h)) (sym es) (started old.response (flow_id x true) first x c s d h is.response);
    relay = λ back. ap (λ (v : Option Relay). goes_to v back) el ∙ begun x c s d old.relay back b h z (is.relay back);
  };
}

pub dooms : (old new : Exchange) (clock : Clock) → Dooms old.request clock new.request → Dooms old.response clock new.response → new.relay ≡ old.relay → DoomsBoth old clock new
dooms old new clock q r el = record {
  goes = λ x why h t is. record {
    request = q.goes (flow_id x false) why h t is.request;
    response = r.goes (flow_id x true) why h t is.response;
    relay = λ back. ap (λ (v : Option Relay). goes_to v back) el ∙ is.relay back;
  };
}

pub doom_goes : (old new : Exchange) (n : Note) (y : ℕ) (why : Cause) (clock : Clock) → n ≡ note.Doom y why → DoomsBoth old clock new → ExchangeGoes old n clock new
doom_goes old new n y why clock e d = record {
  goes = λ x h sub t is.
      let m : n ≡ note.Doom x why = e ∙ ap (λ (v : ℕ). note.Doom v why) (same_exchange y x (ap subject_of (sym e) ∙ sub)) in
      subst (λ (v : Note). ExchangeIs new x clock.first (Noted v ∷ h)) (sym m) (d.goes x why h t is);
}
