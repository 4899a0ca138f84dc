-- An event is written, dispatched, and told to the connections.
use Rattle.flow_notes.specs.declared.events.Event.{Event}
use Rattle.flow_notes.specs.declared.notes.Note.{Note}
use Rattle.relay_laws.specs.Dispatch.{dispatch_notes}
use Rattle.relay_laws.specs.Pairs.{Tape, feed}
use Rattle.relay_work.proofs.Settled.{belong_all}
use Rattle.relay_work.proofs.Staying.{belong_still, parted}
use Rattle.relay_work.proofs.Steps.{told_none}
use Rattle.relay_work.specs.Carrying.{Carries, CarriesFrom, IsReady, PartsFrom, parting_of}
use Rattle.relay_work.specs.Dispatching.{CanTake, KeepsLine, LineCut, Taken, Takes, TakesFrom, line_of}
use Rattle.relay_work.specs.Live.{Live, live_of}
use Rattle.relay_work.specs.Settling.{SettlesFrom, SettlesOne, Unsettled, others, peer_in}
use Rattle.relay_work.specs.declared.turns.RelayEnded.{RelayEnded}
use Rattle.session_run.specs.Ends.{AppendsFront}
use Rattle.io_ports.specs.Faults.{Rose}
use Rattle.std.proofs.Common.{ap, arith, inl, inr, refl, subst, sym, ◌∙◌}
use Rattle.std.proofs.KnownBytes.{Appends-nil}
use Rattle.std.proofs.lemmas.List.{append-nil}
use Rattle.std.specs.Io.KnownBytes.{Appends}
use Rattle.std.specs.Prelude.{Err, List, None, Ok, Option, Result, [], false, ℕ, ◌∷◌, ◌≡◌, ◌≤◌}
use Rattle.tape_laws.specs.Dispatches.{events_back}
use Rattle.tape_laws.specs.History.{onto}
use Rattle.tcp_relay.specs.Interests.{AreKept, KeepsInterests, TellsInterests}
use Rattle.tcp_relay.specs.Rests.{GoesOn, GoesOnFrom, RefusesFrom, Rests}
use Rattle.tcp_relay.specs.Turns.{HasFailed, Refuses}
use Rattle.tcp_relay.specs.declared.fault.RelayFault.{RelayFault}
use Rattle.tcp_relay.specs.declared.interests.Interests.{Interests}
use Rattle.tcp_relay.specs.declared.relay.Relay.{Relay}
use Rattle.worker_ports.specs.Wires.{Seen}
use Rattle.relay_work.specs.declared.turns.RelayEnded.TheVariants as ended
use Rattle.tcp_relay.specs.declared.fault.RelayFault.TheVariants as fault
use Rattle.tcp_relay.specs.declared.interests.Interests.TheVariants as interests

module _ (names : List (List ℕ)) (old : Relay) (text_old text_new : Option (List ℕ)) (e : Event) (new : Relay) (after : List Note) where
  -- ---- the relay's answers
  pub takes_ok : (answer : Interests) → GoesOnFrom old [] e new after → TellsInterests old e answer → Appends text_old text_new (line_of names e)
      → TakesFrom names old text_old e (Ok answer) new text_new
  takes_ok answer k tells a = record {
    goes = λ limit h m.
        let g : GoesOn limit names [] e new after h = k.goes limit names h m.rests m.may in
        let is : onto after h ≡ onto (dispatch_notes limit e h) h = ap (λ (v : List Note). onto v h) g.notes in (
          record {
            rests = subst (λ (v : Tape). Rests limit names new v) is g.rests;
            shown = ap (λ (v : Tape). events_back v) (sym is) ∙ g.shows;
          },
          a,
          tells.goes limit names h m.rests m.may,
        );
  }

  -- all of its line stands in the journal
  pub takes_memory : Appends text_old text_new (line_of names e) → TakesFrom names old text_old e (Err ended.Memory) new text_new
  takes_memory a = record {
    goes = λ limit h m. record {
      cut = record { front = line_of names e; rest = []; is = sym (append-nil (line_of names e)); text = a };
      whole = inr refl;
    };
  }

  pub never_paused : (result : Result Interests RelayFault) (held : ℕ) → CanTake names old e → RefusesFrom old [] e result new [] → result ≡ Err (fault.Paused held) → ⊥
  never_paused result held c k is = (subst (λ (o : Option ℕ). Refuses o old [] result new []) c.takes.free (k.goes c.limit names c.tape c.takes.rests)) held is

pub well : (names : List (List ℕ)) (old : Relay) (e : Event) → CanTake names old e → HasFailed old false
well names old e c = c.takes.rests.well

-- ---- no line, or a part of it
pub takes_nothing : (names : List (List ℕ)) (old : Relay) (text_old text_new : Option (List ℕ)) (e : Event) → text_new ≡ text_old → TakesFrom names old text_old e (Err ended.Memory) old text_new
takes_nothing names old text_old text_new e s = record {
  goes = λ limit h m. record {
    cut = record { front = []; rest = line_of names e; is = refl; text = subst (λ (v : Option (List ℕ)). Appends text_old v []) (sym s) (Appends-nil text_old) };
    whole = inl refl;
  };
}

pub takes_part : (names : List (List ℕ)) (old : Relay) (text_old text_new : Option (List ℕ)) (e : Event) → LineCut (line_of names e) text_old text_new
    → TakesFrom names old text_old e (Err ended.JournalFault) old text_new
takes_part names old text_old text_new e l = record { goes = λ limit h m. (m.rests, l) }

pub takes_err : (names : List (List ℕ)) (old : Relay) (text_old text_new : Option (List ℕ)) (e : Event) (end : RelayEnded) → KeepsLine (line_of names e) text_old (Err end) text_new
    → TakesFrom names old text_old e (Err end) old text_new
takes_err names old text_old text_new e ended.Turns k = absurd k
takes_err names old text_old text_new e ended.Stopped k = absurd k
takes_err names old text_old text_new e ended.TapsFault k = absurd k
takes_err names old text_old text_new e ended.JournalFault k = takes_part names old text_old text_new e k
takes_err names old text_old text_new e ended.Memory k = takes_nothing names old text_old text_new e k

-- a journal that tells nothing has any line
pub unkept : (told : Option (List ℕ)) (line : List ℕ) → told ≡ None → Appends told told line
unkept told line e = subst (λ (v : Option (List ℕ)). Appends v v line) (sym e) tt

pub line_cut : (line : List ℕ) (old new : Option (List ℕ)) (text : List ℕ) → text ≡ line → AppendsFront old new text → LineCut line old new
line_cut line old new text e f = record { front = f.front; rest = f.rest; is = sym e ∙ f.is; text = f.appends }

-- ---- it is carried out
pub carries_kept : (names : List (List ℕ)) (c : ℕ) (e : Event) (old : Live) (relay : Relay) (text : Option (List ℕ))
    → TakesFrom names old.relay old.text e (Ok interests.Kept) relay text → CarriesFrom names c e old (Ok tt) (live_of relay old.seen text)
carries_kept names c e old relay text t = record {
  goes = λ limit h r.
      let k : Taken limit names e h relay × Appends old.text text (line_of names e) × KeepsInterests limit e h = t.goes limit h r.takes in
      record {
        closes = [];
        told = told_none old.seen.steps;
        over = tt;
        text = k.1;
        shown = k.0.shown;
        belong = belong_still limit names old.relay relay old.seen c e h r k.0 k.2;
      };
}

pub carries_ok : (names : List (List ℕ)) (c : ℕ) (e : Event) (old : Live) (relay : Relay) (seen : Seen) (text : Option (List ℕ)) (was : Option ℕ) (answer : Interests)
    → PartsFrom old.relay e was → TakesFrom names old.relay old.text e (Ok answer) relay text → SettlesFrom relay old.seen c was seen
    → CarriesFrom names c e old (Ok tt) (live_of relay seen text)
carries_ok names c e old relay seen text was answer p t s = record {
  goes = λ limit h r.
      let k : Taken limit names e h relay × Appends old.text text (line_of names e) × AreKept answer limit e h = t.goes limit h r.takes in
      let next : Tape = onto (dispatch_notes limit e h) h in
      let u : Unsettled limit names relay old.seen (c ∷ others (parting_of e h) (peer_in (feed c next))) next = parted limit names old.relay relay old.seen c e h r k.0 in
      let v : Unsettled limit names relay old.seen (c ∷ others was (peer_in (feed c next))) next =
      subst (λ (o : Option ℕ). Unsettled limit names relay old.seen (c ∷ others o (peer_in (feed c next))) next) (sym (p.goes limit names h r.takes.rests)) u in
      let one : SettlesOne limit names relay old.seen [] next seen = s.goes limit names next v in
      record {
        closes = one.closes;
        told = one.told;
        over = one.over;
        text = k.1;
        shown = k.0.shown;
        belong = belong_all limit names relay seen next one.left;
      };
}

carries_as : (limit : ℕ) (names : List (List ℕ)) (e : Event) (h : Tape) (old : Live) (relay : Relay) (text : Option (List ℕ)) (end : RelayEnded)
    → Takes limit names e h old.text (Err end) relay text → Carries limit names e h old (Err end) (live_of relay old.seen text)
carries_as limit names e h old relay text ended.Turns k = absurd k
carries_as limit names e h old relay text ended.Stopped k = absurd k
carries_as limit names e h old relay text ended.TapsFault k = absurd k
carries_as limit names e h old relay text ended.JournalFault k = (refl, k.0, k.1)
carries_as limit names e h old relay text ended.Memory k = (refl, k)

pub carries_err : (names : List (List ℕ)) (c : ℕ) (e : Event) (old : Live) (relay : Relay) (text : Option (List ℕ)) (end : RelayEnded)
    → TakesFrom names old.relay old.text e (Err end) relay text → CarriesFrom names c e old (Err end) (live_of relay old.seen text)
carries_err names c e old relay text end t = record { goes = λ limit h r. carries_as limit names e h old relay text end (t.goes limit h r.takes) }

pub ready_takes : (names : List (List ℕ)) (relay : Relay) (seen : Seen) (c : ℕ) (e : Event) → IsReady names relay seen c e → CanTake names relay e
ready_takes names relay seen c e r = record { limit = r.limit; tape = r.tape; takes = r.ready.takes }

-- ---- ends, and counts of faults
pub ended_same : {T : Type 0} (x y : RelayEnded) → ◌≡◌ {A = Result T RelayEnded} (Err x) (Err y) → x ≡ y
ended_same x y e = cc

pub err_again : {T U : Type 0} (x y : RelayEnded) → ◌≡◌ {A = Result T RelayEnded} (Err x) (Err y) → ◌≡◌ {A = Result U RelayEnded} (Err x) (Err y)
err_again {T} {U} x y e = ap (λ (z : RelayEnded). Err z) (ended_same {T = T} x y e)

pub rose_later : (a b d : ℕ) → a ≤ b → Rose b d → Rose a d
rose_later a b d l (inl r) = inl (omega arith)
rose_later a b d l (inr r) = inr r

-- ---- the connections' fault comes of none of these
fault_of : (limit : ℕ) (names : List (List ℕ)) (e : Event) (h : Tape) (old new : Live) (end : RelayEnded) → Carries limit names e h old (Err end) new → end ≡ ended.TapsFault → ⊥
fault_of limit names e h old new ended.Turns k i = k
fault_of limit names e h old new ended.Stopped k i = k
fault_of limit names e h old new ended.TapsFault k i = k
fault_of limit names e h old new ended.JournalFault k i = cc
fault_of limit names e h old new ended.Memory k i = cc

pub no_taps_fault : (names : List (List ℕ)) (c : ℕ) (e : Event) (old new : Live) (end : RelayEnded) → CarriesFrom names c e old (Err end) new
    → IsReady names old.relay old.seen c e → end ≡ ended.TapsFault → ⊥
no_taps_fault names c e old new end k r i = fault_of r.limit names e r.tape old new end (k.goes r.limit r.tape r.ready) i

pub carries_no_fault : (names : List (List ℕ)) (c : ℕ) (e : Event) (old new : Live) (result : Result (Unit {0}) RelayEnded) → CarriesFrom names c e old result new
    → IsReady names old.relay old.seen c e → result ≡ Err ended.TapsFault → ⊥
carries_no_fault names c e old new (Ok u) k r i = cc
carries_no_fault names c e old new (Err end) k r i = no_taps_fault names c e old new end k r (ended_same {T = Unit {0}} end ended.TapsFault i)
