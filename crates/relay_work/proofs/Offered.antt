-- What waits for a connection is offered to it, and what it took has left.
use Rattle.flow_notes.specs.Fields.{FitsEvent}
use Rattle.flow_notes.specs.declared.events.Event.{Event}
use Rattle.relay_laws.specs.Pairs.{Tape}
use Rattle.relay_laws.specs.World.{out}
use Rattle.relay_work.proofs.Once.{CutOnce, cut_at, cut_none, cut_once, no_step_cut, with_event, without_event}
use Rattle.relay_work.proofs.Readied.{takes_room}
use Rattle.relay_work.specs.Belonging.{Belong}
use Rattle.relay_work.specs.Carrying.{Carries, CarriesFrom, IsReady, Ready}
use Rattle.relay_work.specs.Events.{event_in, event_taken, tape_with}
use Rattle.relay_work.specs.Live.{Live, live_of}
use Rattle.relay_work.specs.Offering.{IsPiece, OffersOne, OffersOneAs, OffersOneCut, OffersOneFrom, Waits}
use Rattle.relay_work.specs.Settling.{AreCloses}
use Rattle.relay_work.specs.declared.turns.RelayEnded.{RelayEnded}
use Rattle.std.proofs.Common.{ap, arith, refl, subst, sym, ◌∙◌}
use Rattle.std.proofs.lemmas.Bool.Decides.{nat_tests}
use Rattle.std.proofs.lemmas.List.{length-take, take-append-drop, take-append-le}
use Rattle.std.specs.Prelude.{Err, List, None, Ok, Option, Result, Some, [], drop, false, length, min, nat_lt, take, true, ℕ, ◌++◌, ◌<◌, ◌==◌, ◌∷◌, ◌≡◌, ◌≤◌}
use Rattle.tcp_relay.proofs.Tests.{if_false}
use Rattle.tcp_relay.specs.Rests.{ShowsFront, has_octets}
use Rattle.tcp_relay.specs.Seen.{IsFront}
use Rattle.tcp_relay.specs.declared.relay.Relay.{Relay}
use Rattle.worker_ports.specs.Wires.{Seen, offered}
use Rattle.worker_ports.specs.declared.wires.WireStep.{WireStep}
use Rattle.flow_notes.specs.declared.events.Event.TheVariants as event
use Rattle.relay_work.specs.declared.turns.RelayEnded.TheVariants as ended
use Rattle.worker_ports.specs.declared.wires.WireStep.TheVariants as step

-- ---- a front of a front
shorter : (front piece : List ℕ) → piece ≡ take (length piece) front → length piece ≤ length front
shorter front piece e =
    let k : length piece ≡ min (length piece) (length front) = ap (λ (v : List ℕ). length v) e ∙ length-take (length piece) front in
    omega arith

pub front_front : (all front piece : List ℕ) → IsFront all front → IsFront front piece → IsFront all piece
front_front all front piece p q =
    let split : all ≡ front ++ drop (length front) all = sym (take-append-drop (length front) all) ∙ ap (λ (v : List ℕ). v ++ drop (length front) all) (sym p.is) in
    let short : length piece ≤ length front = shorter front piece q.is in
    let same : take (length piece) (front ++ drop (length front) all) ≡ take (length piece) front = take-append-le (length piece) front (drop (length front) all) short in
    record {
      is = q.is ∙ sym same ∙ ap (λ (v : List ℕ). take (length piece) v) (sym split);
      some = λ l. q.some (p.some l);
    }

pub least : (m n : ℕ) → m ≤ n → min m n ≡ m
least m n k = omega arith

pub first_front : (front : List ℕ) (m : ℕ) → m ≤ length front → (0 < length front → 0 < m) → IsFront front (take m front)
first_front front m k s =
    let n : length (take m front) ≡ m = length-take m front ∙ least m (length front) k in
    record {
      is = ap (λ i. take i front) (sym n);
      some = λ l. subst (λ i. 0 < i) (sym n) (s l);
    }

differs : (n : ℕ) → 0 < n → (n == 0) ≡ false
differs n l = grind (arith, nat_tests)

has_some : (n : ℕ) → nat_lt 0 n ≡ true → 0 < n
has_some n e = grind (arith, nat_tests)

module _ (limit : ℕ) (names : List (List ℕ)) (c : ℕ) (h : Tape) (old : Live) (b : Belong limit names old.relay old.seen h) (has : has_octets c h ≡ true)
    (front piece : List ℕ) (shows : ShowsFront old.relay c front) (of : IsFront front piece) (n : ℕ) (most : n ≤ length piece) (seen : Seen)
    (is : seen ≡ offered c piece n old.seen) where
  abbrev offer : WireStep
  offer = step.Offered c piece n

  whole_front : IsFront (out c h) piece
  whole_front = front_front (out c h) front piece (shows.goes limit names h b.rests) of

  piece_is : IsPiece c c piece n h
  piece_is = record { is = refl; some = whole_front.some (has_some (length (out c h)) has); front = whole_front; took = most }

  same_belong : Belong limit names old.relay seen h
  same_belong = subst (λ (v : Seen). Belong limit names old.relay v h) (sym is)
      (record { rests = b.rests; clusters = b.clusters; newer = b.newer; live = b.live; held = b.held })

  pub took_none : n ≡ 0 → OffersOne limit names c h old (live_of old.relay seen old.text)
  took_none e = record {
    steps = offer ∷ [];
    some = omega arith;
    is = (piece_is, tt);
    does = without_event limit names h old offer seen (ap (λ (v : Seen). v.steps) is) (ap (λ (k : ℕ). event_taken c k) e) same_belong;
  }

  module _ (some : 0 < n) (room : n ≤ 2147483647) (fits : FitsEvent (event.Room c n)) where
    longer : (xs : List WireStep) → 0 < length (offer ∷ xs)
    longer xs = omega arith

    event_is : event_in offer ≡ Some (event.Room c n)
    event_is = if_false (n == 0) None (Some (event.Room c n)) (differs n some)

    pub ready : Ready limit names old.relay seen c (event.Room c n) h
    ready = takes_room limit names old.relay old.seen h b c n seen (ap (λ (v : Seen). v.clusters) is) (ap (λ (v : Seen). v.live) is)
        (ap (λ (v : Seen). v.greatest) is) (ap (λ (v : Seen). v.held) is) some room fits

    pub took_some : (result : Result (Unit {0}) RelayEnded) (new : Live) → Carries limit names (event.Room c n) h (live_of old.relay seen old.text) result new
        → OffersOneAs limit names c h old result new
    took_some (Ok u) new k = record {
      steps = offer ∷ k.closes;
      some = longer k.closes;
      is = (piece_is, subst (λ (o : Option Event). AreCloses k.closes (tape_with limit o h)) (sym event_is) k.over);
      does = with_event limit names h old offer seen (ap (λ (v : Seen). v.steps) is) (event.Room c n) event_is new k;
    }
    took_some (Err end) new k =
        let o : CutOnce limit names h old offer seen (ap (λ (v : Seen). v.steps) is) (event.Room c n) event_is new end =
        cut_once limit names h old offer seen (ap (λ (v : Seen). v.steps) is) (event.Room c n) event_is new end k in
        record { cut = cut_at offer o.front o.rest; is = (piece_is, tt); does = o.does }

-- ---- by what came of it
pub offers_failed : (names : List (List ℕ)) (c : ℕ) (old : Live) (seen : Seen) → seen ≡ old.seen
    → OffersOneFrom names c old (Err ended.TapsFault) (live_of old.relay seen old.text)
offers_failed names c old seen s = record {
  goes = λ limit h b has. subst (λ (v : Seen). OffersOneCut limit names c h old ended.TapsFault (live_of old.relay v old.text)) (sym s)
      (record { cut = cut_none; is = tt; does = no_step_cut limit names h old b });
}

pub offers_none : (names : List (List ℕ)) (c : ℕ) (old : Live) (front piece : List ℕ) (n : ℕ) (seen : Seen) → ShowsFront old.relay c front → IsFront front piece
    → n ≤ length piece → seen ≡ offered c piece n old.seen → n ≡ 0 → OffersOneFrom names c old (Ok tt) (live_of old.relay seen old.text)
offers_none names c old front piece n seen s of most is e = record {
  goes = λ limit h b has. took_none limit names c h old b has front piece s of n most seen is e;
}

pub offers_some : (names : List (List ℕ)) (c : ℕ) (old new : Live) (front piece : List ℕ) (n : ℕ) (seen : Seen) (result : Result (Unit {0}) RelayEnded)
    → ShowsFront old.relay c front → IsFront front piece → n ≤ length piece → seen ≡ offered c piece n old.seen → 0 < n → n ≤ 2147483647
    → FitsEvent (event.Room c n) → CarriesFrom names c (event.Room c n) (live_of old.relay seen old.text) result new → OffersOneFrom names c old result new
offers_some names c old new front piece n seen result s of most is some room fits k = record {
  goes = λ limit h b has. took_some limit names c h old b has front piece s of n most seen is some room fits result new
      (k.goes limit h (ready limit names c h old b has front piece s of n most seen is some room fits));
}

pub is_ready : (names : List (List ℕ)) (c : ℕ) (relay : Relay) (seen : Seen) (text : Option (List ℕ)) (front piece : List ℕ) (n : ℕ) (new : Seen) → Waits names relay seen c
    → ShowsFront relay c front → IsFront front piece → n ≤ length piece → new ≡ offered c piece n seen → 0 < n → n ≤ 2147483647 → FitsEvent (event.Room c n)
    → IsReady names relay new c (event.Room c n)
is_ready names c relay seen text front piece n new w s of most is some room fits = record {
  limit = w.limit;
  tape = w.tape;
  ready = ready w.limit names c w.tape (live_of relay seen text) w.belong w.some front piece s of n most new is some room fits;
}
