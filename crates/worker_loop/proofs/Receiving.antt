-- What the connections give is taken up.
use Rattle.flow_notes.specs.Event.{IsEvent}
use Rattle.flow_notes.specs.declared.events.Event.{Event}
use Rattle.flow_notes.specs.declared.events.Event.TheVariants as event
use Rattle.flow_notes.specs.declared.notes.Note.{Note}
use Rattle.number_set.specs.NumberSet.{has, marked}
use Rattle.shared_state.specs.PermitRule.{granted}
use Rattle.shared_state.specs.PermitSeats.{IsSeatOf, refused_and_paid, view}
use Rattle.shared_state.specs.declared.permit_rule.PermitView.{PermitView}
use Rattle.shared_state.specs.declared.permits.PermitSeat.{PermitSeat}
use Rattle.shared_state.specs.declared.permits.Permits.{Permits}
use Rattle.std.proofs.Common.{ap, arith, inl, inr, refl, subst, sym, ◌∙◌, ◌⊎◌}
use Rattle.std.specs.Prelude.{Bool, Err, IfErr, List, Ok, Option, Result, [], false, length, true, ℕ, ◌+◌, ◌++◌, ◌<◌, ◌∷◌, ◌≡◌, ◌≤◌}
use Rattle.worker_core.specs.Sessions.{RestsWire, takes_clients}
use Rattle.worker_core.specs.declared.worker.Kind.{Kind}
use Rattle.worker_loop.proofs.Keeping.{none_yet}
use Rattle.worker_loop.specs.Carrying.{CarriedAll}
use Rattle.worker_loop.specs.Clauses.{Admits, Carries, CarriesAs, CutsUp, MayTakeUp, TakenUp, Takes, TakesAs, TakesUpAs}
use Rattle.worker_loop.specs.Cutting.{AtWires, Cuts, CutsOne, CutsShort, GaveOne, LetIn, LostOne, Midway, NoneBegun}
use Rattle.worker_loop.specs.Did.{Admitted, Did, Gave, Left, Refused, TurnedAway}
use Rattle.worker_loop.specs.Keeping.{AreUpTo, Holds, Permitted}
use Rattle.worker_loop.specs.Places.{Becomes, Changes, Place, closed_at, place_of, without_permit}
use Rattle.worker_loop.specs.Turns.{Accepted, Came, Full, Idled, Joined, Shut, Stopped, TakesUp, Went, is_stop}
use Rattle.worker_loop.specs.declared.turns.Ended.{Ended as End}
use Rattle.worker_loop.specs.declared.turns.Ended.TheVariants as ended
use Rattle.worker_parts.specs.Held.{Asked, with_fewer}
use Rattle.worker_ports.specs.Wires.{Gives, Seen, closed, given}
use Rattle.worker_ports.specs.declared.wires.Wired.{Wired}
use Rattle.worker_ports.specs.declared.wires.Wired.TheVariants as wired

-- nothing was done
pub cut_before : (names : List (List ℕ)) (v w : Place) → w ≡ v → CutsShort names v w
cut_before names v w e = record { did = []; is = inl refl; becomes = e }

-- ---- a permit
asked_refused : (c : ℕ) (permits : Permits) (old new : PermitView) (before after : List ℕ) (taken : Bool) → Asked c permits old before taken new after → old.refusals ≤ new.refusals
asked_refused c permits old new before after true a = let e : new.refusals ≡ old.refusals = ap (λ (v : PermitView). v.refusals) a.0.1 in omega (arith, e)
asked_refused c permits old new before after false a = let e : new.refusals ≡ old.refusals + 1 = ap (λ (v : PermitView). v.refusals) a.0.1 in omega (arith, e)

pub asked_permitted : (c : ℕ) (permits : Permits) (old new : PermitView) (before after : List ℕ) (taken : Bool) → new.held + length before ≡ old.held + length after → Asked c permits old before taken new after → Permitted before old after new
asked_permitted c permits old new before after taken balance a = record { kept = balance; refused = asked_refused c permits old new before after taken a }

pub asked_holds : (permits : Permits) (old new : PermitSeat) (before after : List ℕ) → IsSeatOf permits new → (view new).held + length before ≡ (view old).held + length after → Holds permits old before → Holds permits new after
asked_holds permits old new before after seat balance holds = let given = holds.given in record { is_seat = seat; given = omega (arith, balance, given) }

pub same_holds : (permits : Permits) (old new : PermitSeat) (before after : List ℕ) → new ≡ old → after ≡ before → Holds permits old before → Holds permits new after
same_holds permits old new before after at_seat at_held holds =
    subst (λ (s : PermitSeat). Holds permits s after) (sym at_seat) (subst (λ (h : List ℕ). Holds permits old h) (sym at_held) holds)

pub same_permitted : (old new : PermitSeat) (before after : List ℕ) → new ≡ old → after ≡ before → Permitted before (view old) after (view new)
same_permitted old new before after at_seat at_held =
    let v : (view new).held ≡ (view old).held = ap (λ (s : PermitSeat). (view s).held) at_seat in
    let r : (view new).refusals ≡ (view old).refusals = ap (λ (s : PermitSeat). (view s).refusals) at_seat in
    let h : length after ≡ length before = ap length at_held in
    record { kept = omega (arith, v, h); refused = omega (arith, r) }

-- ---- a client's connection
pub admitted_as : (k : Kind) (permits : Permits) (c : ℕ) (seat seat' : PermitView) (held held' : List ℕ) (taken b : Bool) → taken ≡ b → Admits k permits c seat held taken seat' held' → Admits k permits c seat held b seat' held'
admitted_as k permits c seat seat' held held' taken b e admits = subst (λ (x : Bool). Admits k permits c seat held x seat' held') e admits

module _ (names : List (List ℕ)) (c : ℕ) (k : Kind) (permits : Permits) (text : Option (List ℕ)) (told : Option (List Note)) (seen : Seen) (held held' : List ℕ) (seat seat' : PermitView) where
  was_asked : Admits k permits c seat held true seat' held' → (takes_clients k ≡ true) × Asked c permits seat held true seat' held'
  was_asked (inl isnt) = cc
  was_asked (inr asked) = asked

  let_changes : Asked c permits seat held true seat' held' → Changes names (place_of text told seen held seat) (Admitted c) (place_of text told seen held' seat')
  let_changes asked = (ap (λ (h : List ℕ). place_of text told seen h seat') asked.1, asked.0.1)

  pub let_in_as : (r : Result (Unit {0}) End) (k' : Kind) (w : Place) → Admits k permits c seat held true seat' held' → CarriesAs names (event.Accept c ∷ []) k (place_of text told seen held' seat') r k' w
      → TakesUpAs names (wired.Accept c) k (place_of text told seen held seat) r k' w
  let_in_as (Ok u) k' w admits carries =
      let asked = was_asked admits in
      record {
        did = Admitted c ∷ carries.did;
        takes = Accepted c carries.did k' asked.0 carries.all;
        becomes = (place_of text told seen held' seat', let_changes asked.1, carries.becomes);
        rests = carries.rests;
      }
  let_in_as (Err end) k' w admits cut =
      let asked = was_asked admits in
      record {
        head = Admitted c ∷ [];
        mid = place_of text told seen held' seat';
        begun = LetIn c;
        becomes = (place_of text told seen held' seat', let_changes asked.1, refl);
        cut = cut;
      }

  -- it isn't taken
  pub turned_away : (seen' : Seen) → RestsWire k → seen' ≡ closed c seen → Admits k permits c seat held false seat' held' → TakesUpAs names (wired.Accept c) k (place_of text told seen held seat) (Ok tt) k (place_of text told seen' held' seat')
  turned_away seen' rests e (inl isnt) = record {
    did = TurnedAway c ∷ [];
    takes = Shut c isnt.0;
    becomes = (
      place_of text told seen' held' seat',
      ap (λ (s : Seen). place_of text told s held' seat') e ∙ ap (λ (v : PermitView). place_of text told (closed c seen) held' v) isnt.1.1 ∙ ap (λ (h : List ℕ). place_of text told (closed c seen) h seat) isnt.1.2,
      refl,
    );
    rests = rests;
  }
  turned_away seen' rests e (inr full) = record {
    did = Refused c ∷ TurnedAway c ∷ [];
    takes = Full c full.0;
    becomes = (
      place_of text told seen held' seat',
      (ap (λ (h : List ℕ). place_of text told seen h seat') full.1.1, full.1.0.1),
      (place_of text told seen' held' seat', ap (λ (s : Seen). place_of text told s held' seat') e, refl),
    );
    rests = rests;
  }

  -- no memory for the permit
  pub cut_asking : (end : End) → end ≡ ended.Memory → seat' ≡ seat → held' ≡ held → TakesUpAs names (wired.Accept c) k (place_of text told seen held seat) (Err end) k (place_of text told seen held' seat')
  cut_asking end e at_seat at_held = record {
    head = [];
    mid = place_of text told seen held seat;
    begun = GaveOne (wired.Accept c);
    becomes = refl;
    cut = subst (λ (x : End). CutsOne names x k (place_of text told seen held seat) k (place_of text told seen held' seat')) (sym e)
        (cut_before names (place_of text told seen held seat) (place_of text told seen held' seat')
        (ap (λ (v : PermitView). place_of text told seen held' v) at_seat ∙ ap (λ (h : List ℕ). place_of text told seen h seat) at_held));
  }

-- ---- by what was given
pub joined_as : (names : List (List ℕ)) (c cluster : ℕ) (k k' : Kind) (v w : Place) (r : Result (Unit {0}) End) → CarriesAs names (event.Join c cluster ∷ []) k v r k' w → TakesUpAs names (wired.Join c cluster) k v r k' w
joined_as names c cluster k k' v w (Ok u) carries = record { did = carries.did; takes = Joined c cluster carries.did k' carries.all; becomes = carries.becomes; rests = carries.rests }
joined_as names c cluster k k' v w (Err end) cut = record { head = []; mid = v; begun = GaveOne (wired.Join c cluster); becomes = refl; cut = cut }

pub read_as : (names : List (List ℕ)) (c : ℕ) (octets : List ℕ) (k k' : Kind) (v w : Place) (r : Result (Unit {0}) End) → CarriesAs names (event.Read c octets ∷ []) k v r k' w → TakesUpAs names (wired.Read c octets) k v r k' w
read_as names c octets k k' v w (Ok u) carries = record { did = carries.did; takes = Came c octets carries.did k' carries.all; becomes = carries.becomes; rests = carries.rests }
read_as names c octets k k' v w (Err end) cut = record { head = []; mid = v; begun = GaveOne (wired.Read c octets); becomes = refl; cut = cut }

pub lost_as : (names : List (List ℕ)) (c : ℕ) (k k' : Kind) (text : Option (List ℕ)) (told : Option (List Note)) (seen : Seen) (held held' : List ℕ) (seat seat' : PermitView) (w : Place) (r : Result (Unit {0}) End)
    → held' ≡ marked c false held → seat' ≡ with_fewer (length held) (length held') seat → CarriesAs names (event.Gone c ∷ []) k (place_of text told seen held' seat') r k' w
    → TakesUpAs names (wired.Lost c) k (place_of text told seen held seat) r k' w
lost_as names c k k' text told seen held held' seat seat' w r at_held at_seat carries = by r carries
  where
    left : place_of text told seen held' seat' ≡ without_permit c (place_of text told seen held seat)
    left = ap (λ (v : PermitView). place_of text told seen held' v) at_seat ∙ ap (λ (h : List ℕ). place_of text told seen h (with_fewer (length held) (length h) seat)) at_held

    by : (r : Result (Unit {0}) End) → CarriesAs names (event.Gone c ∷ []) k (place_of text told seen held' seat') r k' w → TakesUpAs names (wired.Lost c) k (place_of text told seen held seat) r k' w
    by (Ok u) carries = record { did = Left c ∷ carries.did; takes = Went c carries.did k' carries.all; becomes = (place_of text told seen held' seat', left, carries.becomes); rests = carries.rests }
    by (Err end) cut = record { head = Left c ∷ []; mid = place_of text told seen held' seat'; begun = LostOne c; becomes = (place_of text told seen held' seat', left, refl); cut = cut }

pub idle_as : (names : List (List ℕ)) (k : Kind) (v : Place) → RestsWire k → TakesUpAs names wired.Idle k v (Ok tt) k v
idle_as names k v rests = record { did = []; takes = Idled; becomes = refl; rests = rests }

pub stop_as : (names : List (List ℕ)) (k : Kind) (v : Place) → RestsWire k → TakesUpAs names wired.Stop k v (Ok tt) k v
stop_as names k v rests = record { did = []; takes = Stopped; becomes = refl; rests = rests }

-- the same under the name that was matched
pub given_as : (names : List (List ℕ)) (given w : Wired) (k k' : Kind) (v x : Place) (r : Result (Unit {0}) End) → given ≡ w → TakesUpAs names w k v r k' x → TakesUpAs names given k v r k' x
given_as names given w k k' v x r e takes = subst (λ (y : Wired). TakesUpAs names y k v r k' x) (sym e) takes

pub may_as : (names : List (List ℕ)) (seen : Seen) (held : List ℕ) (given w : Wired) → given ≡ w → MayTakeUp names seen held given → MayTakeUp names seen held w
may_as names seen held given w e may = subst (λ (y : Wired). MayTakeUp names seen held y) e may

-- ---- it may be taken up
pub may_take_up : (names : List (List ℕ)) (old new : Seen) (held : List ℕ) (w : Wired) → old.clusters ≡ length names → AreUpTo old.greatest held → Gives old w new → MayTakeUp names new held w
may_take_up names old new held (wired.Accept c) clusters each g =
    let is : new.greatest ≡ c = ap (λ (s : Seen). s.greatest) g.is in
    (none_yet old.greatest c held each g.may, omega (arith, is))
may_take_up names old new held (wired.Join c cluster) clusters each g = omega (arith, g.may.1, clusters)
may_take_up names old new held (wired.Read c octets) clusters each g = g.may.1
may_take_up names old new held (wired.Lost c) clusters each g = tt
may_take_up names old new held wired.Idle clusters each g = tt
may_take_up names old new held wired.Stop clusters each g = tt

-- ---- the whole
module _ (names : List (List ℕ)) (k : Kind) (text : Option (List ℕ)) (told : Option (List Note)) (seen seen' : Seen) (held : List ℕ) (seat : PermitView) where
  pub next_failed : seen' ≡ seen → TakesAs names k (place_of text told seen held seat) (Err ended.WiresFault) k (place_of text told seen' held seat)
  next_failed e = subst (λ (s : Seen). Cuts names k (place_of text told seen held seat) ended.WiresFault k (place_of text told s held seat)) (sym e) AtWires

  pub next_memory : seen' ≡ seen → TakesAs names k (place_of text told seen held seat) (Err ended.Memory) k (place_of text told seen' held seat)
  next_memory e =
      Midway ended.Memory [] (place_of text told seen held seat) k (place_of text told seen' held seat) NoneBegun refl
      (cut_before names (place_of text told seen held seat) (place_of text told seen' held seat) (ap (λ (s : Seen). place_of text told s held seat) e))

  module _ (w : Wired) (g : Gives seen w seen') (k' : Kind) (x : Place) where
    pub taken_next : (stops : Bool) → stops ≡ is_stop w → TakesUpAs names w k (place_of text told seen' held seat) (Ok tt) k' x → TakesAs names k (place_of text told seen held seat) (Ok stops) k' x
    taken_next stops e taken = record {
      given = w;
      did = taken.did;
      takes = taken.takes;
      becomes = (place_of text told seen' held seat, (refl, g), taken.becomes);
      stop = e;
      rests = taken.rests;
    }

    pub cut_next : (end : End) → TakesUpAs names w k (place_of text told seen' held seat) (Err end) k' x → TakesAs names k (place_of text told seen held seat) (Err end) k' x
    cut_next end cut = Midway end (Gave w ∷ cut.head) cut.mid k' x cut.begun (place_of text told seen' held seat, (refl, g), cut.becomes) cut.cut
