-- Offers that were made so far, and one more.
use Rattle.flow_notes.specs.Event.{IsEvent}
use Rattle.flow_notes.specs.declared.events.Event.{Event}
use Rattle.flow_notes.specs.declared.events.Event.TheVariants as event
use Rattle.flow_notes.specs.declared.notes.Note.{Note}
use Rattle.shared_state.specs.declared.permit_rule.PermitView.{PermitView}
use Rattle.std.proofs.Common.{ap, arith, inl, inr, refl, subst, sym, ◌∙◌}
use Rattle.std.proofs.lemmas.Bool.Decides.{nat_tests}
use Rattle.std.proofs.lemmas.List.{append-nil, length-take, take-take}
use Rattle.std.specs.Prelude.{Bool, Err, List, None, Ok, Option, Result, Some, [], false, if◌then◌else◌, length, min, nat_lt, suc, take, true, ℕ, ◌+◌, ◌++◌, ◌<◌, ◌∷◌, ◌≡◌, ◌≤◌}
use Rattle.worker_core.specs.Fronts.{IsFront, octets_at}
use Rattle.worker_core.specs.Sessions.{IsNextOut, LendsFront, RestsWire}
use Rattle.worker_core.specs.declared.worker.Kind.{Kind}
use Rattle.worker_core.specs.declared.worker.Kind.TheVariants as kind
use Rattle.worker_loop.proofs.Becoming.{becomes_append}
use Rattle.worker_loop.specs.Carrying.{CarriedAll, Nothing, events_in, room_event, waiting_at}
use Rattle.worker_loop.specs.Clauses.{CarriesAs, OffersAll, OffersAllAs, OffersAs, OffersCut, OffersOne, OffersSome, NothingWaits, SomeWaits}
use Rattle.worker_loop.specs.Cutting.{AtWires, Cuts, Midway, TookSome}
use Rattle.worker_loop.specs.Did.{Did, Offered}
use Rattle.worker_loop.specs.Places.{Becomes, Place, place_of}
use Rattle.worker_loop.specs.Turns.{Empty, IsPiece, NoneOffered, Offers, OneOffered}
use Rattle.worker_loop.specs.declared.turns.Ended.{Ended as End}
use Rattle.worker_loop.specs.declared.turns.Ended.TheVariants as ended
use Rattle.worker_ports.specs.Wires.{Seen, offered}

-- ---- one connection
-- nothing waits
nothing_there : (all : List ℕ) → (0 < length all → 0 < 0) → all ≡ []
nothing_there [] some = refl
nothing_there (x ∷ all) some = absurd (omega (arith, some (omega arith)))

empty_front : (octets front all : List ℕ) → IsFront octets all → (0 < length octets → 0 < length front) → length front ≡ 0 → all ≡ []
empty_front octets front all f some none = nothing_there all (λ there. let a : 0 < length octets = f.some there in let b : 0 < length front = some a in omega (arith, b, none))

pub nothing_waits : (k : Kind) (c : ℕ) (octets front : List ℕ) → RestsWire k → LendsFront k c octets → (0 < length octets → 0 < length front) → length front ≡ 0 → waiting_at c k ≡ []
nothing_waits (kind.Plain core) c octets front rests lends some none = absurd rests
nothing_waits (kind.Wire session) c octets front rests lends some none = empty_front octets front (octets_at c session.core) lends some none

pub some_there : (xs : List ℕ) → (length xs ≡ 0 → ⊥) → 0 < length xs
some_there [] isnt = absurd (isnt refl)
some_there (x ∷ xs) isnt = omega arith

pub offers_nothing : (names : List (List ℕ)) (c : ℕ) (k : Kind) (v : Place) → RestsWire k → waiting_at c k ≡ [] → OffersAs names c k v (Ok tt) k v
offers_nothing names c k v rests none = (NothingWaits none, rests)

-- a front of a front
front_again : (octets front all : List ℕ) → octets ≡ take (length octets) all → front ≡ take (length front) octets → front ≡ take (length front) all
front_again octets front all outer inner =
    let l : length front ≡ min (length front) (length octets) = ap length inner ∙ length-take (length front) octets in
    inner ∙ ap (λ (xs : List ℕ). take (length front) xs) outer ∙ take-take (length front) (length octets) all (omega (arith, l))

pub is_piece : (k : Kind) (c : ℕ) (octets front : List ℕ) → RestsWire k → LendsFront k c octets → front ≡ take (length front) octets → 0 < length front → IsPiece k c front
is_piece (kind.Plain core) c octets front rests lends is some = absurd rests
is_piece (kind.Wire session) c octets front rests lends is some = record { front = front_again octets front (octets_at c session.core) lends.front is; some = some }

pub offers_failed : (names : List (List ℕ)) (c : ℕ) (k : Kind) (text : Option (List ℕ)) (told : Option (List Note)) (seen seen' : Seen) (held : List ℕ) (seat : PermitView) → seen' ≡ seen
    → OffersAs names c k (place_of text told seen held seat) (Err ended.WiresFault) k (place_of text told seen' held seat)
offers_failed names c k text told seen seen' held seat e = subst (λ (s : Seen). Cuts names k (place_of text told seen held seat) ended.WiresFault k (place_of text told s held seat)) (sym e) AtWires

-- an event of room, or none
none_by : (b : Bool) (e : Event) (k : Kind) → b ≡ false → CarriedAll (events_in (if b then Some e else None)) k [] k
none_by true e k isnt = cc
none_by false e k isnt = Nothing k

some_by : (b : Bool) (e : Event) (k k' : Kind) (did : List Did) → b ≡ true → CarriedAll (e ∷ []) k did k' → CarriedAll (events_in (if b then Some e else None)) k did k'
some_by true e k k' did holds_so all = all
some_by false e k k' did holds_so all = cc

not_above : (n : ℕ) → n ≡ 0 → nat_lt 0 n ≡ false
not_above n e = grind (arith, nat_tests)

above_none : (n : ℕ) → 0 < n → nat_lt 0 n ≡ true
above_none n less = grind (arith, nat_tests)

module _ (names : List (List ℕ)) (c n : ℕ) (piece : List ℕ) (k : Kind) (text : Option (List ℕ)) (told : Option (List Note)) (seen seen' : Seen) (held : List ℕ) (seat : PermitView)
    (front : IsPiece k c piece) (most : n ≤ length piece) (e : seen' ≡ offered c piece n seen) where
  offer_changes : place_of text told seen' held seat ≡ place_of text told (offered c piece n seen) held seat
  offer_changes = ap (λ (s : Seen). place_of text told s held seat) e

  -- it took nothing
  pub took_nothing : RestsWire k → n ≡ 0 → OffersAs names c k (place_of text told seen held seat) (Ok tt) k (place_of text told seen' held seat)
  took_nothing rests none =
      (SomeWaits n piece [] k (place_of text told seen' held seat) front most (none_by (nat_lt 0 n) (event.Room c n) k (not_above n none)) (place_of text told seen' held seat, offer_changes, refl), rests)

  -- it took some
  pub took_some : (r : Result (Unit {0}) End) (k' : Kind) (w : Place) → 0 < n → CarriesAs names (event.Room c n ∷ []) k (place_of text told seen' held seat) r k' w → OffersAs names c k (place_of text told seen held seat) r k' w
  took_some (Ok u) k' w some carries =
      (SomeWaits n piece carries.did k' w front most (some_by (nat_lt 0 n) (event.Room c n) k k' carries.did (above_none n some) carries.all) (place_of text told seen' held seat, offer_changes, carries.becomes), carries.rests)
  took_some (Err end) k' w some cut =
      Midway end (Offered c piece n ∷ []) (place_of text told seen' held seat) k' w (TookSome c n piece) (place_of text told seen' held seat, offer_changes, refl) cut

-- ---- one after the other
pub none_offered : (names : List (List ℕ)) (k : Kind) (v : Place) → OffersSome names 0 k v k v
none_offered names k v = record { did = []; offers = NoneOffered; becomes = refl }

pub more_offered : {k' : Kind} {w : Place} (names : List (List ℕ)) (last c : ℕ) (k0 k : Kind) (v0 v : Place) → IsNextOut k last (Some c) → OffersSome names last k0 v0 k v → OffersOne names c k v k' w → OffersSome names c k0 v0 k' w
more_offered names last c k0 k v0 v next so (NothingWaits none) = record { did = so.did; offers = Empty so.did last c k so.offers next none; becomes = so.becomes }
more_offered names last c k0 k v0 v next so (SomeWaits n piece did new w front most all becomes) = record {
  did = so.did ++ Offered c piece n ∷ did;
  offers = OneOffered so.did did last c n piece k new so.offers next front most all;
  becomes = becomes_append names so.did (Offered c piece n ∷ did) v0 v w so.becomes becomes;
}

pub all_offered : (names : List (List ℕ)) (last : ℕ) (k0 k : Kind) (v0 v : Place) → RestsWire k → IsNextOut k last None → OffersSome names last k0 v0 k v → OffersAllAs names k0 v0 (Ok tt) k v
all_offered names last k0 k v0 v rests none so = record { last = last; some = so; none = none; rests = rests }

pub cut_offers : (names : List (List ℕ)) (last c : ℕ) (k0 k k' : Kind) (v0 v w : Place) (end : End) → OffersSome names last k0 v0 k v → OffersAs names c k v (Err end) k' w → OffersAllAs names k0 v0 (Err end) k' w
cut_offers names last c k0 k k' v0 v w end so cuts = record { last = last; kind = k; mid = v; some = so; cuts = cuts }

-- the numbers rise
pub next_above : (k : Kind) (last c : ℕ) → RestsWire k → IsNextOut k last (Some c) → last < c
next_above (kind.Plain core) last c rests next = absurd rests
next_above (kind.Wire session) last c rests next = next.found.0

-- ---- a front
pub least : (n m : ℕ) → n ≤ m → min n m ≡ n
least n m less = omega (arith, less)

pub first_front : (xs : List ℕ) (n : ℕ) → n ≤ length xs → take n xs ≡ take (length (take n xs)) xs
first_front xs n less = ap (λ (m : ℕ). take m xs) (sym (length-take n xs ∙ least n (length xs) less))

pub first_some : (xs : List ℕ) (n : ℕ) → n ≤ length xs → 0 < n → 0 < length (take n xs)
first_some xs n less some = let l : length (take n xs) ≡ n = length-take n xs ∙ least n (length xs) less in omega (arith, l, some)
