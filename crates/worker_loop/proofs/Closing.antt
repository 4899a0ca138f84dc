-- Connections that are ended, passage by passage.
use Rattle.flow_notes.specs.Passages.{notes_of_passage}
use Rattle.flow_notes.specs.declared.notes.Note.{Note}
use Rattle.flow_notes.specs.declared.notes.Note.TheVariants as note
use Rattle.flow_notes.specs.declared.passages.Passage.{Passage}
use Rattle.flow_notes.specs.declared.passages.Passage.TheVariants as passages
use Rattle.number_set.specs.NumberSet.{marked}
use Rattle.shared_state.specs.declared.permit_rule.PermitView.{PermitView}
use Rattle.std.proofs.Common.{ap, append_assoc, arith, refl, subst, sym, ◌∙◌}
use Rattle.std.proofs.lemmas.Bool.Decides.{nat_tests}
use Rattle.std.proofs.lemmas.List.{append-nil, map-append}
use Rattle.std.specs.List.{flat_map}
use Rattle.std.specs.Prelude.{Bool, List, Option, [], cond, false, filter, if◌then◌else◌, length, map, nat_eq, suc, true, ℕ, ◌&&◌, ◌+◌, ◌++◌, ◌<◌, ◌∷◌, ◌≡◌, ◌≤◌}
use Rattle.worker_core.specs.Fronts.{IsFront, octets_at}
use Rattle.worker_core.specs.Sessions.{LendsFront, is_closing}
use Rattle.worker_core.specs.declared.worker.Kind.{Kind}
use Rattle.worker_core.specs.declared.worker.Kind.TheVariants as kind
use Rattle.worker_loop.proofs.Becoming.{becomes_append}
use Rattle.worker_loop.specs.Carrying.{is_done, named_in, waiting_at}
use Rattle.worker_loop.specs.Clauses.{EndsAll, EndsOne, ends_in}
use Rattle.worker_loop.specs.Did.{Did, Ended}
use Rattle.worker_loop.specs.Keeping.{Permitted}
use Rattle.worker_loop.specs.Places.{Becomes, Place, closed_at, place_of, without_permit}
use Rattle.worker_parts.specs.Held.{with_fewer}
use Rattle.worker_ports.specs.Wires.{Seen, closed}

-- ---- one connection
if_true : (b : Bool) (v w : Place) → b ≡ true → w ≡ (if b then w else v)
if_true true v w e = refl
if_true false v w e = cc

if_false : (b : Bool) (v w : Place) → b ≡ false → v ≡ (if b then w else v)
if_false true v w e = cc
if_false false v w e = refl

pub ended_one : (k : Kind) (c : ℕ) (seen seen' : Seen) (held held' : List ℕ) (seat seat' : PermitView) → is_done k c ≡ true → seen' ≡ closed c seen → held' ≡ marked c false held → seat' ≡ with_fewer (length held) (length held') seat
    → EndsOne k c seen held seat seen' held' seat'
ended_one k c seen seen' held held' seat seat' done at_seen at_held at_seat = record {
  goes = λ text told.
      let v : Place = place_of text told seen held seat in
      ap (λ (s : Seen). place_of text told s held' seat') at_seen
      ∙ ap (λ (s : PermitView). place_of text told (closed c seen) held' s) at_seat
      ∙ ap (λ (h : List ℕ). place_of text told (closed c seen) h (with_fewer (length held) (length h) seat)) at_held
      ∙ if_true (is_done k c) v (without_permit c (closed_at c v)) done;
}

pub left_one : (k : Kind) (c : ℕ) (seen : Seen) (held : List ℕ) (seat : PermitView) → is_done k c ≡ false → EndsOne k c seen held seat seen held seat
left_one k c seen held seat done = record {
  goes = λ text told. let v : Place = place_of text told seen held seat in if_false (is_done k c) v (without_permit c (closed_at c v)) done;
}

pub left_permitted : (held held' : List ℕ) (seat seat' : PermitView) → seat'.held + length held ≡ seat.held + length held' → seat' ≡ with_fewer (length held) (length held') seat → Permitted held seat held' seat'
left_permitted held held' seat seat' balance left = let same : seat'.refusals ≡ seat.refusals = ap (λ (v : PermitView). v.refusals) left in record { kept = balance; refused = omega (arith, same) }

-- whether it is done with
pub open_still : (k : Kind) (c : ℕ) → is_closing k c ≡ false → false ≡ is_done k c
open_still k c e = sym (ap (λ (b : Bool). b && nat_eq (length (waiting_at c k)) 0) e)

not_none : (n : ℕ) → nat_eq (suc n) 0 ≡ false
not_none n = grind (arith, nat_tests)

none_of : (octets all : List ℕ) → IsFront octets all → nat_eq (length octets) 0 ≡ nat_eq (length all) 0
none_of [] [] front = refl
none_of [] (x ∷ all) front = absurd (omega (arith, front.some (omega arith)))
none_of (x ∷ octets) [] front = absurd (let e : length (x ∷ octets) ≡ 0 = ap length front.front in omega (arith, e))
none_of (x ∷ octets) (y ∷ all) front = not_none (length octets) ∙ sym (not_none (length all))

closed_done : (k : Kind) (c : ℕ) (octets : List ℕ) → is_closing k c ≡ true → LendsFront k c octets → nat_eq (length octets) 0 ≡ is_done k c
closed_done (kind.Plain core) c octets e front = cc
closed_done (kind.Wire session) c octets e front = none_of octets (octets_at c session.core) front ∙ sym (ap (λ (b : Bool). b && nat_eq (length (octets_at c session.core)) 0) e)

pub done_with : (k : Kind) (c : ℕ) (octets : List ℕ) (b : Bool) → is_closing k c ≡ true → LendsFront k c octets → b ≡ nat_eq (length octets) 0 → b ≡ is_done k c
done_with k c octets b e front is = is ∙ closed_done k c octets e front

-- ---- one passage
module _ (names : List (List ℕ)) (c : ℕ) (v w : Place) where
  ends_by : (b : Bool) → w ≡ (if b then without_permit c (closed_at c v) else v) → Becomes names v (map Ended (cond b (c ∷ []) [])) w
  ends_by true e = (w, e, refl)
  ends_by false e = e

pub ends_one : (k : Kind) (c : ℕ) (notes : List Note) (seen seen' : Seen) (held held' : List ℕ) (seat seat' : PermitView) → named_in notes ≡ c ∷ [] → EndsOne k c seen held seat seen' held' seat' → EndsAll k notes seen held seat seen' held' seat'
ends_one k c notes seen seen' held held' seat seat' e one = record {
  goes = λ names text told.
      subst (λ (cs : List ℕ). Becomes names (place_of text told seen held seat) (map Ended (filter (is_done k) cs)) (place_of text told seen' held' seat')) (sym e)
      (ends_by names c (place_of text told seen held seat) (place_of text told seen' held' seat') (is_done k c) (one.goes text told));
}

pub ends_none : (k : Kind) (notes : List Note) (seen : Seen) (held : List ℕ) (seat : PermitView) → named_in notes ≡ [] → EndsAll k notes seen held seat seen held seat
ends_none k notes seen held seat e = record {
  goes = λ names text told.
      subst (λ (cs : List ℕ). Becomes names (place_of text told seen held seat) (map Ended (filter (is_done k) cs)) (place_of text told seen held seat)) (sym e) refl;
}

named_append : (ms ns : List Note) → named_in (ms ++ ns) ≡ named_in ms ++ named_in ns
named_append [] ns = refl
named_append (note.Close c code cause ∷ ms) ns = ap (λ cs. c ∷ cs) (named_append ms ns)
named_append (note.Out c n ∷ ms) ns = ap (λ cs. c ∷ cs) (named_append ms ns)
named_append (note.Turn n e ∷ ms) ns = named_append ms ns
named_append (note.Arrive f o ∷ ms) ns = named_append ms ns
named_append (note.Move f p n ∷ ms) ns = named_append ms ns
named_append (note.Frame c f n l ∷ ms) ns = named_append ms ns
named_append (note.Pause f b ∷ ms) ns = named_append ms ns
named_append (note.Resume f b ∷ ms) ns = named_append ms ns
named_append (note.Credit c s n ∷ ms) ns = named_append ms ns
named_append (note.Head c s o ∷ ms) ns = named_append ms ns
named_append (note.Answer c o ∷ ms) ns = named_append ms ns
named_append (note.Waste c s n ∷ ms) ns = named_append ms ns
named_append (note.Start x c s t ∷ ms) ns = named_append ms ns
named_append (note.Doom x cause ∷ ms) ns = named_append ms ns
named_append (note.Gone x ∷ ms) ns = named_append ms ns
named_append (note.Fire k i ∷ ms) ns = named_append ms ns

-- no note of a list names a connection
named_map : {A : Type 0} (f : A → Note) (xs : List A) → ((a : A) → named_in (f a ∷ []) ≡ []) → named_in (map f xs) ≡ []
named_map f [] none = refl
named_map f (x ∷ xs) none = named_append (f x ∷ []) (map f xs) ∙ ap (λ cs. cs ++ named_in (map f xs)) (none x) ∙ named_map f xs none

-- nor do the notes of a passage of pauses or resumes
pub none_named : (p : Passage) → ((n : _) → p ≡ passages.One n → ⊥) → named_in (notes_of_passage p) ≡ []
none_named (passages.One n) isnt = absurd (isnt n refl)
none_named (passages.Pauses flows buffer) isnt = named_map (λ f. note.Pause f buffer) flows.now (λ f. refl)
none_named (passages.Resumes flows buffer) isnt = named_map (λ f. note.Resume f buffer) flows.now (λ f. refl)

-- ---- all passages
filter_by : (b : Bool) (c : ℕ) (xs ys : List ℕ) → cond b (c ∷ (xs ++ ys)) (xs ++ ys) ≡ cond b (c ∷ xs) xs ++ ys
filter_by true c xs ys = refl
filter_by false c xs ys = refl

filter_append : (p : ℕ → Bool) (xs ys : List ℕ) → filter p (xs ++ ys) ≡ filter p xs ++ filter p ys
filter_append p [] ys = refl
filter_append p (x ∷ xs) ys = ap (λ zs. cond (p x) (x ∷ zs) zs) (filter_append p xs ys) ∙ filter_by (p x) x (filter p xs) (filter p ys)

ends_append : (k : Kind) (ms ns : List Note) → ends_in k (ms ++ ns) ≡ ends_in k ms ++ ends_in k ns
ends_append k ms ns =
    ap (λ cs. map Ended (filter (is_done k) cs)) (named_append ms ns)
    ∙ ap (map Ended) (filter_append (is_done k) (named_in ms) (named_in ns))
    ∙ map-append Ended (filter (is_done k) (named_in ms)) (filter (is_done k) (named_in ns))

-- so many passages were settled
pub record EndsSoFar (k : Kind) (notes : List Note) (left : List (List Note)) (seen : Seen) (held : List ℕ) (seat : PermitView) (seen' : Seen) (held' : List ℕ) (seat' : PermitView) : Type 0 where
  pub settled : List Note
  pub is : notes ≡ settled ++ flat_map (λ ns. ns) left
  pub ends : EndsAll k settled seen held seat seen' held' seat'

pub none_settled : (k : Kind) (notes : List Note) (left passages : List (List Note)) (seen : Seen) (held : List ℕ) (seat : PermitView) → left ≡ passages → flat_map (λ ns. ns) passages ≡ notes → EndsSoFar k notes left seen held seat seen held seat
none_settled k notes left passages seen held seat e is = record {
  settled = [];
  is = sym (ap (λ (ps : List (List Note)). flat_map (λ ns. ns) ps) e ∙ is);
  ends = ends_none k [] seen held seat refl;
}

pub more_settled : (k : Kind) (notes ns : List Note) (left after : List (List Note)) (seen seen' seen'' : Seen) (held held' held'' : List ℕ) (seat seat' seat'' : PermitView) → left ≡ ns ∷ after
    → EndsSoFar k notes left seen held seat seen' held' seat' → EndsAll k ns seen' held' seat' seen'' held'' seat'' → EndsSoFar k notes after seen held seat seen'' held'' seat''
more_settled k notes ns left after seen seen' seen'' held held' held'' seat seat' seat'' e so one = record {
  settled = so.settled ++ ns;
  is = so.is ∙ ap (λ (ps : List (List Note)). so.settled ++ flat_map (λ xs. xs) ps) e ∙ sym (append_assoc so.settled ns (flat_map (λ xs. xs) after));
  ends = record {
    goes = λ names text told.
        subst (λ (ds : List Did). Becomes names (place_of text told seen held seat) ds (place_of text told seen'' held'' seat'')) (sym (ends_append k so.settled ns))
        (becomes_append names (ends_in k so.settled) (ends_in k ns) (place_of text told seen held seat) (place_of text told seen' held' seat') (place_of text told seen'' held'' seat'')
        (so.ends.goes names text told) (one.goes names text told));
  };
}

pub all_settled : (k : Kind) (notes : List Note) (left : List (List Note)) (seen seen' : Seen) (held held' : List ℕ) (seat seat' : PermitView) → left ≡ [] → EndsSoFar k notes left seen held seat seen' held' seat' → EndsAll k notes seen held seat seen' held' seat'
all_settled k notes left seen seen' held held' seat seat' e so =
    subst (λ (ns : List Note). EndsAll k ns seen held seat seen' held' seat') (sym (so.is ∙ ap (λ (ps : List (List Note)). so.settled ++ flat_map (λ ns. ns) ps) e ∙ append-nil so.settled)) so.ends
