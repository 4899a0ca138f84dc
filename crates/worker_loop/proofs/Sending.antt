-- What so much work makes of a history for which the core stood.
use Rattle.flow_notes.specs.declared.events.Event.TheVariants as event
use Rattle.flow_notes.specs.declared.events.Event.{Event}
use Rattle.flow_notes.specs.declared.notes.Note.{Note}
use Rattle.paged_map.specs.PagedMap.{PagedMap}
use Rattle.std.proofs.Common.{ap, append_assoc, arith, refl, subst, sym, ◌∙◌}
use Rattle.std.proofs.lemmas.Bool.Decides.{nat_tests}
use Rattle.std.proofs.lemmas.Bool.{false≢true}
use Rattle.std.proofs.lemmas.List.{append-nil, take-take}
use Rattle.std.specs.Prelude.{Bool, List, None, Some, [], false, filter, if◌then◌else◌, length, map, nat_lt, suc, take, true, zero, ℕ, ◌++◌, ◌==◌, ◌∷◌, ◌≡◌, ◌≤◌}
use Rattle.tape_laws.specs.Dispatches.{has}
use Rattle.tape_laws.specs.World.{gone}
use Rattle.wire_state.specs.Ways.{WayHistory, WayStep, after, shown, world_setup}
use Rattle.wire_state.specs.Worlds.{left_after, octets_of}
use Rattle.wire_state.specs.declared.conn.Conn.{Conn}
use Rattle.worker_core.proofs.Turning.{goes_on, same_under, under_more, ways_back, ways_under}
use Rattle.worker_core.specs.Sessions.{CarriesOut, GoesOn, SameConfig, StandsAt, WaysAt, left_at}
use Rattle.worker_core.specs.declared.worker.Kind.TheVariants as kind
use Rattle.worker_core.specs.declared.worker.Kind.{Kind}
use Rattle.worker_loop.proofs.Becoming.{becomes_split}
use Rattle.worker_loop.proofs.Coming.{MayBe, after_append, came_in, inner_may, is_same, not_yet, one_came, shown_append, up_after, up_more}
use Rattle.worker_loop.proofs.Parted.{told_turn}
use Rattle.worker_loop.proofs.Running.{carried_notes, notes_append}
use Rattle.worker_loop.specs.Carrying.{Carried, CarriedAll, Nothing, One, events_in, is_done, named_in, room_event}
use Rattle.worker_loop.specs.Did.{Did, Admitted, Dispatched, Ended, Gave, Left, Noted as Handed, Offered, Refused, TurnedAway, notes_of}
use Rattle.worker_loop.specs.Parts.{CameUpTo, turn_events}
use Rattle.worker_loop.specs.Places.{Becomes, Changes, Place}
use Rattle.worker_loop.specs.Turns.{Accepted, Came, Full, Idled, IsPiece, Joined, Shut, Stopped, TakesUp, Went}
use Rattle.worker_loop.specs.Works.{AreInner, InnerRun, NoneRun, OfferRun, Runs, TakenRun, is_inner}
use Rattle.worker_ports.specs.Told.{with_last}
use Rattle.worker_ports.specs.Wires.{Gives, Seen, closed, is_live, without}
use Rattle.worker_ports.specs.declared.wires.WireStep.TheVariants as step
use Rattle.worker_ports.specs.declared.wires.Wired.TheVariants as wired
use Rattle.worker_ports.specs.declared.wires.Wired.{Wired}

-- ---- what was taken
abbrev pub taken_in : ℕ → List Did → List ℕ
taken_in c [] = []
taken_in c (Offered d piece n ∷ ds) = (if d == c then take n piece else []) ++ taken_in c ds
taken_in c (d ∷ ds) = taken_in c ds

taken_append : (c : ℕ) (ds es : List Did) → taken_in c (ds ++ es) ≡ taken_in c ds ++ taken_in c es
taken_append c [] es = refl
taken_append c (Gave w ∷ ds) es = taken_append c ds es
taken_append c (Admitted d ∷ ds) es = taken_append c ds es
taken_append c (Refused d ∷ ds) es = taken_append c ds es
taken_append c (TurnedAway d ∷ ds) es = taken_append c ds es
taken_append c (Left d ∷ ds) es = taken_append c ds es
taken_append c (Dispatched e ∷ ds) es = taken_append c ds es
taken_append c (Ended d ∷ ds) es = taken_append c ds es
taken_append c (Handed notes ∷ ds) es = taken_append c ds es
taken_append c (Offered d piece n ∷ ds) es =
    ap (λ (xs : List ℕ). (if d == c then take n piece else []) ++ xs) (taken_append c ds es) ∙ sym (append_assoc (if d == c then take n piece else []) (taken_in c ds) (taken_in c es))

ended_taken : (c : ℕ) (cs : List ℕ) (notes : List Note) → taken_in c (map Ended cs ++ Handed notes ∷ []) ≡ []
ended_taken c [] notes = refl
ended_taken c (d ∷ cs) notes = ended_taken c cs notes

carried_taken : (c : ℕ) (e : Event) (k : Kind) (ds : List Did) (new : Kind) → Carried e k ds new → taken_in c ds ≡ []
carried_taken c e k ds new d = ap (taken_in c) d.is ∙ ended_taken c (filter (is_done new) (named_in d.notes)) d.notes

-- ---- what so much that was done makes of a history
-- The notes that were handed over are those of some steps, and the core stands for the history with these behind it. What was taken
-- left the connections.
pub record Stood (k : Kind) (h : WayHistory) (ds : List Did) (new : Kind) (n : ℕ) : Type 0 where
  pub steps : List WayStep
  pub is : notes_of ds ≡ shown steps
  pub stands : StandsAt new (after steps h)
  pub up : CameUpTo n (after steps h)
  pub left : (c : ℕ) → gone world_setup c (after steps h) ≡ gone world_setup c h ++ taken_in c ds
  pub under : SameConfig k new
  pub ways : WaysAt k h → WaysAt k (after steps h)

stood_none : (h : WayHistory) (k : Kind) (n : ℕ) → StandsAt k h → CameUpTo n h → Stood k h [] k n
stood_none h k n stands up = record { steps = []; is = refl; stands = stands; up = up; left = λ c. sym (append-nil (gone world_setup c h)); under = same_under k h stands; ways = λ was. was }

-- the same of what hands over the same notes and takes the same
stood_front : {k : Kind} (h : WayHistory) (ds es : List Did) (new : Kind) (n : ℕ) → notes_of es ≡ notes_of ds → ((c : ℕ) → taken_in c es ≡ taken_in c ds) → Stood k h ds new n → Stood k h es new n
stood_front h ds es new n notes taken s = record {
  steps = s.steps;
  is = notes ∙ s.is;
  stands = s.stands;
  up = s.up;
  left = λ c. s.left c ∙ ap (λ (xs : List ℕ). gone world_setup c h ++ xs) (sym (taken c));
  under = s.under;
  ways = s.ways;
}

stood_up : {k : Kind} (h : WayHistory) (ds : List Did) (new : Kind) (n m : ℕ) → n ≤ m → Stood k h ds new n → Stood k h ds new m
stood_up h ds new n m less s = record { steps = s.steps; is = s.is; stands = s.stands; up = up_more n m (after s.steps h) less s.up; left = s.left; under = s.under; ways = s.ways }

stood_more : {k : Kind} (h : WayHistory) (ds es : List Did) (mid new : Kind) (n m : ℕ) → Stood k h ds mid n → ((j : WayHistory) → StandsAt mid j → CameUpTo n j → Stood mid j es new m) → Stood k h (ds ++ es) new m
stood_more {k} h ds es mid new n m one more =
    let two = more (after one.steps h) one.stands one.up in
    let behind = sym (after_append one.steps two.steps h) in
    record {
      steps = one.steps ++ two.steps;
      is = notes_append ds es ∙ ap (λ (ns : List Note). ns ++ notes_of es) one.is ∙ ap (λ (ns : List Note). shown one.steps ++ ns) two.is ∙ sym (shown_append one.steps two.steps);
      stands = subst (λ (j : WayHistory). StandsAt new j) behind two.stands;
      up = subst (λ (j : WayHistory). CameUpTo m j) behind two.up;
      left = λ c. ap (gone world_setup c) (after_append one.steps two.steps h) ∙ two.left c ∙ ap (λ (xs : List ℕ). xs ++ taken_in c es) (one.left c)
          ∙ append_assoc (gone world_setup c h) (taken_in c ds) (taken_in c es) ∙ ap (λ (xs : List ℕ). gone world_setup c h ++ xs) (sym (taken_append c ds es));
      under = under_more k mid new one.under two.under;
      ways = λ was. subst (λ (j : WayHistory). WaysAt k j) behind
          (ways_back k mid (after two.steps (after one.steps h)) one.under (two.ways (ways_under k mid (after one.steps h) one.under (one.ways was))));
    }

-- ---- one event
turn_shown : (k : Kind) (e : Event) (new : Kind) (notes : List Note) (h : WayHistory) → StandsAt k h → CarriesOut k [] e new notes → turn_events notes ≡ e ∷ []
turn_shown (kind.Wire old) e (kind.Wire new) notes h stands carries = told_turn _ e notes carries.notes
turn_shown (kind.Wire old) e (kind.Plain new) notes h stands carries = absurd carries
turn_shown (kind.Plain old) e new notes h stands carries = absurd stands

module _ (e : Event) (k new : Kind) (ds : List Did) (n : ℕ) (h : WayHistory) (carried : Carried e k ds new) (stands : StandsAt k h) (up : CameUpTo n h) (may : MayBe e n h) where
  goes : GoesOn k h (left_at e k (λ c. gone world_setup c h)) new carried.notes
  goes = goes_on k e new carried.notes carried.carries h stands may.fresh

  came : (steps : List WayStep) → carried.notes ≡ shown steps → (c : ℕ) → has (came_in (turn_events (shown steps))) c ≡ true → c ≤ n
  came steps is c there =
      let one : turn_events (shown steps) ≡ e ∷ [] = ap turn_events (sym is) ∙ turn_shown k e new carried.notes h stands carried.carries in
      may.up c (ap (λ (es : List Event). has (came_in es) c) (sym one) ∙ there)

  -- and what was done with it, which hands over the same notes
  stood_event : (es : List Did) → notes_of es ≡ notes_of ds → ((c : ℕ) → left_at e k (λ d. gone world_setup d h) c ≡ gone world_setup c h ++ taken_in c es) → Stood k h es new n
  stood_event es same taken = record {
    steps = goes.steps;
    is = same ∙ carried_notes e k ds new carried ∙ goes.is;
    stands = goes.stands;
    up = up_after n goes.steps h up (came goes.steps goes.is);
    left = λ c. goes.left c ∙ taken c;
    under = goes.under;
    ways = goes.ways;
  }

  -- no octets leave by it
  stood_quiet : ((g : ℕ → List ℕ) → left_at e k g ≡ g) → Stood k h ds new n
  stood_quiet none = stood_event ds refl (λ c.
      ap (λ (g : ℕ → List ℕ). g c) (none (λ d. gone world_setup d h)) ∙ sym (append-nil (gone world_setup c h)) ∙ ap (λ (xs : List ℕ). gone world_setup c h ++ xs) (sym (carried_taken c e k ds new carried)))

-- no octets leave by the event
abbrev LeavesNone : Event → Type 0
LeavesNone (event.Room c n) = ⊥
LeavesNone e = Unit {0}

left_same : (e : Event) → LeavesNone e → (conns : PagedMap Conn) (g : ℕ → List ℕ) → left_after e conns g ≡ g
left_same (event.Accept c) l conns g = refl
left_same (event.Join c cluster) l conns g = refl
left_same (event.Read c octets) l conns g = refl
left_same (event.Gone c) l conns g = refl
left_same (event.Room c n) l conns g = absurd l
left_same (event.Tick now) l conns g = refl
left_same (event.Post poster number job) l conns g = refl
left_same (event.Obey version pressures) l conns g = refl
left_same (event.Plain e) l conns g = refl

none_leaves : (e : Event) → LeavesNone e → (k : Kind) (g : ℕ → List ℕ) → left_at e k g ≡ g
none_leaves e l (kind.Plain core) g = refl
none_leaves e l (kind.Wire session) g = left_same e l session.core.conns g

inner_leaves : (e : Event) → is_inner e ≡ true → LeavesNone e
inner_leaves (event.Tick now) i = tt
inner_leaves (event.Post poster number job) i = tt
inner_leaves (event.Obey version pressures) i = tt
inner_leaves (event.Accept c) i = tt
inner_leaves (event.Join c cluster) i = tt
inner_leaves (event.Read c octets) i = tt
inner_leaves (event.Gone c) i = tt
inner_leaves (event.Room c n) i = cc
inner_leaves (event.Plain e) i = tt

all_inner : {es : List Event} {k : Kind} {ds : List Did} {new : Kind} → CarriedAll es k ds new → AreInner es → (n : ℕ) (h : WayHistory) → StandsAt k h → CameUpTo n h → Stood k h ds new n
all_inner (Nothing k) inner n h stands up = stood_none h k n stands up
all_inner (One e es k mid new ds rest first others) inner n h stands up =
    stood_more h ds rest mid new n n (stood_quiet e k mid ds n h first stands up (inner_may e n h inner.0) (λ g. none_leaves e (inner_leaves e inner.0) k g)) (λ j s u. all_inner others inner.1 n j s u)

-- ---- one event alone
none_more : {es : List Event} {k : Kind} {ds : List Did} {new : Kind} → CarriedAll es k ds new → es ≡ [] → (ds ≡ []) × (new ≡ k)
none_more (Nothing k) e = (refl, refl)
none_more (One f es k mid new ds rest first others) e = cc

one_carried : {es : List Event} {k : Kind} {ds : List Did} {new : Kind} → CarriedAll es k ds new → (e : Event) → es ≡ e ∷ [] → Carried e k ds new
one_carried (Nothing k) e is = cc
one_carried (One f es k mid new ds rest first others) e is =
    let same : f ≡ e = cc in
    let over = none_more others (let none : es ≡ [] = cc in none) in
    subst (λ (v : Event). Carried v k (ds ++ rest) new) same
    (subst (λ (j : Kind). Carried f k (ds ++ rest) j) (sym over.1)
    (subst (λ (xs : List Did). Carried f k xs mid) (sym (ap (λ (xs : List Did). ds ++ xs) over.0 ∙ append-nil ds)) first))

stood_one : {k : Kind} {ds : List Did} {new : Kind} (e : Event) → LeavesNone e → CarriedAll (e ∷ []) k ds new → (n : ℕ) (h : WayHistory) → StandsAt k h → CameUpTo n h → MayBe e n h → Stood k h ds new n
stood_one {k} {ds} {new} e l all n h stands up may = stood_quiet e k new ds n h (one_carried all e refl) stands up may (λ g. none_leaves e l k g)

-- ---- what was taken up
gives_rise : (old : Seen) (w : Wired) (new : Seen) → Gives old w new → old.greatest ≤ new.greatest
gives_rise old (wired.Accept c) new g = let is : new.greatest ≡ c = ap (λ (s : Seen). s.greatest) g.is in let less = g.may in omega (arith, is, less)
gives_rise old (wired.Join c cluster) new g = let is : new.greatest ≡ c = ap (λ (s : Seen). s.greatest) g.is in let less = g.may.0 in omega (arith, is, less)
gives_rise old (wired.Read c octets) new g = let is : new.greatest ≡ old.greatest = ap (λ (s : Seen). s.greatest) g.is in omega (arith, is)
gives_rise old (wired.Lost c) new g = let is : new.greatest ≡ old.greatest = ap (λ (s : Seen). s.greatest) g.is in omega (arith, is)
gives_rise old wired.Idle new g = let is : new.greatest ≡ old.greatest = ap (λ (s : Seen). s.greatest) g.is in omega (arith, is)
gives_rise old wired.Stop new g = let is : new.greatest ≡ old.greatest = ap (λ (s : Seen). s.greatest) g.is in omega (arith, is)

module _ (old new : Seen) (h : WayHistory) (up : CameUpTo old.greatest h) where
  accept_may : (c : ℕ) → Gives old (wired.Accept c) new → MayBe (event.Accept c) new.greatest h
  accept_may c g = record { fresh = not_yet old.greatest c h up g.may; up = λ d there. one_came c d new.greatest (ap (λ (s : Seen). s.greatest) g.is) there }

  join_may : (c cluster : ℕ) → Gives old (wired.Join c cluster) new → MayBe (event.Join c cluster) new.greatest h
  join_may c cluster g = record { fresh = not_yet old.greatest c h up g.may.0; up = λ d there. one_came c d new.greatest (ap (λ (s : Seen). s.greatest) g.is) there }

  taken_stands : {k : Kind} {w : Wired} {ds : List Did} {k' : Kind} → TakesUp k w ds k' → Gives old w new → StandsAt k h → CameUpTo new.greatest h → Stood k h ds k' new.greatest
  taken_stands {k} (Shut c isnt) g stands more = stood_front h [] (TurnedAway c ∷ []) k new.greatest refl (λ d. refl) (stood_none h k new.greatest stands more)
  taken_stands {k} (Full c holds_so) g stands more = stood_front h [] (Refused c ∷ TurnedAway c ∷ []) k new.greatest refl (λ d. refl) (stood_none h k new.greatest stands more)
  taken_stands (Accepted c ds mid holds_so all) g stands more =
      stood_front h ds (Admitted c ∷ ds) mid new.greatest refl (λ d. refl) (stood_one (event.Accept c) tt all new.greatest h stands more (accept_may c g))
  taken_stands (Joined c cluster ds mid all) g stands more = stood_one (event.Join c cluster) tt all new.greatest h stands more (join_may c cluster g)
  taken_stands (Came c octets ds mid all) g stands more = stood_one (event.Read c octets) tt all new.greatest h stands more (record { fresh = tt; up = λ d there. cc })
  taken_stands (Went c ds mid all) g stands more =
      stood_front h ds (Left c ∷ ds) mid new.greatest refl (λ d. refl) (stood_one (event.Gone c) tt all new.greatest h stands more (record { fresh = tt; up = λ d there. cc }))
  taken_stands {k} Idled g stands more = stood_none h k new.greatest stands more
  taken_stands {k} Stopped g stands more = stood_none h k new.greatest stands more

-- ---- what was offered
same_branch : (b : Bool) (xs : List ℕ) → (if b then xs else xs) ≡ xs
same_branch true xs = refl
same_branch false xs = refl

-- a front of a front of what waits
room_left : (k : Kind) (h : WayHistory) (c n : ℕ) (piece : List ℕ) → StandsAt k h → IsPiece k c piece → n ≤ length piece → (g : ℕ → List ℕ) (d : ℕ) → left_at (event.Room c n) k g d ≡ g d ++ (if c == d then take n piece else [])
room_left (kind.Plain core) h c n piece stands front most g d = absurd stands
room_left (kind.Wire session) h c n piece stands front most g d = ap (λ (xs : List ℕ). g d ++ xs) (by (c == d) refl)
  where
    same : take n piece ≡ take n (octets_of c session.core.conns)
    same = ap (take n) front.front ∙ take-take n (length piece) (octets_of c session.core.conns) most

    by : (b : Bool) → (c == d) ≡ b → (if b then take n (octets_of d session.core.conns) else []) ≡ (if b then take n piece else [])
    by true e = ap (λ (v : ℕ). take n (octets_of v session.core.conns)) (sym (is_same c d e)) ∙ sym same
    by false e = refl

some_there : (n : ℕ) → nat_lt 0 (suc n) ≡ true
some_there n = grind (arith, nat_tests)

module _ (c : ℕ) (piece : List ℕ) (k : Kind) (m : ℕ) (h : WayHistory) (front : IsPiece k c piece) (stands : StandsAt k h) (up : CameUpTo m h) where
  nothing_taken : (ds : List Did) (new : Kind) → (ds ≡ []) × (new ≡ k) → Stood k h (Offered c piece zero ∷ ds) new m
  nothing_taken ds new over =
      subst (λ (xs : List Did). Stood k h (Offered c piece zero ∷ xs) new m) (sym over.0)
      (subst (λ (j : Kind). Stood k h (Offered c piece zero ∷ []) j m) (sym over.1)
      (stood_front h [] (Offered c piece zero ∷ []) k m refl (λ d. append-nil (if c == d then [] else []) ∙ same_branch (c == d) []) (stood_none h k m stands up)))

  some_taken : (n : ℕ) (ds : List Did) (new : Kind) → n ≤ length piece → Carried (event.Room c n) k ds new → Stood k h (Offered c piece n ∷ ds) new m
  some_taken n ds new most one =
      stood_event (event.Room c n) k new ds m h one stands up (record { fresh = tt; up = λ d there. cc }) (Offered c piece n ∷ ds) refl (λ d.
      room_left k h c n piece stands front most (λ e. gone world_setup e h) d
      ∙ ap (λ (xs : List ℕ). gone world_setup d h ++ xs)
      (sym (append-nil (if c == d then take n piece else [])) ∙ ap (λ (xs : List ℕ). (if c == d then take n piece else []) ++ xs) (sym (carried_taken d (event.Room c n) k ds new one))))

  by_room : (b : Bool) (n : ℕ) (ds : List Did) (new : Kind) → nat_lt 0 n ≡ b → n ≤ length piece → CarriedAll (events_in (if b then Some (event.Room c n) else None)) k ds new → Stood k h (Offered c piece n ∷ ds) new m
  by_room true n ds new is most all = some_taken n ds new most (one_carried all (event.Room c n) refl)
  by_room false zero ds new is most all = nothing_taken ds new (none_more all refl)
  by_room false (suc n) ds new is most all = absurd (false≢true (sym is ∙ some_there n))

  offered_stands : (n : ℕ) (ds : List Did) (new : Kind) → n ≤ length piece → CarriedAll (events_in (room_event c n)) k ds new → Stood k h (Offered c piece n ∷ ds) new m
  offered_stands n ds new most all = by_room (nat_lt 0 n) n ds new refl most all

-- ---- the greatest number that came
close_by : (b : Bool) (c : ℕ) (s : Seen) → (if b then record s { live = without c s.live; held = without c s.held; steps = with_last (step.Closed c) s.steps } else s).greatest ≡ s.greatest
close_by true c s = refl
close_by false c s = refl

closed_greatest : (c : ℕ) (old new : Seen) → new ≡ closed c old → old.greatest ≤ new.greatest
closed_greatest c old new e = let is : new.greatest ≡ old.greatest = ap (λ (s : Seen). s.greatest) e ∙ close_by (is_live c old) c old in omega (arith, is)

pub same_greatest : (v w : Place) → w.seen.greatest ≡ v.seen.greatest → v.seen.greatest ≤ w.seen.greatest
same_greatest v w e = omega (arith, e)

pub then_rises : (a b c : ℕ) → a ≤ b → b ≤ c → a ≤ c
then_rises a b c first second = omega (arith, first, second)

pub rises : (names : List (List ℕ)) (ds : List Did) (v w : Place) → Becomes names v ds w → v.seen.greatest ≤ w.seen.greatest
rises names [] v w b = same_greatest v w (ap (λ (p : Place). p.seen.greatest) b)
rises names (d ∷ ds) v w b = then_rises v.seen.greatest b.0.seen.greatest w.seen.greatest (one d b.1) (rises names ds b.0 w b.2)
  where
    one : (d : Did) → Changes names v d b.0 → v.seen.greatest ≤ b.0.seen.greatest
    one (Gave g) c = gives_rise v.seen g b.0.seen c.1
    one (Admitted n) c = same_greatest v b.0 (ap (λ (p : Place). p.seen.greatest) c.0)
    one (Refused n) c = same_greatest v b.0 (ap (λ (p : Place). p.seen.greatest) c.0)
    one (TurnedAway n) c = closed_greatest n v.seen b.0.seen (ap (λ (p : Place). p.seen) c)
    one (Left n) c = same_greatest v b.0 (ap (λ (p : Place). p.seen.greatest) c)
    one (Dispatched e) c = same_greatest v b.0 (ap (λ (p : Place). p.seen.greatest) c.0)
    one (Ended n) c = closed_greatest n v.seen b.0.seen (ap (λ (p : Place). p.seen) c)
    one (Handed notes) c = same_greatest v b.0 (ap (λ (p : Place). p.seen.greatest) c)
    one (Offered n piece m) c = same_greatest v b.0 (ap (λ (p : Place). p.seen.greatest) c)

-- ---- whole parts of turns
pub runs_stand : {k : Kind} {ds : List Did} {new : Kind} (names : List (List ℕ)) (v w : Place) → Runs k ds new → Becomes names v ds w → (h : WayHistory) → StandsAt k h → CameUpTo v.seen.greatest h → Stood k h ds new w.seen.greatest
runs_stand names v w (NoneRun k) b h stands up = stood_up h [] k v.seen.greatest w.seen.greatest (same_greatest v w (ap (λ (p : Place). p.seen.greatest) b)) (stood_none h k v.seen.greatest stands up)
runs_stand names v w (InnerRun es k mid new ds rest inner rising all others) b h stands up =
    let r = becomes_split names ds rest v w b in
    stood_more h ds rest mid new r.0.seen.greatest w.seen.greatest (stood_up h ds mid v.seen.greatest r.0.seen.greatest (rises names ds v r.0 r.1) (all_inner all inner v.seen.greatest h stands up))
    (λ j s u. runs_stand names r.0 w others r.2 j s u)
runs_stand names v w (TakenRun given k mid new ds rest taken others) b h stands up =
    let r = becomes_split names ds rest b.0 w b.2 in
    let more = up_more v.seen.greatest b.0.seen.greatest h (gives_rise v.seen given b.0.seen b.1.1) up in
    let one = taken_stands v.seen b.0.seen h up taken b.1.1 stands more in
    stood_front h (ds ++ rest) (Gave given ∷ (ds ++ rest)) new w.seen.greatest refl (λ c. refl)
    (stood_more h ds rest mid new r.0.seen.greatest w.seen.greatest (stood_up h ds mid b.0.seen.greatest r.0.seen.greatest (rises names ds b.0 r.0 r.1) one) (λ j s u. runs_stand names r.0 w others r.2 j s u))
runs_stand names v w (OfferRun c n piece k mid new ds rest front most all others) b h stands up =
    let r = becomes_split names ds rest b.0 w b.2 in
    let first = rises names (Offered c piece n ∷ ds) v r.0 (b.0, b.1, r.1) in
    let one = offered_stands c piece k v.seen.greatest h front stands up n ds mid most all in
    stood_more h (Offered c piece n ∷ ds) rest mid new r.0.seen.greatest w.seen.greatest (stood_up h (Offered c piece n ∷ ds) mid v.seen.greatest r.0.seen.greatest first one) (λ j s u. runs_stand names r.0 w others r.2 j s u)
