-- The version that the core obeyed last, from one event to the next.
use Rattle.flow_notes.specs.declared.events.Event.{Event}
use Rattle.flow_notes.specs.declared.events.Event.TheVariants as event
use Rattle.flow_notes.specs.declared.notes.Note.{Note}
use Rattle.post_queue.specs.declared.posts.Post.{Post}
use Rattle.std.proofs.Common.{ap, arith, refl, subst, sym, ◌∙◌}
use Rattle.std.proofs.lemmas.Bool.Decides.{nat_tests}
use Rattle.std.specs.Prelude.{Bool, List, None, Some, [], false, if◌then◌else◌, map, nat_lt, true, ℕ, ◌++◌, ◌<◌, ◌∷◌, ◌≡◌, ◌≤◌}
use Rattle.worker_core.specs.Dispatching.{obeyed_after}
use Rattle.worker_core.specs.Sessions.{CarriesOut, RestsWire, version_of}
use Rattle.worker_core.specs.declared.worker.Kind.{Kind}
use Rattle.worker_core.specs.declared.worker.Kind.TheVariants as kind
use Rattle.worker_loop.proofs.Dispatching.{rests_after}
use Rattle.worker_loop.proofs.Running.{all_events, events_append}
use Rattle.worker_loop.specs.Carrying.{CarriedAll, Nothing, One, events_in, obeyed_event, post_event, room_event}
use Rattle.worker_loop.specs.Did.{Admitted, Did, Gave, Left, Offered, events_of}
use Rattle.worker_loop.specs.Places.{Place}
use Rattle.worker_loop.specs.Turns.{Accepted, Came, Empty, Full, Idled, IsTurn, Joined, NoneOffered, Offers, OneOffered, Shut, Sides, Stopped, TakesUp, Went}
use Rattle.worker_loop.specs.Works.{AreRising, InnerRun, NoneRun, OfferRun, Runs, TakenRun, versions_in}
use Rattle.worker_ports.specs.declared.wires.Wired.{Wired}

-- ---- numbers
-- the last of these, or n
abbrev last_after : ℕ → List ℕ → ℕ
last_after n [] = n
last_after n (m ∷ ms) = last_after m ms

rising_append : (n : ℕ) (xs ys : List ℕ) → AreRising n xs → AreRising (last_after n xs) ys → AreRising n (xs ++ ys)
rising_append n [] ys first more = more
rising_append n (x ∷ xs) ys first more = (first.0, rising_append x xs ys first.1 more)

last_append : (n : ℕ) (xs ys : List ℕ) → last_after n (xs ++ ys) ≡ last_after (last_after n xs) ys
last_append n [] ys = refl
last_append n (x ∷ xs) ys = last_append x xs ys

versions_append : (es fs : List Event) → versions_in (es ++ fs) ≡ versions_in es ++ versions_in fs
versions_append [] fs = refl
versions_append (event.Obey v p ∷ es) fs = ap (λ (xs : List ℕ). v ∷ xs) (versions_append es fs)
versions_append (event.Tick now ∷ es) fs = versions_append es fs
versions_append (event.Accept c ∷ es) fs = versions_append es fs
versions_append (event.Join c n ∷ es) fs = versions_append es fs
versions_append (event.Read c o ∷ es) fs = versions_append es fs
versions_append (event.Gone c ∷ es) fs = versions_append es fs
versions_append (event.Room c n ∷ es) fs = versions_append es fs
versions_append (event.Post p n j ∷ es) fs = versions_append es fs
versions_append (event.Plain h ∷ es) fs = versions_append es fs

posts_versions : (ps : List Post) → versions_in (map post_event ps) ≡ []
posts_versions [] = refl
posts_versions (p ∷ ps) = posts_versions ps

room_by : (b : Bool) (c n : ℕ) → versions_in (events_in (if b then Some (event.Room c n) else None)) ≡ []
room_by true c n = refl
room_by false c n = refl

room_versions : (c n : ℕ) → versions_in (events_in (room_event c n)) ≡ []
room_versions c n = room_by (nat_lt 0 n) c n

-- ---- one event after the other
carries_version : (k : Kind) (before : List Note) (e : Event) (new : Kind) (after : List Note) → RestsWire k → CarriesOut k before e new after → version_of new ≡ obeyed_after e (version_of k)
carries_version (kind.Wire old) before e (kind.Wire new) after rests carries = carries.obeyed
carries_version (kind.Wire old) before e (kind.Plain new) after rests carries = absurd carries
carries_version (kind.Plain old) before e new after rests carries = absurd rests

after_one : (e : Event) (es : List Event) (n : ℕ) → last_after (obeyed_after e n) (versions_in es) ≡ last_after n (versions_in (e ∷ es))
after_one (event.Obey v p) es n = refl
after_one (event.Tick now) es n = refl
after_one (event.Accept c) es n = refl
after_one (event.Join c m) es n = refl
after_one (event.Read c o) es n = refl
after_one (event.Gone c) es n = refl
after_one (event.Room c m) es n = refl
after_one (event.Post p m j) es n = refl
after_one (event.Plain h) es n = refl

-- the core is at rest, and obeyed this version last
record Now (n : ℕ) (new : Kind) : Type 0 where
  rests : RestsWire new
  last : version_of new ≡ n

all_now : {es : List Event} {k : Kind} {ds : List Did} {new : Kind} → RestsWire k → CarriedAll es k ds new → Now (last_after (version_of k) (versions_in es)) new
all_now rests (Nothing k) = record { rests = rests; last = refl }
all_now rests (One e es k mid new ds rest first others) =
    let more = all_now (rests_after k [] e mid first.notes rests first.carries) others in
    let one : version_of mid ≡ obeyed_after e (version_of k) = carries_version k [] e mid first.notes rests first.carries in
    record { rests = more.rests; last = more.last ∙ ap (λ (n : ℕ). last_after n (versions_in es)) one ∙ after_one e es (version_of k) }

-- nothing was published
record Stays (k : Kind) (ds : List Did) (new : Kind) : Type 0 where
  rests : RestsWire new
  same : version_of new ≡ version_of k
  none : versions_in (events_of ds) ≡ []

stays_none : (k : Kind) → RestsWire k → Stays k [] k
stays_none k rests = record { rests = rests; same = refl; none = refl }

all_stay : {es : List Event} {k : Kind} {ds : List Did} {new : Kind} → RestsWire k → versions_in es ≡ [] → CarriedAll es k ds new → Stays k ds new
all_stay {es} {k} rests none all =
    let now = all_now rests all in
    record { rests = now.rests; same = now.last ∙ ap (λ (xs : List ℕ). last_after (version_of k) xs) none; none = ap versions_in (all_events all) ∙ none }

-- what is no event stands in front
stays_behind : (k : Kind) (ds es : List Did) (new : Kind) → events_of es ≡ events_of ds → Stays k ds new → Stays k es new
stays_behind k ds es new e s = record { rests = s.rests; same = s.same; none = ap versions_in e ∙ s.none }

taken_stays : {k : Kind} {w : Wired} {ds : List Did} {new : Kind} → RestsWire k → TakesUp k w ds new → Stays k ds new
taken_stays {k} rests (Shut c isnt) = record { rests = rests; same = refl; none = refl }
taken_stays {k} rests (Full c holds_so) = record { rests = rests; same = refl; none = refl }
taken_stays {k} rests (Accepted c es new holds_so all) = stays_behind k es (Admitted c ∷ es) new refl (all_stay rests refl all)
taken_stays rests (Joined c cluster es new all) = all_stay rests refl all
taken_stays rests (Came c octets es new all) = all_stay rests refl all
taken_stays {k} rests (Went c es new all) = stays_behind k es (Left c ∷ es) new refl (all_stay rests refl all)
taken_stays {k} rests Idled = stays_none k rests
taken_stays {k} rests Stopped = stays_none k rests

offers_stay : {k0 : Kind} {ds : List Did} {last : ℕ} {k : Kind} → RestsWire k0 → Offers k0 ds last k → Now (version_of k0) k
offers_stay rests NoneOffered = record { rests = rests; last = refl }
offers_stay rests (Empty ds last c k so next none) = offers_stay rests so
offers_stay rests (OneOffered ds es last c n piece k new so next front most all) =
    let before = offers_stay rests so in
    let s = all_stay before.rests (room_versions c n) all in
    record { rests = s.rests; last = s.same ∙ before.last }

-- ---- whole parts of turns
pub record Versions (k : Kind) (es : List Event) (new : Kind) : Type 0 where
  pub rises : AreRising (version_of k) (versions_in es)
  pub last : version_of new ≡ last_after (version_of k) (versions_in es)

versions_more : (k mid new : Kind) (es fs all : List Event) → all ≡ es ++ fs → Versions k es mid → Versions mid fs new → Versions k all new
versions_more k mid new es fs all e one two =
    let is : versions_in all ≡ versions_in es ++ versions_in fs = ap versions_in e ∙ versions_append es fs in
    let behind : AreRising (last_after (version_of k) (versions_in es)) (versions_in fs) = subst (λ (n : ℕ). AreRising n (versions_in fs)) one.last two.rises in
    record {
      rises = subst (λ (xs : List ℕ). AreRising (version_of k) xs) (sym is) (rising_append (version_of k) (versions_in es) (versions_in fs) one.rises behind);
      last = two.last ∙ ap (λ (n : ℕ). last_after n (versions_in fs)) one.last ∙ sym (last_append (version_of k) (versions_in es) (versions_in fs)) ∙ ap (λ (xs : List ℕ). last_after (version_of k) xs) (sym is);
    }

stays_versions : (k new : Kind) (ds : List Did) → Stays k ds new → Versions k (events_of ds) new
stays_versions k new ds s = record {
  rises = subst (λ (xs : List ℕ). AreRising (version_of k) xs) (sym s.none) tt;
  last = s.same ∙ ap (λ (xs : List ℕ). last_after (version_of k) xs) (sym s.none);
}

pub runs_versions : {k : Kind} {ds : List Did} {new : Kind} → RestsWire k → Runs k ds new → Versions k (events_of ds) new
runs_versions rests (NoneRun k) = record { rises = tt; last = refl }
runs_versions rests (InnerRun es k mid new ds rest inner rising all others) =
    let now = all_now rests all in
    versions_more k mid new es (events_of rest) (events_of (ds ++ rest)) (events_append ds rest ∙ ap (λ (xs : List Event). xs ++ events_of rest) (all_events all))
    (record { rises = rising; last = now.last }) (runs_versions now.rests others)
runs_versions rests (TakenRun given k mid new ds rest taken others) =
    let s = taken_stays rests taken in
    versions_more k mid new (events_of ds) (events_of rest) (events_of (ds ++ rest)) (events_append ds rest) (stays_versions k mid ds s) (runs_versions s.rests others)
runs_versions rests (OfferRun c n piece k mid new ds rest front most all others) =
    let s = all_stay rests (room_versions c n) all in
    versions_more k mid new (events_of ds) (events_of rest) (events_of (ds ++ rest)) (events_append ds rest) (stays_versions k mid ds s) (runs_versions s.rests others)

-- ---- a turn
newest_by : (b : Bool) (n version : ℕ) (pressures : List ℕ) → (b ≡ false → n ≡ version) → last_after n (versions_in (events_in (if b then Some (event.Obey version pressures) else None))) ≡ version
newest_by true n version pressures older = refl
newest_by false n version pressures older = older refl

not_less : (n m : ℕ) → n ≤ m → nat_lt n m ≡ false → n ≡ m
not_less n m most isnt = grind (arith, nat_tests)

newest : (k : Kind) (version : ℕ) (pressures : List ℕ) → version_of k ≤ version → last_after (version_of k) (versions_in (events_in (obeyed_event k version pressures))) ≡ version
newest k version pressures most = newest_by (nat_lt (version_of k) version) (version_of k) version pressures (not_less (version_of k) version most)

pub turn_obeys : (names : List (List ℕ)) (old new : Sides) (k k' : Kind) (v w : Place) (stops : Bool) → RestsWire k → IsTurn names old k v new k' w stops → version_of k ≤ old.kept.version → version_of k' ≡ new.kept.version
turn_obeys names old new k k' v w stops rests t most =
    let a = all_stay rests refl t.ticked in
    let b = all_stay a.rests (posts_versions t.posts) t.ran in
    let less : version_of t.k2 ≤ t.version = let x : version_of t.k2 ≡ version_of k = b.same ∙ a.same in omega (arith, x, most, t.asks.rising) in
    let c = all_now b.rests t.obeyed in
    let d = taken_stays c.rests t.taken in
    let e = offers_stay d.rests t.offered in
    e.last ∙ d.same ∙ c.last ∙ newest t.k2 t.version t.pressures less ∙ t.asks.newest
