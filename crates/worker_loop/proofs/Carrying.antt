-- Events that are carried out one after the other.
use Rattle.flow_notes.specs.Event.{IsEvent}
use Rattle.flow_notes.specs.declared.events.Event.{Event}
use Rattle.flow_notes.specs.declared.events.Event.TheVariants as event
use Rattle.flow_notes.specs.declared.events.Job.{Job}
use Rattle.flow_notes.specs.declared.events.Job.TheVariants as job
use Rattle.flow_notes.specs.Job.{IsJob}
use Rattle.post_queue.specs.Posts.{IsAllowed, IsAllowedJob}
use Rattle.post_queue.specs.declared.posts.Post.{Post}
use Rattle.std.proofs.Common.{All, ap, append_assoc, arith, refl, subst, sym, ◌∙◌}
use Rattle.std.proofs.lemmas.Bool.Decides.{nat_tests}
use Rattle.std.proofs.lemmas.List.{append-nil, map-append}
use Rattle.std.proofs.lemmas.List.Elements.{All-head, All-tail}
use Rattle.shared_state.specs.declared.follower.Snapshot.{Snapshot}
use Rattle.std.specs.Prelude.{Bool, IfSome, List, MatchOption, None, Option, Result, Some, [], false, if◌then◌else◌, length, map, nat_lt, take, true, ℕ, ◌++◌, ◌<◌, ◌^◌, ◌∷◌, ◌≡◌, ◌≤◌}
use Rattle.worker_core.specs.Sessions.{RestsWire, version_of}
use Rattle.worker_core.specs.declared.worker.Kind.{Kind}
use Rattle.worker_loop.proofs.Becoming.{becomes_append}
use Rattle.worker_loop.specs.Carrying.{CarriedAll, Nothing, One, events_in, obeyed_event, obeys, post_event, pressures_in}
use Rattle.worker_loop.specs.Clauses.{Carries, CarriesAs, RunsCut}
use Rattle.worker_loop.specs.Cutting.{CutsOne}
use Rattle.worker_loop.specs.Did.{Did}
use Rattle.worker_loop.specs.Places.{Becomes, Place}
use Rattle.worker_loop.specs.declared.turns.Ended.{Ended as End}

pub all_append : {es : List Event} {k : Kind} {ds : List Did} {mid : Kind} → CarriedAll es k ds mid → (fs : List Event) (rest : List Did) (new : Kind) → CarriedAll fs mid rest new → CarriedAll (es ++ fs) k (ds ++ rest) new
all_append (Nothing k) fs rest new more = more
all_append (One e es k m mid ds tail first others) fs rest new more =
    subst (λ (all : List Did). CarriedAll (e ∷ (es ++ fs)) k all new) (sym (append_assoc ds tail rest)) (One e (es ++ fs) k m new ds (tail ++ rest) first (all_append others fs rest new more))

-- ---- posts
job_is : (j : Job) → IsAllowedJob j → IsJob j
job_is job.Drain may = tt
job_is (job.Cancel x) may = may
job_is job.Look may = tt

pub post_is : (names : List (List ℕ)) (p : Post) → IsAllowed p → IsEvent names (post_event p)
post_is names p may = (may.0, job_is p.job may.1)

pub first_allowed : (p : Post) (rest after : List Post) → rest ≡ p ∷ after → All IsAllowed rest → IsAllowed p
first_allowed p rest after e all = All-head IsAllowed p after (subst (λ (ps : List Post). All IsAllowed ps) e all)

pub rest_allowed : (p : Post) (rest after : List Post) → rest ≡ p ∷ after → All IsAllowed rest → All IsAllowed after
rest_allowed p rest after e all = All-tail IsAllowed p after (subst (λ (ps : List Post). All IsAllowed ps) e all)

-- so many of them were carried out
pub record RunsSoFar (names : List (List ℕ)) (posts rest : List Post) (k : Kind) (v : Place) (k' : Kind) (w : Place) : Type 0 where
  pub ran : List Post
  pub is : posts ≡ ran ++ rest
  pub did : List Did
  pub all : CarriedAll (map post_event ran) k did k'
  pub becomes : Becomes names v did w
  pub rests : RestsWire k'
  pub allowed : All IsAllowed rest

pub none_ran : (names : List (List ℕ)) (posts : List Post) (k : Kind) (v : Place) → RestsWire k → All IsAllowed posts → RunsSoFar names posts posts k v k v
none_ran names posts k v rests allowed = record { ran = []; is = refl; did = []; all = Nothing k; becomes = refl; rests = rests; allowed = allowed }

module _ (names : List (List ℕ)) (posts rest after : List Post) (p : Post) (k0 k k' : Kind) (v0 v w : Place) (at : rest ≡ p ∷ after) (so : RunsSoFar names posts rest k0 v0 k v) where
  posts_are : posts ≡ (so.ran ++ p ∷ []) ++ after
  posts_are = so.is ∙ ap (λ (ps : List Post). so.ran ++ ps) at ∙ sym (append_assoc so.ran (p ∷ []) after)

  pub more_ran : All IsAllowed after → Carries names (post_event p ∷ []) k v k' w → RunsSoFar names posts after k0 v0 k' w
  more_ran allowed one = record {
    ran = so.ran ++ p ∷ [];
    is = posts_are;
    did = so.did ++ one.did;
    all = subst (λ (es : List Event). CarriedAll es k0 (so.did ++ one.did) k') (sym (map-append post_event so.ran (p ∷ []))) (all_append so.all (post_event p ∷ []) one.did k' one.all);
    becomes = becomes_append names so.did one.did v0 v w so.becomes one.becomes;
    rests = one.rests;
    allowed = allowed;
  }

  pub cut_posts : (end : End) → CutsOne names end k v k' w → RunsCut names posts end k0 v0 k' w
  cut_posts end cut = record {
    done = so.ran;
    rest = rest;
    is = so.is;
    did = so.did;
    kind = k;
    mid = v;
    all = so.all;
    becomes = so.becomes;
    cut = cut;
  }

pub none_in : (ps : List Post) → length ps ≡ 0 → ps ≡ []
none_in [] e = refl
none_in (p ∷ ps) e = absurd (omega (arith, e))

pub all_ran : (names : List (List ℕ)) (posts rest : List Post) (k0 k : Kind) (v0 v : Place) → rest ≡ [] → RunsSoFar names posts rest k0 v0 k v → Carries names (map post_event posts) k0 v0 k v
all_ran names posts rest k0 k v0 v e so = record {
  did = so.did;
  all = subst (λ (ps : List Post). CarriedAll (map post_event ps) k0 so.did k) (sym (so.is ∙ ap (λ (ps : List Post). so.ran ++ ps) e ∙ append-nil so.ran)) so.all;
  becomes = so.becomes;
  rests = so.rests;
}

-- ---- what is published
none_by : (b : Bool) (e : Event) → b ≡ false → [] ≡ events_in (if b then Some e else None)
none_by true e isnt = cc
none_by false e isnt = refl

one_by : (b : Bool) (e : Event) → b ≡ true → e ∷ [] ≡ events_in (if b then Some e else None)
one_by true e is = refl
one_by false e is = cc

not_newer : (n m : ℕ) → m ≤ n → nat_lt n m ≡ false
not_newer n m less = grind (arith, nat_tests)

is_newer : (n m : ℕ) → n < m → nat_lt n m ≡ true
is_newer n m less = grind (arith, nat_tests)

-- what is answered of a version where that is newer than what was obeyed: so many of all its pressures
abbrev IsNewer : ℕ → ℕ → ℕ → List ℕ → Option Snapshot → Type 0
IsNewer version obeyed n all newer = MatchOption newer (version ≤ obeyed) (λ s. (obeyed < s.version) × (s.version ≡ version) × (s.pressures ≡ take n all))

obeys_as : (k : Kind) (version obeyed n : ℕ) (all : List ℕ) (newer : Option Snapshot) → obeyed ≡ version_of k → IsNewer version obeyed n all newer → obeys newer ≡ events_in (obeyed_event k version (pressures_in newer))
obeys_as k version obeyed n all None is less = none_by (nat_lt (version_of k) version) (event.Obey version []) (not_newer (version_of k) version (omega (arith, is, less)))
obeys_as k version obeyed n all (Some s) is (more, same, front) =
    ap (λ (v : ℕ). event.Obey v s.pressures ∷ []) same ∙ one_by (nat_lt (version_of k) version) (event.Obey version s.pressures) (is_newer (version_of k) version (omega (arith, is, more, same)))

pub obeyed_as : (names : List (List ℕ)) (k k' : Kind) (v w : Place) (version obeyed n : ℕ) (all : List ℕ) (newer : Option Snapshot) → obeyed ≡ version_of k → IsNewer version obeyed n all newer
    → Carries names (obeys newer) k v k' w → Carries names (events_in (obeyed_event k version (pressures_in newer))) k v k' w
obeyed_as names k k' v w version obeyed n all newer is answer carries = subst (λ (es : List Event). Carries names es k v k' w) (obeys_as k version obeyed n all newer is answer) carries

pub front_of_kept : (version obeyed n : ℕ) (all : List ℕ) (newer : Option Snapshot) → IsNewer version obeyed n all newer → IfSome newer (λ s. length s.pressures ≡ n)
    → pressures_in newer ≡ take (length (pressures_in newer)) all
front_of_kept version obeyed n all None answer len = refl
front_of_kept version obeyed n all (Some s) (more, same, front) len = front ∙ ap (λ (m : ℕ). take m all) (sym len)

-- it answered nothing, and nothing is obeyed
pub none_obeyed : (names : List (List ℕ)) (k : Kind) (v : Place) (newer : Option Snapshot) → newer ≡ None → RestsWire k → Carries names (obeys newer) k v k v
none_obeyed names k v newer is rests =
    subst (λ (o : Option Snapshot). Carries names (obeys o) k v k v) (sym is) (record { did = []; all = Nothing k; becomes = refl; rests = rests })

-- it answered this
module _ (newer : Option Snapshot) (s : Snapshot) (is : newer ≡ Some s) where
  pub is_numbered : IfSome newer (λ x. x.version < 2 ^ 63) → s.version < 2 ^ 63
  is_numbered may = subst (λ (o : Option Snapshot). IfSome o (λ x. x.version < 2 ^ 63)) is may

  pub one_obeyed : (names : List (List ℕ)) (k k' : Kind) (v w : Place) (r : Result (Unit {0}) End) → CarriesAs names (event.Obey s.version s.pressures ∷ []) k v r k' w → CarriesAs names (obeys newer) k v r k' w
  one_obeyed names k k' v w r carries = subst (λ (o : Option Snapshot). CarriesAs names (obeys o) k v r k' w) (sym is) carries
