-- A turn, whole or broken off.
use Rattle.flow_notes.specs.declared.events.Event.{Event}
use Rattle.flow_notes.specs.declared.events.Event.TheVariants as event
use Rattle.post_queue.specs.Posts.{IsAllowed}
use Rattle.post_queue.specs.declared.hand.Hand.{Hand}
use Rattle.post_queue.specs.declared.posts.Post.{Post}
use Rattle.shared_state.specs.Version.{looked}
use Rattle.shared_state.specs.declared.entries.Entry.{Entry}
use Rattle.shared_state.specs.declared.version_word.VersionView.{VersionView}
use Rattle.std.proofs.Common.{All, ap, arith, inl, inr, refl, subst, sym, ◌∙◌, ◌⊎◌}
use Rattle.std.proofs.lemmas.List.{append-nil}
use Rattle.std.specs.Prelude.{Bool, List, Ok, Option, [], length, map, take, ℕ, ◌++◌, ◌+◌, ◌∷◌, ◌≡◌, ◌≤◌}
use Rattle.worker_core.specs.Sessions.{version_of}
use Rattle.worker_core.specs.declared.worker.Kind.{Kind}
use Rattle.worker_loop.proofs.Becoming.{becomes_append}
use Rattle.worker_loop.proofs.Running.{AreQuiet, all_events, events_append, inner_obeyed, inner_posts, offers_quiet, offers_run, posts_append, quiet_append, quiet_as, quiet_none, quiet_obeyed, rising_obeyed, rising_posts, taken_quiet, ticks_append}
use Rattle.worker_loop.specs.Carrying.{CarriedAll, Nothing, events_in, obeyed_event, post_event}
use Rattle.worker_loop.specs.Clauses.{Carries, OffersAll, OffersCut, RunsCut, Takes, TurnsAs}
use Rattle.worker_loop.specs.Cutting.{Cuts, CutsOne, Midway, NoneBegun}
use Rattle.worker_loop.specs.Did.{Did, Gave, events_of}
use Rattle.worker_loop.specs.Places.{Becomes, Place}
use Rattle.worker_loop.specs.Turns.{Asks, Sides, sides_of}
use Rattle.worker_loop.specs.Works.{BreaksTurn, InnerRun, MayMiss, NoneRun, Runs, TakenRun, posts_in, ticks_in}
use Rattle.worker_loop.specs.declared.turns.Ended.{Ended as End}
use Rattle.worker_loop.specs.declared.turns.Ended.TheVariants as ended
use Rattle.worker_ports.specs.Told.{TellsLast}

pub cuts_one : (names : List (List ℕ)) (end : End) (k k' : Kind) (v w : Place) → CutsOne names end k v k' w → Cuts names k v end k' w
cuts_one names end k k' v w cut = Midway end [] v k' w NoneBegun refl cut

-- an event that broke off may be missing
cut_misses : (names : List (List ℕ)) (end : End) (k k' : Kind) (v w : Place) → CutsOne names end k v k' w → MayMiss end
cut_misses names ended.Turns k k' v w cut = absurd cut
cut_misses names ended.Stopped k k' v w cut = absurd cut
cut_misses names ended.WiresFault k k' v w cut = absurd cut
cut_misses names ended.JournalFault k k' v w cut = tt
cut_misses names ended.Memory k k' v w cut = tt

-- ---- the events of a part of a turn
ticks_posts : (ps : List Post) → ticks_in (map post_event ps) ≡ []
ticks_posts [] = refl
ticks_posts (p ∷ ps) = ticks_posts ps

posts_posts : (ps : List Post) → posts_in (map post_event ps) ≡ map post_event ps
posts_posts [] = refl
posts_posts (p ∷ ps) = ap (λ (xs : List Event). post_event p ∷ xs) (posts_posts ps)

module _ (moment : ℕ) (ps : List Post) (es : List Event) (quiet : AreQuiet es) where
  pub part_ticks : ticks_in (event.Tick moment ∷ (map post_event ps ++ es)) ≡ moment ∷ []
  part_ticks = ap (λ (xs : List ℕ). moment ∷ xs) (ticks_append (map post_event ps) es ∙ ap (λ (xs : List ℕ). xs ++ ticks_in es) (ticks_posts ps) ∙ quiet.ticks)

  pub part_posts : posts_in (event.Tick moment ∷ (map post_event ps ++ es)) ≡ map post_event ps
  part_posts = posts_append (map post_event ps) es ∙ ap (λ (xs : List Event). xs ++ posts_in es) (posts_posts ps) ∙ ap (λ (xs : List Event). map post_event ps ++ xs) quiet.posts ∙ append-nil (map post_event ps)

-- ---- it broke off at the tick
pub broke_tick : (names : List (List ℕ)) (end : End) (m0 m1 : Option (List ℕ)) (h : Hand) (l : VersionView) (e : Entry) (moment : ℕ) (k k' : Kind) (v w : Place) → TellsLast m0 moment m1 → CutsOne names end k v k' w
    → BreaksTurn names end (sides_of m0 h l e) k v (sides_of m1 h l e) k' w
broke_tick names end m0 m1 h l e moment k k' v w clock cut = record {
  did = [];
  kind = k;
  mid = v;
  runs = NoneRun k;
  becomes = refl;
  cuts = cuts_one names end k k' v w cut;
  asks = record {
    moment = moment;
    clock = clock;
    ticks = inl (cut_misses names end k k' v w cut, refl);
    ran = [];
    rest = [];
    missed = inl refl;
    drained = sym (append-nil h.ran);
    posts = refl;
  };
}

-- ---- it broke off behind the tick, when so many posts were carried out, and other events
module _ (names : List (List ℕ)) (end : End) (old new : Sides) (moment : ℕ) (ran rest : List Post) (k k1 k2 k3 k' : Kind) (v v1 v2 v3 w : Place) (runs others : List Did)
    (clock : TellsLast old.moments moment new.moments) (drained : new.pass.ran ≡ old.pass.ran ++ (ran ++ rest)) (tick : Carries names (event.Tick moment ∷ []) k v k1 v1)
    (all : CarriedAll (map post_event ran) k1 runs k2) (becomes : Becomes names v1 runs v2) (outer : Runs k2 others k3) (after : Becomes names v2 others v3) (quiet : AreQuiet (events_of others)) where
  part_events : events_of (tick.did ++ (runs ++ others)) ≡ event.Tick moment ∷ (map post_event ran ++ events_of others)
  part_events =
      events_append tick.did (runs ++ others)
      ∙ ap (λ (xs : List Event). xs ++ events_of (runs ++ others)) (all_events tick.all)
      ∙ ap (λ (xs : List Event). event.Tick moment ∷ xs) (events_append runs others ∙ ap (λ (xs : List Event). xs ++ events_of others) (all_events all))

  pub broke_behind : (rest ≡ []) ⊎ MayMiss end → Cuts names k3 v3 end k' w → BreaksTurn names end old k v new k' w
  broke_behind missed cuts = record {
    did = tick.did ++ (runs ++ others);
    kind = k3;
    mid = v3;
    runs = InnerRun (event.Tick moment ∷ []) k k1 k3 tick.did (runs ++ others) (refl, tt) tt tick.all
        (InnerRun (map post_event ran) k1 k2 k3 runs others (inner_posts ran) (rising_posts (version_of k1) ran) all outer);
    becomes = becomes_append names tick.did (runs ++ others) v v1 v3 tick.becomes (becomes_append names runs others v1 v2 v3 becomes after);
    cuts = cuts;
    asks = record {
      moment = moment;
      clock = clock;
      ticks = inr (ap ticks_in part_events ∙ part_ticks moment ran (events_of others) quiet);
      ran = ran;
      rest = rest;
      missed = missed;
      drained = drained;
      posts = ap posts_in part_events ∙ part_posts moment ran (events_of others) quiet;
    };
  }

-- no post was carried out, as none was drained
pub broke_drain : (names : List (List ℕ)) (end : End) (old new : Sides) (moment : ℕ) (k k1 k' : Kind) (v v1 w : Place) → TellsLast old.moments moment new.moments → new.pass ≡ old.pass → Carries names (event.Tick moment ∷ []) k v k1 v1
    → Cuts names k1 v1 end k' w → BreaksTurn names end old k v new k' w
broke_drain names end old new moment k k1 k' v v1 w clock same tick cuts =
    broke_behind names end old new moment [] [] k k1 k1 k1 k' v v1 v1 v1 w [] [] clock (ap (λ (h : Hand). h.ran) same ∙ sym (append-nil old.pass.ran)) tick (Nothing k1) refl (NoneRun k1) refl quiet_none (inl refl) cuts

pub broke_posts : (names : List (List ℕ)) (end : End) (old new : Sides) (moment : ℕ) (posts : List Post) (k k1 k' : Kind) (v v1 w : Place) → TellsLast old.moments moment new.moments → new.pass.ran ≡ old.pass.ran ++ posts
    → Carries names (event.Tick moment ∷ []) k v k1 v1 → RunsCut names posts end k1 v1 k' w → BreaksTurn names end old k v new k' w
broke_posts names end old new moment posts k k1 k' v v1 w clock drained tick cut =
    broke_behind names end old new moment cut.done cut.rest k k1 cut.kind cut.kind k' v v1 cut.mid cut.mid w cut.did [] clock (drained ∙ ap (λ (ps : List Post). old.pass.ran ++ ps) cut.is) tick cut.all cut.becomes (NoneRun cut.kind) refl quiet_none
    (inr (cut_misses names end cut.kind k' cut.mid w cut.cut))
    (cuts_one names end cut.kind k' cut.mid w cut.cut)

module _ (names : List (List ℕ)) (end : End) (old new : Sides) (moment : ℕ) (posts : List Post) (k k1 k2 k' : Kind) (v v1 v2 w : Place)
    (clock : TellsLast old.moments moment new.moments) (drained : new.pass.ran ≡ old.pass.ran ++ posts) (tick : Carries names (event.Tick moment ∷ []) k v k1 v1) (run : Carries names (map post_event posts) k1 v1 k2 v2) where
  drained_all : new.pass.ran ≡ old.pass.ran ++ (posts ++ [])
  drained_all = drained ∙ ap (λ (ps : List Post). old.pass.ran ++ ps) (sym (append-nil posts))

  -- all posts were carried out
  pub broke_obey : Cuts names k2 v2 end k' w → BreaksTurn names end old k v new k' w
  broke_obey cuts = broke_behind names end old new moment posts [] k k1 k2 k2 k' v v1 v2 v2 w run.did [] clock drained_all tick run.all run.becomes (NoneRun k2) refl quiet_none (inl refl) cuts

  module _ (version : ℕ) (pressures : List ℕ) (k3 : Kind) (v3 : Place) (obey : Carries names (events_in (obeyed_event k2 version pressures)) k2 v2 k3 v3) where
    obeys_quiet : AreQuiet (events_of obey.did)
    obeys_quiet = quiet_as (events_of obey.did) (events_in (obeyed_event k2 version pressures)) (all_events obey.all) (quiet_obeyed k2 version pressures)

    pub broke_taking : Cuts names k3 v3 end k' w → BreaksTurn names end old k v new k' w
    broke_taking cuts =
        broke_behind names end old new moment posts [] k k1 k2 k3 k' v v1 v2 v3 w run.did (obey.did ++ []) clock drained_all tick run.all run.becomes
        (InnerRun (events_in (obeyed_event k2 version pressures)) k2 k3 k3 obey.did [] (inner_obeyed k2 version pressures) (rising_obeyed k2 version pressures) obey.all (NoneRun k3))
        (becomes_append names obey.did [] v2 v3 v3 obey.becomes refl)
        (quiet_as (events_of (obey.did ++ [])) (events_of obey.did ++ []) (events_append obey.did []) (quiet_append (events_of obey.did) [] obeys_quiet quiet_none))
        (inl refl)
        cuts

    pub broke_offering : (k4 : Kind) (v4 : Place) (stops : Bool) → Takes names k3 v3 k4 v4 stops → OffersCut names end k4 v4 k' w → BreaksTurn names end old k v new k' w
    broke_offering k4 v4 stops takes cut =
        let outer : List Did = takes.did ++ cut.some.did in
        let quiet : AreQuiet (events_of outer)
        = quiet_as (events_of outer) (events_of takes.did ++ events_of cut.some.did) (events_append takes.did cut.some.did) (quiet_append (events_of takes.did) (events_of cut.some.did) (taken_quiet takes.takes) (offers_quiet cut.some.offers)) in
        broke_behind names end old new moment posts [] k k1 k2 cut.kind k' v v1 v2 cut.mid w run.did (obey.did ++ Gave takes.given ∷ outer) clock drained_all tick run.all run.becomes
        (InnerRun (events_in (obeyed_event k2 version pressures)) k2 k3 cut.kind obey.did (Gave takes.given ∷ outer) (inner_obeyed k2 version pressures) (rising_obeyed k2 version pressures) obey.all
        (TakenRun takes.given k3 k4 cut.kind takes.did cut.some.did takes.takes (offers_run cut.some.offers)))
        (becomes_append names obey.did (Gave takes.given ∷ outer) v2 v3 cut.mid obey.becomes (becomes_append names (Gave takes.given ∷ takes.did) cut.some.did v3 v4 cut.mid takes.becomes cut.some.becomes))
        (quiet_as (events_of (obey.did ++ Gave takes.given ∷ outer)) (events_of obey.did ++ events_of outer) (events_append obey.did (Gave takes.given ∷ outer)) (quiet_append (events_of obey.did) (events_of outer) obeys_quiet quiet))
        (inl refl)
        cut.cuts

-- without memory before anything
pub cuts_memory : (names : List (List ℕ)) (k k' : Kind) (v : Place) → Cuts names k v ended.Memory k' v
cuts_memory names k k' v = Midway ended.Memory [] v k' v NoneBegun refl (record { did = []; is = inl refl; becomes = refl })

-- ---- a whole turn
pub drained_as : (lent posts before after : List Post) → lent ≡ posts → after ≡ before ++ posts → after ≡ before ++ lent
drained_as lent posts before after e ran = ran ∙ ap (λ (ps : List Post). before ++ ps) (sym e)

pub allowed_as : (lent posts : List Post) → lent ≡ posts → All IsAllowed posts → All IsAllowed lent
allowed_as lent posts e all = subst (λ (ps : List Post). All IsAllowed ps) (sym e) all

pub asks_once : (old new : Sides) (moment : ℕ) (posts : List Post) (version : ℕ) (pressures : List ℕ) → TellsLast old.moments moment new.moments → new.pass.ran ≡ old.pass.ran ++ posts → new.pass.drains ≡ old.pass.drains + 1
    → new.looks ≡ looked old.looks new.looks.found → version ≡ new.kept.version → pressures ≡ take (length pressures) new.kept.pressures → old.kept.version ≤ new.kept.version → new.looks.found ≤ version → Asks old moment posts version pressures new
asks_once old new moment posts version pressures clock ran drains look newest front rising fresh =
    record { clock = clock; ran = ran; drains = drains; look = look; newest = newest; front = front; rising = omega (arith, rising, newest); fresh = fresh }

pub turn_is : (names : List (List ℕ)) (old new : Sides) (moment version : ℕ) (posts : List Post) (pressures : List ℕ) (k k1 k2 k3 k4 k' : Kind) (v v1 v2 v3 v4 w : Place) (stops : Bool) → Asks old moment posts version pressures new
    → Carries names (event.Tick moment ∷ []) k v k1 v1 → Carries names (map post_event posts) k1 v1 k2 v2 → Carries names (events_in (obeyed_event k2 version pressures)) k2 v2 k3 v3
    → Takes names k3 v3 k4 v4 stops → OffersAll names k4 v4 k' w → TurnsAs names old k v (Ok stops) new k' w
turn_is names old new moment version posts pressures k k1 k2 k3 k4 k' v v1 v2 v3 v4 w stops asks tick run obey takes offers =
    let last = becomes_append names (Gave takes.given ∷ takes.did) offers.some.did v3 v4 w takes.becomes offers.some.becomes in
    let third = becomes_append names obey.did (Gave takes.given ∷ (takes.did ++ offers.some.did)) v2 v3 w obey.becomes last in
    let second = becomes_append names run.did (obey.did ++ Gave takes.given ∷ (takes.did ++ offers.some.did)) v1 v2 w run.becomes third in (
      record {
        moment = moment;
        posts = posts;
        version = version;
        pressures = pressures;
        given = takes.given;
        ticks = tick.did;
        runs = run.did;
        obeys = obey.did;
        takes = takes.did;
        offers = offers.some.did;
        last = offers.last;
        k1 = k1;
        k2 = k2;
        k3 = k3;
        k4 = k4;
        asks = asks;
        ticked = tick.all;
        ran = run.all;
        obeyed = obey.all;
        taken = takes.takes;
        offered = offers.some.offers;
        none = offers.none;
        becomes = becomes_append names tick.did (run.did ++ (obey.did ++ Gave takes.given ∷ (takes.did ++ offers.some.did))) v v1 w tick.becomes second;
        stop = takes.stop;
      },
      offers.rests,
    )
