-- Whole parts of turns.
use Rattle.flow_notes.specs.declared.events.Event.{Event}
use Rattle.flow_notes.specs.declared.events.Event.TheVariants as event
use Rattle.flow_notes.specs.declared.notes.Note.{Note}
use Rattle.post_queue.specs.declared.posts.Post.{Post}
use Rattle.std.proofs.Common.{ap, append_assoc, arith, inl, inr, refl, subst, sym, ◌∙◌}
use Rattle.std.proofs.lemmas.Bool.Decides.{nat_tests}
use Rattle.std.proofs.lemmas.List.{append-nil}
use Rattle.std.specs.Prelude.{Bool, List, None, Option, Some, [], false, filter, if◌then◌else◌, map, nat_lt, true, ℕ, ◌++◌, ◌<◌, ◌∷◌, ◌≡◌}
use Rattle.worker_core.specs.Sessions.{version_of}
use Rattle.worker_core.specs.declared.worker.Kind.{Kind}
use Rattle.worker_loop.specs.Carrying.{Carried, CarriedAll, Nothing, One, events_in, is_done, named_in, obeyed_event, post_event, room_event}
use Rattle.worker_loop.specs.Did.{Did, Admitted, Ended, Gave, Left, Noted, Offered, Refused, TurnedAway, Dispatched, events_of, notes_of}
use Rattle.worker_loop.specs.Turns.{Accepted, Came, Empty, Full, Idled, Joined, NoneOffered, Offers, OneOffered, Shut, Stopped, TakesUp, Went}
use Rattle.worker_loop.specs.Works.{AreInner, AreRising, InnerRun, NoneRun, OfferRun, Runs, TakenRun, is_inner, posts_in, ticks_in, versions_in}
use Rattle.worker_ports.specs.declared.wires.Wired.{Wired}

-- ---- what was done, in two parts
pub events_append : (ds es : List Did) → events_of (ds ++ es) ≡ events_of ds ++ events_of es
events_append [] es = refl
events_append (Gave w ∷ ds) es = events_append ds es
events_append (Admitted c ∷ ds) es = events_append ds es
events_append (Refused c ∷ ds) es = events_append ds es
events_append (TurnedAway c ∷ ds) es = events_append ds es
events_append (Left c ∷ ds) es = events_append ds es
events_append (Dispatched e ∷ ds) es = ap (λ (xs : List Event). e ∷ xs) (events_append ds es)
events_append (Ended c ∷ ds) es = events_append ds es
events_append (Noted notes ∷ ds) es = events_append ds es
events_append (Offered c piece n ∷ ds) es = events_append ds es

pub notes_append : (ds es : List Did) → notes_of (ds ++ es) ≡ notes_of ds ++ notes_of es
notes_append [] es = refl
notes_append (Gave w ∷ ds) es = notes_append ds es
notes_append (Admitted c ∷ ds) es = notes_append ds es
notes_append (Refused c ∷ ds) es = notes_append ds es
notes_append (TurnedAway c ∷ ds) es = notes_append ds es
notes_append (Left c ∷ ds) es = notes_append ds es
notes_append (Dispatched e ∷ ds) es = notes_append ds es
notes_append (Ended c ∷ ds) es = notes_append ds es
notes_append (Noted notes ∷ ds) es = ap (λ (xs : List Note). notes ++ xs) (notes_append ds es) ∙ sym (append_assoc notes (notes_of ds) (notes_of es))
notes_append (Offered c piece n ∷ ds) es = notes_append ds es

-- ---- one event
pub ended_events : (cs : List ℕ) (notes : List Note) → events_of (map Ended cs ++ Noted notes ∷ []) ≡ []
ended_events [] notes = refl
ended_events (c ∷ cs) notes = ended_events cs notes

pub ended_notes : (cs : List ℕ) (notes : List Note) → notes_of (map Ended cs ++ Noted notes ∷ []) ≡ notes
ended_notes [] notes = append-nil notes
ended_notes (c ∷ cs) notes = ended_notes cs notes

pub carried_events : (e : Event) (k : Kind) (ds : List Did) (new : Kind) → Carried e k ds new → events_of ds ≡ e ∷ []
carried_events e k ds new c = ap events_of c.is ∙ ap (λ (es : List Event). e ∷ es) (ended_events (filter (is_done new) (named_in c.notes)) c.notes)

pub carried_notes : (e : Event) (k : Kind) (ds : List Did) (new : Kind) (c : Carried e k ds new) → notes_of ds ≡ c.notes
carried_notes e k ds new c = ap notes_of c.is ∙ ended_notes (filter (is_done new) (named_in c.notes)) c.notes

pub all_events : {es : List Event} {k : Kind} {ds : List Did} {new : Kind} → CarriedAll es k ds new → events_of ds ≡ es
all_events (Nothing k) = refl
all_events (One e es k mid new ds rest first others) =
    events_append ds rest ∙ ap (λ (xs : List Event). xs ++ events_of rest) (carried_events e k ds mid first) ∙ ap (λ (xs : List Event). e ∷ xs) (all_events others)

-- ---- inner events
pub inner_posts : (ps : List Post) → AreInner (map post_event ps)
inner_posts [] = tt
inner_posts (p ∷ ps) = (refl, inner_posts ps)

inner_by : (b : Bool) (version : ℕ) (pressures : List ℕ) → AreInner (events_in (if b then Some (event.Obey version pressures) else None))
inner_by true version pressures = (refl, tt)
inner_by false version pressures = tt

pub inner_obeyed : (k : Kind) (version : ℕ) (pressures : List ℕ) → AreInner (events_in (obeyed_event k version pressures))
inner_obeyed k version pressures = inner_by (nat_lt (version_of k) version) version pressures

-- the versions that they publish
pub rising_posts : (n : ℕ) (ps : List Post) → AreRising n (versions_in (map post_event ps))
rising_posts n [] = tt
rising_posts n (p ∷ ps) = rising_posts n ps

rising_by : (n version : ℕ) (pressures : List ℕ) (b : Bool) → (b ≡ true → n < version) → AreRising n (versions_in (events_in (if b then Some (event.Obey version pressures) else None)))
rising_by n version pressures true newer = (newer refl, tt)
rising_by n version pressures false newer = tt

newer_than : (n m : ℕ) → nat_lt n m ≡ true → n < m
newer_than n m e = grind (arith, nat_tests)

pub rising_obeyed : (k : Kind) (version : ℕ) (pressures : List ℕ) → AreRising (version_of k) (versions_in (events_in (obeyed_event k version pressures)))
rising_obeyed k version pressures = rising_by (version_of k) version pressures (nat_lt (version_of k) version) (newer_than (version_of k) version)

-- ---- no ticks and no posts
pub record AreQuiet (es : List Event) : Type 0 where
  pub ticks : ticks_in es ≡ []
  pub posts : posts_in es ≡ []

pub ticks_append : (es fs : List Event) → ticks_in (es ++ fs) ≡ ticks_in es ++ ticks_in fs
ticks_append [] fs = refl
ticks_append (event.Tick now ∷ es) fs = ap (λ (xs : List ℕ). now ∷ xs) (ticks_append es fs)
ticks_append (event.Accept c ∷ es) fs = ticks_append es fs
ticks_append (event.Join c n ∷ es) fs = ticks_append es fs
ticks_append (event.Read c o ∷ es) fs = ticks_append es fs
ticks_append (event.Gone c ∷ es) fs = ticks_append es fs
ticks_append (event.Room c n ∷ es) fs = ticks_append es fs
ticks_append (event.Post p n j ∷ es) fs = ticks_append es fs
ticks_append (event.Obey v p ∷ es) fs = ticks_append es fs
ticks_append (event.Plain h ∷ es) fs = ticks_append es fs

pub posts_append : (es fs : List Event) → posts_in (es ++ fs) ≡ posts_in es ++ posts_in fs
posts_append [] fs = refl
posts_append (event.Post p n j ∷ es) fs = ap (λ (xs : List Event). event.Post p n j ∷ xs) (posts_append es fs)
posts_append (event.Tick now ∷ es) fs = posts_append es fs
posts_append (event.Accept c ∷ es) fs = posts_append es fs
posts_append (event.Join c n ∷ es) fs = posts_append es fs
posts_append (event.Read c o ∷ es) fs = posts_append es fs
posts_append (event.Gone c ∷ es) fs = posts_append es fs
posts_append (event.Room c n ∷ es) fs = posts_append es fs
posts_append (event.Obey v p ∷ es) fs = posts_append es fs
posts_append (event.Plain h ∷ es) fs = posts_append es fs

pub quiet_none : AreQuiet []
quiet_none = record { ticks = refl; posts = refl }

pub quiet_append : (es fs : List Event) → AreQuiet es → AreQuiet fs → AreQuiet (es ++ fs)
quiet_append es fs a b = record {
  ticks = ticks_append es fs ∙ ap (λ (xs : List ℕ). xs ++ ticks_in fs) a.ticks ∙ b.ticks;
  posts = posts_append es fs ∙ ap (λ (xs : List Event). xs ++ posts_in fs) a.posts ∙ b.posts;
}

pub quiet_as : (es fs : List Event) → es ≡ fs → AreQuiet fs → AreQuiet es
quiet_as es fs e q = subst (λ (xs : List Event). AreQuiet xs) (sym e) q

obey_by : (b : Bool) (version : ℕ) (pressures : List ℕ) → AreQuiet (events_in (if b then Some (event.Obey version pressures) else None))
obey_by true version pressures = record { ticks = refl; posts = refl }
obey_by false version pressures = quiet_none

pub quiet_obeyed : (k : Kind) (version : ℕ) (pressures : List ℕ) → AreQuiet (events_in (obeyed_event k version pressures))
quiet_obeyed k version pressures = obey_by (nat_lt (version_of k) version) version pressures

room_by : (b : Bool) (c n : ℕ) → AreQuiet (events_in (if b then Some (event.Room c n) else None))
room_by true c n = record { ticks = refl; posts = refl }
room_by false c n = quiet_none

pub quiet_room : (c n : ℕ) → AreQuiet (events_in (room_event c n))
quiet_room c n = room_by (nat_lt 0 n) c n

pub taken_quiet : {k : Kind} {w : Wired} {ds : List Did} {new : Kind} → TakesUp k w ds new → AreQuiet (events_of ds)
taken_quiet (Shut c isnt) = quiet_none
taken_quiet (Full c holds_so) = quiet_none
taken_quiet (Accepted c ds new holds_so all) = quiet_as (events_of ds) (event.Accept c ∷ []) (all_events all) (record { ticks = refl; posts = refl })
taken_quiet (Joined c cluster ds new all) = quiet_as (events_of ds) (event.Join c cluster ∷ []) (all_events all) (record { ticks = refl; posts = refl })
taken_quiet (Came c octets ds new all) = quiet_as (events_of ds) (event.Read c octets ∷ []) (all_events all) (record { ticks = refl; posts = refl })
taken_quiet (Went c ds new all) = quiet_as (events_of ds) (event.Gone c ∷ []) (all_events all) (record { ticks = refl; posts = refl })
taken_quiet Idled = quiet_none
taken_quiet Stopped = quiet_none

pub offers_quiet : {k0 : Kind} {ds : List Did} {last : ℕ} {k : Kind} → Offers k0 ds last k → AreQuiet (events_of ds)
offers_quiet NoneOffered = quiet_none
offers_quiet (Empty ds last c k so next none) = offers_quiet so
offers_quiet (OneOffered ds es last c n piece k new so next front most all) =
    quiet_as (events_of (ds ++ Offered c piece n ∷ es)) (events_of ds ++ events_of es) (events_append ds (Offered c piece n ∷ es))
    (quiet_append (events_of ds) (events_of es) (offers_quiet so) (quiet_as (events_of es) (events_in (room_event c n)) (all_events all) (quiet_room c n)))

-- ---- in two parts
pub runs_append : {k : Kind} {ds : List Did} {mid : Kind} → Runs k ds mid → (es : List Did) (new : Kind) → Runs mid es new → Runs k (ds ++ es) new
runs_append (NoneRun k) es new more = more
runs_append (InnerRun evs k m mid ds rest inner rising all others) es new more =
    subst (λ (xs : List Did). Runs k xs new) (sym (append_assoc ds rest es)) (InnerRun evs k m new ds (rest ++ es) inner rising all (runs_append others es new more))
runs_append (TakenRun given k m mid ds rest taken others) es new more =
    subst (λ (xs : List Did). Runs k (Gave given ∷ xs) new) (sym (append_assoc ds rest es)) (TakenRun given k m new ds (rest ++ es) taken (runs_append others es new more))
runs_append (OfferRun c n piece k m mid ds rest front most all others) es new more =
    subst (λ (xs : List Did). Runs k (Offered c piece n ∷ xs) new) (sym (append_assoc ds rest es)) (OfferRun c n piece k m new ds (rest ++ es) front most all (runs_append others es new more))

pub offers_run : {k0 : Kind} {ds : List Did} {last : ℕ} {k : Kind} → Offers k0 ds last k → Runs k0 ds k
offers_run {k0} NoneOffered = NoneRun k0
offers_run (Empty ds last c k so next none) = offers_run so
offers_run {k0} (OneOffered ds es last c n piece k new so next front most all) =
    subst (λ (xs : List Did). Runs k0 (ds ++ Offered c piece n ∷ xs) new) (append-nil es)
    (runs_append (offers_run so) (Offered c piece n ∷ (es ++ [])) new (OfferRun c n piece k new new es [] front most all (NoneRun new)))
