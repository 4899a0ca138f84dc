-- What the connections gave and took, against the events.
use Rattle.flow_notes.specs.declared.events.Event.{Event}
use Rattle.flow_notes.specs.declared.events.Event.TheVariants as event
use Rattle.std.proofs.Common.{ap, append_assoc, arith, inl, inr, refl, subst, sym, ◌∙◌}
use Rattle.std.proofs.lemmas.Bool.{false≢true}
use Rattle.std.proofs.lemmas.Bool.Decides.{nat_tests}
use Rattle.std.proofs.lemmas.List.{append-nil}
use Rattle.std.specs.List.{list_any}
use Rattle.std.specs.Option.{option_map}
use Rattle.std.specs.Prelude.{Bool, List, None, Option, Some, [], false, filter, if◌then◌else◌, length, map, nat_eq, nat_lt, suc, true, zero, ℕ, ◌++◌, ◌<◌, ◌||◌, ◌∷◌, ◌≡◌, ◌≤◌}
use Rattle.worker_core.specs.declared.worker.Kind.{Kind}
use Rattle.worker_loop.proofs.Becoming.{becomes_split}
use Rattle.worker_loop.proofs.Running.{all_events, events_append}
use Rattle.worker_loop.specs.Carrying.{Carried, CarriedAll, Nothing, One, events_in, is_done, named_in, room_event}
use Rattle.worker_loop.specs.Did.{Did, Admitted, Dispatched, Ended, Gave, Left, Noted, Offered, Refused, TurnedAway, events_of}
use Rattle.worker_loop.specs.Parts.{AreCloses, Matches, outside_events}
use Rattle.worker_loop.specs.Parts as parts
use Rattle.worker_loop.specs.Places.{Becomes, Place}
use Rattle.worker_loop.specs.Turns.{Accepted, Came, Full, Idled, Joined, Shut, Stopped, TakesUp, Went}
use Rattle.worker_loop.specs.Works.{AreInner, InnerRun, NoneRun, OfferRun, Runs, TakenRun, is_inner}
use Rattle.worker_ports.specs.Told.{with_last}
use Rattle.worker_ports.specs.Wires.{Gives, Seen, closed, is_live, without}
use Rattle.worker_ports.specs.declared.wires.WireStep.{WireStep}
use Rattle.worker_ports.specs.declared.wires.WireStep.TheVariants as step
use Rattle.worker_ports.specs.declared.wires.Wired.{Wired}
use Rattle.worker_ports.specs.declared.wires.Wired.TheVariants as wired

-- these steps were added
abbrev pub Grows : Seen → List WireStep → Seen → Type 0
Grows old ss new = new.steps ≡ option_map (λ before. before ++ ss) old.steps

pub grows_none : (s : Seen) → Grows s [] s
grows_none s = none_added s.steps
  where
    none_added : (t : Option (List WireStep)) → t ≡ option_map (λ before. before ++ []) t
    none_added None = refl
    none_added (Some xs) = ap (λ (ys : List WireStep). Some ys) (sym (append-nil xs))

map_twice : (t : Option (List WireStep)) (xs ys : List WireStep) → option_map (λ before. before ++ ys) (option_map (λ before. before ++ xs) t) ≡ option_map (λ before. before ++ (xs ++ ys)) t
map_twice None xs ys = refl
map_twice (Some us) xs ys = ap (λ (zs : List WireStep). Some zs) (append_assoc us xs ys)

pub grows_more : (a b c : Seen) (xs ys : List WireStep) → Grows a xs b → Grows b ys c → Grows a (xs ++ ys) c
grows_more a b c xs ys one two = two ∙ ap (option_map (λ (before : List WireStep). before ++ ys)) one ∙ map_twice a.steps xs ys

-- ---- closes
abbrev closed_if : Bool → ℕ → Seen → Seen
closed_if b c s = if b then record s { live = without c s.live; held = without c s.held; steps = with_last (step.Closed c) s.steps } else s

pub record Closes (old new : Seen) : Type 0 where
  pub steps : List WireStep
  pub over : AreCloses steps
  pub grows : Grows old steps new

close_by : (b : Bool) (c : ℕ) (s : Seen) → Closes s (closed_if b c s)
close_by true c s = record { steps = step.Closed c ∷ []; over = tt; grows = refl }
close_by false c s = record { steps = []; over = tt; grows = grows_none s }

pub close_one : (c : ℕ) (old new : Seen) → new ≡ closed c old → Closes old new
close_one c old new e = subst (λ (s : Seen). Closes old s) (sym e) (close_by (is_live c old) c old)

closes_append : (xs ys : List WireStep) → AreCloses xs → AreCloses ys → AreCloses (xs ++ ys)
closes_append [] ys a b = b
closes_append (step.Closed c ∷ xs) ys a b = closes_append xs ys a b
closes_append (step.Gave w ∷ xs) ys a b = absurd a
closes_append (step.Offered c piece n ∷ xs) ys a b = absurd a

pub close_none : (s : Seen) → Closes s s
close_none s = record { steps = []; over = tt; grows = grows_none s }

close_more : (a b c : Seen) → Closes a b → Closes b c → Closes a c
close_more a b c one two = record { steps = one.steps ++ two.steps; over = closes_append one.steps two.steps one.over two.over; grows = grows_more a b c one.steps two.steps one.grows two.grows }

pub close_as : (a b c : Seen) → b ≡ a → Closes b c → Closes a c
close_as a b c e one = subst (λ (s : Seen). Closes s c) e one

-- what is done for an event: nothing but closes
pub ended_closes : (names : List (List ℕ)) (cs : List ℕ) (ds : List Did) (v w : Place) → ((u : Place) → Becomes names u ds w → Closes u.seen w.seen) → Becomes names v (map Ended cs ++ ds) w → Closes v.seen w.seen
ended_closes names [] ds v w rest b = rest v b
ended_closes names (c ∷ cs) ds v w rest b = close_more v.seen b.0.seen w.seen (close_one c v.seen b.0.seen (ap (λ (p : Place). p.seen) b.1)) (ended_closes names cs ds b.0 w rest b.2)

noted_closes : (names : List (List ℕ)) (w : Place) (ds : List Did) (v : Place) → ds ≡ [] → Becomes names v ds w → Closes v.seen w.seen
noted_closes names w [] v e b = subst (λ (s : Seen). Closes v.seen s) (sym (ap (λ (p : Place). p.seen) b)) (close_none v.seen)
noted_closes names w (d ∷ ds) v e b = cc

last_closes : (names : List (List ℕ)) (e : Event) (k : Kind) (ds : List Did) (new : Kind) (v w : Place) → Carried e k ds new → Becomes names v ds w → Closes v.seen w.seen
last_closes names e k ds new v w carried b =
    let b' : Becomes names v (Dispatched e ∷ (map Ended (filter (is_done new) (named_in carried.notes)) ++ Noted carried.notes ∷ [])) w = subst (λ (xs : List Did). Becomes names v xs w) carried.is b in
    close_as v.seen b'.0.seen w.seen (ap (λ (p : Place). p.seen) b'.1.0)
    (ended_closes names (filter (is_done new) (named_in carried.notes)) (Noted carried.notes ∷ []) b'.0 w
    (λ u r. close_as u.seen r.0.seen w.seen (ap (λ (p : Place). p.seen) r.1) (noted_closes names w [] r.0 refl r.2)) b'.2)

pub all_close : {es : List Event} {k : Kind} {ds : List Did} {new : Kind} (names : List (List ℕ)) (v w : Place) → CarriedAll es k ds new → Becomes names v ds w → Closes v.seen w.seen
all_close names v w (Nothing k) b = subst (λ (s : Seen). Closes v.seen s) (sym (ap (λ (p : Place). p.seen) b)) (close_none v.seen)
all_close names v w (One e es k mid new ds rest first others) b =
    let r = becomes_split names ds rest v w b in
    close_more v.seen r.0.seen w.seen (last_closes names e k ds mid v r.0 first r.1) (all_close names r.0 w others r.2)

-- ---- against the events
pub closes_match : (cs ss : List WireStep) (es : List Event) → AreCloses cs → Matches ss es → Matches (cs ++ ss) es
closes_match [] ss es over m = m
closes_match (step.Closed c ∷ cs) ss es over m = parts.Closed c (cs ++ ss) es (closes_match cs ss es over m)
closes_match (step.Gave w ∷ cs) ss es over m = absurd over
closes_match (step.Offered c piece n ∷ cs) ss es over m = absurd over

outside_append : (es fs : List Event) → outside_events (es ++ fs) ≡ outside_events es ++ outside_events fs
outside_append [] fs = refl
outside_append (event.Tick now ∷ es) fs = outside_append es fs
outside_append (event.Post p n j ∷ es) fs = outside_append es fs
outside_append (event.Obey v p ∷ es) fs = outside_append es fs
outside_append (event.Plain h ∷ es) fs = outside_append es fs
outside_append (event.Accept c ∷ es) fs = ap (λ (xs : List Event). event.Accept c ∷ xs) (outside_append es fs)
outside_append (event.Join c n ∷ es) fs = ap (λ (xs : List Event). event.Join c n ∷ xs) (outside_append es fs)
outside_append (event.Read c o ∷ es) fs = ap (λ (xs : List Event). event.Read c o ∷ xs) (outside_append es fs)
outside_append (event.Gone c ∷ es) fs = ap (λ (xs : List Event). event.Gone c ∷ xs) (outside_append es fs)
outside_append (event.Room c n ∷ es) fs = ap (λ (xs : List Event). event.Room c n ∷ xs) (outside_append es fs)

inner_outside : (es : List Event) → AreInner es → outside_events es ≡ []
inner_outside [] inner = refl
inner_outside (event.Tick now ∷ es) inner = inner_outside es inner.1
inner_outside (event.Post p n j ∷ es) inner = inner_outside es inner.1
inner_outside (event.Obey v p ∷ es) inner = inner_outside es inner.1
inner_outside (event.Plain h ∷ es) inner = inner_outside es inner.1
inner_outside (event.Accept c ∷ es) inner = let isnt = inner.0 in cc
inner_outside (event.Join c n ∷ es) inner = let isnt = inner.0 in cc
inner_outside (event.Read c o ∷ es) inner = let isnt = inner.0 in cc
inner_outside (event.Gone c ∷ es) inner = let isnt = inner.0 in cc
inner_outside (event.Room c n ∷ es) inner = let isnt = inner.0 in cc

-- steps that were added, and match these events
pub record MatchesTo (old new : Seen) (es : List Event) : Type 0 where
  pub steps : List WireStep
  pub grows : Grows old steps new
  pub matches : Matches steps (outside_events es)

match_none : (s : Seen) → MatchesTo s s []
match_none s = record { steps = []; grows = grows_none s; matches = parts.NoneMatch }

-- closes, and then these
match_closes : (a b c : Seen) (es : List Event) → Closes a b → MatchesTo b c es → MatchesTo a c es
match_closes a b c es one two = record {
  steps = one.steps ++ two.steps;
  grows = grows_more a b c one.steps two.steps one.grows two.grows;
  matches = closes_match one.steps two.steps (outside_events es) one.over two.matches;
}

match_as : (a b c : Seen) (es fs : List Event) → b ≡ a → fs ≡ es → MatchesTo b c es → MatchesTo a c fs
match_as a b c es fs e f m = subst (λ (s : Seen). MatchesTo s c fs) e (subst (λ (xs : List Event). MatchesTo b c xs) (sym f) m)

-- one step in front, with its event or none
match_step : (a b c : Seen) (s : WireStep) (es fs : List Event) → b.steps ≡ with_last s a.steps → ((ss : List WireStep) → Matches ss (outside_events es) → Matches (s ∷ ss) (outside_events fs)) → MatchesTo b c es → MatchesTo a c fs
match_step a b c s es fs e one m = record {
  steps = (s ∷ []) ++ m.steps;
  grows = grows_more a b c (s ∷ []) m.steps e m.grows;
  matches = one m.steps m.matches;
}

-- ---- what was taken up
any_last : (xs : List ℕ) (c : ℕ) → list_any (nat_eq c) (xs ++ c ∷ []) ≡ true
any_last [] c = grind (arith, nat_tests)
any_last (x ∷ xs) c = or_right (nat_eq c x) (list_any (nat_eq c) (xs ++ c ∷ [])) (any_last xs c)
  where
    or_right : (a b : Bool) → b ≡ true → (a || b) ≡ true
    or_right true b h = refl
    or_right false b h = h

closed_yes : (b : Bool) (c : ℕ) (s : Seen) → b ≡ true → (closed_if b c s).steps ≡ with_last (step.Closed c) s.steps
closed_yes true c s e = refl
closed_yes false c s e = cc

-- a client's connection that came is live, so that its close shows
closed_steps : (c : ℕ) (old new : Seen) → Gives old (wired.Accept c) new → (closed c new).steps ≡ with_last (step.Closed c) new.steps
closed_steps c old new g =
    let live : is_live c new ≡ true = ap (λ (s : Seen). list_any (nat_eq c) s.live) g.is ∙ any_last old.live c in
    closed_yes (is_live c new) c new live

pub gave_steps : (old new : Seen) (w : Wired) → Gives old w new → new.steps ≡ with_last (step.Gave w) old.steps
gave_steps old new w g = ap (λ (s : Seen). s.steps) g.is

module _ (names : List (List ℕ)) (old mid last end : Seen) (es : List Event) (rest : MatchesTo last end es) where
  -- it came and was closed
  pub match_shut : (c : ℕ) → Gives old (wired.Accept c) mid → last ≡ closed c mid → MatchesTo old end es
  match_shut c g e =
      record {
        steps = (step.Gave (wired.Accept c) ∷ []) ++ ((step.Closed c ∷ []) ++ rest.steps);
        grows = grows_more old mid end (step.Gave (wired.Accept c) ∷ []) ((step.Closed c ∷ []) ++ rest.steps) (gave_steps old mid (wired.Accept c) g)
            (grows_more mid last end (step.Closed c ∷ []) rest.steps (ap (λ (s : Seen). s.steps) e ∙ closed_steps c old mid g) rest.grows);
        matches = parts.TurnedAway c rest.steps (outside_events es) rest.matches;
      }

abbrev pub told_by : Wired → List Event
told_by (wired.Accept c) = event.Accept c ∷ []
told_by (wired.Join c cluster) = event.Join c cluster ∷ []
told_by (wired.Read c octets) = event.Read c octets ∷ []
told_by (wired.Lost c) = event.Gone c ∷ []
told_by wired.Idle = []
told_by wired.Stop = []

-- it came, and its event was carried out
match_given : (w : Wired) (es : List Event) (ss : List WireStep) → Matches ss (outside_events es) → Matches (step.Gave w ∷ ss) (outside_events (told_by w ++ es))
match_given (wired.Accept c) es ss m = parts.Accepted c ss (outside_events es) m
match_given (wired.Join c cluster) es ss m = parts.Joined c cluster ss (outside_events es) m
match_given (wired.Read c octets) es ss m = parts.Came c octets ss (outside_events es) m
match_given (wired.Lost c) es ss m = parts.Went c ss (outside_events es) m
match_given wired.Idle es ss m = parts.Idled ss (outside_events es) m
match_given wired.Stop es ss m = parts.Stopped ss (outside_events es) m

module _ (names : List (List ℕ)) (w : Wired) (v u p x : Place) (end : Seen) (es : List Event) (g : Gives v.seen w u.seen) (same : p.seen ≡ u.seen) (rest : MatchesTo x.seen end es) where
  match_carried : {k new : Kind} {ds : List Did} → CarriedAll (told_by w) k ds new → Becomes names p ds x → MatchesTo v.seen end (events_of ds ++ es)
  match_carried {k} {new} {ds} all b =
      match_as v.seen v.seen end (told_by w ++ es) (events_of ds ++ es) refl (ap (λ (fs : List Event). fs ++ es) (all_events all))
      (match_step v.seen u.seen end (step.Gave w) es (told_by w ++ es) (gave_steps v.seen u.seen w g) (match_given w es)
      (match_closes u.seen x.seen end es (close_as u.seen p.seen x.seen same (all_close names p x all b)) rest))

pub match_taken : {k : Kind} {w : Wired} {ds : List Did} {new : Kind} (names : List (List ℕ)) (v u x : Place) (end : Seen) (es : List Event) → Gives v.seen w u.seen → TakesUp k w ds new → Becomes names u ds x → MatchesTo x.seen end es
    → MatchesTo v.seen end (events_of ds ++ es)
match_taken names v u x end es g (Shut c isnt) b rest =
    match_shut names v.seen u.seen x.seen end es rest c g (ap (λ (p : Place). p.seen) b.2 ∙ ap (λ (p : Place). p.seen) b.1)
match_taken names v u x end es g (Full c holds_so) b rest =
    match_shut names v.seen u.seen x.seen end es rest c g
    (ap (λ (p : Place). p.seen) b.2.2 ∙ ap (λ (p : Place). p.seen) b.2.1 ∙ ap (λ (s : Seen). closed c s) (ap (λ (p : Place). p.seen) b.1.0))
match_taken names v u x end es g (Accepted c ds new holds_so all) b rest = match_carried names (wired.Accept c) v u b.0 x end es g (ap (λ (p : Place). p.seen) b.1.0) rest all b.2
match_taken names v u x end es g (Joined c cluster ds new all) b rest = match_carried names (wired.Join c cluster) v u u x end es g refl rest all b
match_taken names v u x end es g (Came c octets ds new all) b rest = match_carried names (wired.Read c octets) v u u x end es g refl rest all b
match_taken names v u x end es g (Went c ds new all) b rest = match_carried names (wired.Lost c) v u b.0 x end es g (ap (λ (p : Place). p.seen) b.1) rest all b.2
match_taken {k} names v u x end es g Idled b rest = match_carried names wired.Idle v u u x end es g refl rest (Nothing k) b
match_taken {k} names v u x end es g Stopped b rest = match_carried names wired.Stop v u u x end es g refl rest (Nothing k) b

-- ---- what was offered
some_there : (n : ℕ) → nat_lt 0 (suc n) ≡ true
some_there n = grind (arith, nat_tests)

match_room : (b : Bool) (c n : ℕ) (piece : List ℕ) (es : List Event) (ss : List WireStep) → nat_lt 0 n ≡ b → n ≤ length piece → Matches ss (outside_events es)
    → Matches (step.Offered c piece n ∷ ss) (outside_events (events_in (if b then Some (event.Room c n) else None) ++ es))
match_room true c zero piece es ss is most m = cc
match_room true c (suc n) piece es ss is most m = parts.Took c n piece ss (outside_events es) most m
match_room false c zero piece es ss is most m = parts.TookNothing c piece ss (outside_events es) m
match_room false c (suc n) piece es ss is most m = absurd (false≢true (sym is ∙ some_there n))

pub match_offered : {k : Kind} {ds : List Did} {new : Kind} (names : List (List ℕ)) (c n : ℕ) (piece : List ℕ) (v u x : Place) (end : Seen) (es : List Event) → u.seen.steps ≡ with_last (step.Offered c piece n) v.seen.steps → n ≤ length piece
    → CarriedAll (events_in (room_event c n)) k ds new → Becomes names u ds x → MatchesTo x.seen end es → MatchesTo v.seen end (events_of ds ++ es)
match_offered {k} {ds} {new} names c n piece v u x end es e most all b rest =
    match_as v.seen v.seen end (events_in (room_event c n) ++ es) (events_of ds ++ es) refl (ap (λ (fs : List Event). fs ++ es) (all_events all))
    (match_step v.seen u.seen end (step.Offered c piece n) es (events_in (room_event c n) ++ es) e (λ ss m. match_room (nat_lt 0 n) c n piece es ss refl most m)
    (match_closes u.seen x.seen end es (all_close names u x all b) rest))

-- ---- whole parts of turns
pub runs_match : {k : Kind} {ds : List Did} {new : Kind} (names : List (List ℕ)) (v w : Place) → Runs k ds new → Becomes names v ds w → MatchesTo v.seen w.seen (events_of ds)
runs_match names v w (NoneRun k) b = subst (λ (s : Seen). MatchesTo v.seen s []) (sym (ap (λ (p : Place). p.seen) b)) (match_none v.seen)
runs_match names v w (InnerRun es k mid new ds rest inner rising all others) b =
    let r = becomes_split names ds rest v w b in
    let more : MatchesTo r.0.seen w.seen (events_of rest) = runs_match names r.0 w others r.2 in
    let both : MatchesTo v.seen w.seen (events_of rest) = match_closes v.seen r.0.seen w.seen (events_of rest) (all_close names v r.0 all r.1) more in
    let same : outside_events (events_of (ds ++ rest)) ≡ outside_events (events_of rest)
    = ap outside_events (events_append ds rest ∙ ap (λ (xs : List Event). xs ++ events_of rest) (all_events all)) ∙ outside_append es (events_of rest) ∙ ap (λ (xs : List Event). xs ++ outside_events (events_of rest)) (inner_outside es inner) in
    record { steps = both.steps; grows = both.grows; matches = subst (λ (xs : List Event). Matches both.steps xs) (sym same) both.matches }
runs_match names v w (TakenRun given k mid new ds rest taken others) b =
    let r = becomes_split names ds rest b.0 w b.2 in
    match_as v.seen v.seen w.seen (events_of ds ++ events_of rest) (events_of (ds ++ rest)) refl (events_append ds rest)
    (match_taken names v b.0 r.0 w.seen (events_of rest) b.1.1 taken r.1 (runs_match names r.0 w others r.2))
runs_match names v w (OfferRun c n piece k mid new ds rest front most all others) b =
    let r = becomes_split names ds rest b.0 w b.2 in
    match_as v.seen v.seen w.seen (events_of ds ++ events_of rest) (events_of (ds ++ rest)) refl (events_append ds rest)
    (match_offered names c n piece v b.0 r.0 w.seen (events_of rest) (ap (λ (p : Place). p.seen.steps) b.1) most all r.1 (runs_match names r.0 w others r.2))
