-- The shed list of a session's events is a list of events that a wire session may have.
use Rattle.flow_notes.specs.declared.events.Event.{Event}
use Rattle.flow_notes.specs.declared.events.Job.{Job}
use Rattle.flow_notes.specs.declared.events.PlainEvent.{PlainEvent}
use Rattle.proxy_config.specs.declared.overload.ShedRow.{ShedRow}
use Rattle.session_lines.specs.WireOrder.{MayFollowWire, MayFollowWireAll, gone, is_there, named, obeyed, posts_of}
use Rattle.shed_points.specs.ShedList.{dispatched, instead, keeps, kept, shed_poster}
use Rattle.shed_points.specs.Shedders.{IsNumbered}
use Rattle.shed_points.specs.Shedding.{Became, Judged, events_of, grows, is_shed, is_silent, judged, point_state, read_point, shed_at, standing_of, state_after, sum_at, verdict_at, verdict_of}
use Rattle.shed_points.specs.declared.shedder.Standing.{Standing}
use Rattle.shed_points.specs.declared.verdict.Verdict.{Verdict}
use Rattle.shed_run.specs.ShedLines.{is_own}
use Rattle.std.proofs.Common.{ap, arith, refl, subst, sym, ◌∙◌}
use Rattle.std.proofs.lemmas.Bool.{eq-eqb}
use Rattle.std.proofs.lemmas.Bool.Decides.{nat_tests}
use Rattle.std.specs.List.{AllByRecursion, list_all}
use Rattle.std.specs.Prelude.{Bool, List, None, Option, Some, [], false, if◌then◌else◌, length, nat_le, nat_lt, not, true, ℕ, ◌&&◌, ◌++◌, ◌+◌, ◌<◌, ◌==◌, ◌^◌, ◌||◌, ◌∷◌, ◌≡◌}
use Rattle.tape_laws.specs.Dispatches.{has}
use Rattle.flow_notes.specs.declared.events.Event.TheVariants as event
use Rattle.flow_notes.specs.declared.events.Job.TheVariants as job
use Rattle.proxy_config.specs.declared.overload.Point.TheVariants as point
use Rattle.shed_points.specs.declared.shedder.Standing.TheVariants as standing
use Rattle.shed_points.specs.declared.verdict.Verdict.TheVariants as verdict

-- ---- truths

left : (a b : Bool) → (a && b) ≡ true → a ≡ true
left true b e = refl
left false b e = cc

right : (a b : Bool) → (a && b) ≡ true → b ≡ true
right true b e = e
right false b e = cc

under : (a b c : Bool) → (a && b) ≡ true → (b ≡ true → c ≡ true) → (a && c) ≡ true
under true b c e f = f e
under false b c e f = cc

more : (a b c : Bool) → (b ≡ true → c ≡ true) → (a || b) ≡ true → (a || c) ≡ true
more true b c f e = refl
more false b c f e = f e

behind : (a b : Bool) → b ≡ true → (a || b) ≡ true
behind true b e = refl
behind false b e = e

no_true : (b : Bool) → (b ≡ true → ⊥) → b ≡ false
no_true true f = absurd (f refl)
no_true false f = refl

same : (c d : ℕ) → (c == d) ≡ true → c ≡ d
same c d t = grind (arith, nat_tests)

turned : (p q : ℕ) → (q == p) ≡ false → (p == q) ≡ false
turned p q f = grind (arith, nat_tests)

unlike : (x c : ℕ) → nat_lt x c ≡ true → x ≡ c → ⊥
unlike x c t e = grind (arith, nat_tests)

at_first : (b : Bool) (x c d : ℕ) (later : Bool) → (x == d) ≡ b → c ≡ d → nat_lt x c ≡ true → (b || later) ≡ true → (later ≡ true → ⊥) → ⊥
at_first true x c d later t e less there none = unlike x c less (same x d t ∙ sym e)
at_first false x c d later t e less there none = none there

-- a number above all of them is none of them
fresh : (xs : List ℕ) (c d : ℕ) → c ≡ d → list_all (λ x. nat_lt x c) xs ≡ true → has xs d ≡ true → ⊥
fresh [] c d e all there = cc
fresh (x ∷ xs) c d e all there = at_first (x == d) x c d (has xs d) refl e (left (nat_lt x c) (list_all (λ y. nat_lt y c) xs) all) there (λ k. fresh xs c d e (right (nat_lt x c) (list_all (λ y. nat_lt y c) xs) all) k)

-- ---- what the shed list has in common with the events

pub record Kin (es : List Event) (js : List Judged) : Type 0 where
  pub named_in : (P : ℕ → Bool) → list_all P (named es) ≡ true → list_all P (named (dispatched js)) ≡ true
  pub gone_in : (d : ℕ) → has (gone (dispatched js)) d ≡ true → has (named es) d ≡ true
  pub there : (d : ℕ) → is_there es d ≡ true → is_shed (standing_of d js) ≡ false → is_there (dispatched js) d ≡ true
  pub posts : (p : ℕ) → (p == shed_poster) ≡ false → posts_of p (dispatched js) ≡ posts_of p es
  pub own : posts_of shed_poster (dispatched js) ≡ shed_at point.Drain js
  pub obeys : obeyed (dispatched js) ≡ obeyed es

pub no_kin : Kin [] []
no_kin = record { named_in = λ P e. refl; gone_in = λ d e. e; there = λ d e f. e; posts = λ p e. refl; own = refl; obeys = refl }

module _ (es : List Event) (js : List Judged) (k : Kin es js) where
  -- ---- a connection that comes

  is_first : (c d : ℕ) → (c == d) ≡ true → list_all (λ x. nat_lt x c) (named es) ≡ true → has (gone (dispatched js)) d ≡ false
  is_first c d t all = no_true (has (gone (dispatched js)) d) (λ there. fresh (named es) c d (same c d t) all (k.gone_in d there))

  come_there : (c d : ℕ) (b : Bool) → (c == d) ≡ b → list_all (λ x. nat_lt x c) (named es) ≡ true
      → ((b || has (named es) d) && not (has (gone es) d)) ≡ true → (b ≡ false → is_shed (standing_of d js) ≡ false) → ((b || has (named (dispatched js)) d) && not (has (gone (dispatched js)) d)) ≡ true
  come_there c d true t all e f = ap not (is_first c d t all)
  come_there c d false t all e f = k.there d e (f refl)

  join_kin : (c n : ℕ) → list_all (λ x. nat_lt x c) (named es) ≡ true → Kin (event.Join c n ∷ es) (Became (event.Join c n) verdict.Pass ∷ js)
  join_kin c n all = record {
    named_in = λ P e. under (P c) (list_all P (named es)) (list_all P (named (dispatched js))) e (k.named_in P);
    gone_in = λ d e. behind (c == d) (has (named es) d) (k.gone_in d e);
    there = λ d e f. come_there c d (c == d) refl all e (λ _. f);
    posts = k.posts;
    own = k.own;
    obeys = k.obeys;
  }

  served : (c d : ℕ) (b : Bool) → is_shed (if b then Some standing.Served else standing_of d js) ≡ false → b ≡ false → is_shed (standing_of d js) ≡ false
  served c d true e f = cc
  served c d false e f = e

  accept_kin : (c : ℕ) → list_all (λ x. nat_lt x c) (named es) ≡ true → Kin (event.Accept c ∷ es) (Became (event.Accept c) verdict.Pass ∷ js)
  accept_kin c all = record {
    named_in = λ P e. under (P c) (list_all P (named es)) (list_all P (named (dispatched js))) e (k.named_in P);
    gone_in = λ d e. behind (c == d) (has (named es) d) (k.gone_in d e);
    there = λ d e f. come_there c d (c == d) refl all e (served c d (c == d) f);
    posts = k.posts;
    own = k.own;
    obeys = k.obeys;
  }

  -- another than one that was shed just now
  other_there : (c d : ℕ) (b : Bool) → ((b || has (named es) d) && not (has (gone es) d)) ≡ true → is_shed (if b then Some standing.Shed else standing_of d js) ≡ false → is_there (dispatched js) d ≡ true
  other_there c d true e f = cc
  other_there c d false e f = k.there d e f

  accept_shed_kin : (c x : ℕ) → Kin (event.Accept c ∷ es) (Became (event.Accept c) (verdict.Shed point.Accept x) ∷ js)
  accept_shed_kin c x = record {
    named_in = λ P e. k.named_in P (right (P c) (list_all P (named es)) e);
    gone_in = λ d e. behind (c == d) (has (named es) d) (k.gone_in d e);
    there = λ d e f. other_there c d (c == d) e f;
    posts = k.posts;
    own = k.own;
    obeys = k.obeys;
  }

  -- ---- a connection that is there

  read_kin : (c : ℕ) (octets : List ℕ) → Kin (event.Read c octets ∷ es) (Became (event.Read c octets) verdict.Pass ∷ js)
  read_kin c octets = record { named_in = k.named_in; gone_in = k.gone_in; there = k.there; posts = k.posts; own = k.own; obeys = k.obeys }

  read_silent_kin : (c : ℕ) (octets : List ℕ) → Kin (event.Read c octets ∷ es) (Became (event.Read c octets) verdict.Silent ∷ js)
  read_silent_kin c octets = record { named_in = k.named_in; gone_in = k.gone_in; there = k.there; posts = k.posts; own = k.own; obeys = k.obeys }

  room_kin : (c n : ℕ) → Kin (event.Room c n ∷ es) (Became (event.Room c n) verdict.Pass ∷ js)
  room_kin c n = record { named_in = k.named_in; gone_in = k.gone_in; there = k.there; posts = k.posts; own = k.own; obeys = k.obeys }

  room_silent_kin : (c n : ℕ) → Kin (event.Room c n ∷ es) (Became (event.Room c n) verdict.Silent ∷ js)
  room_silent_kin c n = record { named_in = k.named_in; gone_in = k.gone_in; there = k.there; posts = k.posts; own = k.own; obeys = k.obeys }

  lost_in : (c d : ℕ) (b : Bool) → (c == d) ≡ b → is_there es c ≡ true → (b || has (gone (dispatched js)) d) ≡ true → has (named es) d ≡ true
  lost_in c d true t e f = let P : ℕ → Type 0 = λ v. has (named es) v ≡ true in subst P (same c d t) (left (has (named es) c) (not (has (gone es) c)) e)
  lost_in c d false t e f = k.gone_in d f

  shed_there : (c d : ℕ) (b : Bool) → is_there es d ≡ true → is_shed (if b then Some standing.Shed else standing_of d js) ≡ false → (has (named (dispatched js)) d && not (b || has (gone (dispatched js)) d)) ≡ true
  shed_there c d true e f = cc
  shed_there c d false e f = k.there d e f

  read_shed_kin : (c : ℕ) (octets : List ℕ) (x : ℕ) → is_there es c ≡ true → Kin (event.Read c octets ∷ es) (Became (event.Read c octets) (verdict.Shed point.Read x) ∷ js)
  read_shed_kin c octets x come = record {
    named_in = k.named_in;
    gone_in = λ d e. lost_in c d (c == d) refl come e;
    there = λ d e f. shed_there c d (c == d) e f;
    posts = k.posts;
    own = k.own;
    obeys = k.obeys;
  }

  none_left : (a : Bool) → (a && false) ≡ true → ⊥
  none_left true e = cc
  none_left false e = cc

  gone_there : (c d : ℕ) (b : Bool) → (has (named es) d && not (b || has (gone es) d)) ≡ true → is_shed (if b then None else standing_of d js) ≡ false → (has (named (dispatched js)) d && not (b || has (gone (dispatched js)) d)) ≡ true
  gone_there c d true e f = absurd (none_left (has (named es) d) e)
  gone_there c d false e f = k.there d e f

  gone_kin : (c : ℕ) → is_there es c ≡ true → Kin (event.Gone c ∷ es) (Became (event.Gone c) verdict.Pass ∷ js)
  gone_kin c come = record {
    named_in = k.named_in;
    gone_in = λ d e. lost_in c d (c == d) refl come e;
    there = λ d e f. gone_there c d (c == d) e f;
    posts = k.posts;
    own = k.own;
    obeys = k.obeys;
  }

  gone_silent_there : (c d : ℕ) (b : Bool) → (has (named es) d && not (b || has (gone es) d)) ≡ true → is_shed (if b then None else standing_of d js) ≡ false → is_there (dispatched js) d ≡ true
  gone_silent_there c d true e f = absurd (none_left (has (named es) d) e)
  gone_silent_there c d false e f = k.there d e f

  gone_silent_kin : (c : ℕ) → Kin (event.Gone c ∷ es) (Became (event.Gone c) verdict.Silent ∷ js)
  gone_silent_kin c = record { named_in = k.named_in; gone_in = k.gone_in; there = λ d e f. gone_silent_there c d (c == d) e f; posts = k.posts; own = k.own; obeys = k.obeys }

  -- ---- the others

  tick_kin : (now : ℕ) → Kin (event.Tick now ∷ es) (Became (event.Tick now) verdict.Pass ∷ js)
  tick_kin now = record { named_in = k.named_in; gone_in = k.gone_in; there = k.there; posts = k.posts; own = k.own; obeys = k.obeys }

  plain_kin : (e : PlainEvent) → Kin (event.Plain e ∷ es) (Became (event.Plain e) verdict.Pass ∷ js)
  plain_kin e = record { named_in = k.named_in; gone_in = k.gone_in; there = k.there; posts = k.posts; own = k.own; obeys = k.obeys }

  post_kin : (p n : ℕ) (job : Job) → (p == shed_poster) ≡ false → Kin (event.Post p n job ∷ es) (Became (event.Post p n job) verdict.Pass ∷ js)
  post_kin p n job other = record {
    named_in = k.named_in;
    gone_in = k.gone_in;
    there = k.there;
    posts = λ q e. ap (λ m. if p == q then m + 1 else m) (k.posts q e);
    own = ap (λ b. if b then posts_of shed_poster (dispatched js) + 1 else posts_of shed_poster (dispatched js)) other ∙ k.own;
    obeys = k.obeys;
  }

  obey_kin : (v : ℕ) (ps : List ℕ) → Kin (event.Obey v ps ∷ es) (Became (event.Obey v ps) verdict.Pass ∷ js)
  obey_kin v ps = record { named_in = k.named_in; gone_in = k.gone_in; there = k.there; posts = k.posts; own = k.own; obeys = ap (λ (l : List ℕ). v ∷ l) k.obeys }

  obey_shed_kin : (v : ℕ) (ps : List ℕ) (x : ℕ) → Kin (event.Obey v ps ∷ es) (Became (event.Obey v ps) (verdict.Shed point.Drain x) ∷ js)
  obey_shed_kin v ps x = record {
    named_in = k.named_in;
    gone_in = k.gone_in;
    there = k.there;
    posts = λ q e. ap (λ b. if b then posts_of q (dispatched js) + 1 else posts_of q (dispatched js)) (turned shed_poster q e) ∙ k.posts q e;
    own = ap (λ m. m + 1) k.own;
    obeys = ap (λ (l : List ℕ). v ∷ l) k.obeys;
  }

-- ---- what an event comes to may follow

-- the event itself, where its connection wasn't shed
passes : (names : List (List ℕ)) (resources : ℕ) (es : List Event) (e : Event) (js : List Judged) → Kin es js → MayFollowWire names resources es e → is_own e ≡ false → is_silent e js ≡ false → MayFollowWire names resources (dispatched js) e
passes names resources es (event.Accept c) js k m own loud = (m.0, m.1, under (nat_lt 0 c) (list_all (λ d. nat_lt d c) (named es)) (list_all (λ d. nat_lt d c) (named (dispatched js))) m.2 (k.named_in (λ d. nat_lt d c)))
passes names resources es (event.Join c n) js k m own loud = (m.0, m.1, under (nat_lt 0 c) (list_all (λ d. nat_lt d c) (named es)) (list_all (λ d. nat_lt d c) (named (dispatched js))) m.2 (k.named_in (λ d. nat_lt d c)))
passes names resources es (event.Read c octets) js k m own loud = (m.0, m.1, k.there c m.2 loud)
passes names resources es (event.Gone c) js k m own loud = (m.0, m.1, k.there c m.2 loud)
passes names resources es (event.Room c n) js k m own loud = (m.0, m.1, k.there c m.2 loud)
passes names resources es (event.Tick now) js k m own loud = (m.0, m.1, refl)
passes names resources es (event.Post p n job) js k m own loud = (m.0, m.1, ap (λ q. n == q) (k.posts p own) ∙ m.2)
passes names resources es (event.Obey v ps) js k m own loud = (m.0, m.1, ap (λ (l : List ℕ). nat_le 1 v && list_all (λ w. nat_lt w v) l && length ps == resources) k.obeys ∙ m.2)
passes names resources es (event.Plain e) js k m own loud = (m.0, m.1, m.2)

-- what comes of an event that has this verdict
pub record Comes (names : List (List ℕ)) (resources : ℕ) (es : List Event) (e : Event) (js : List Judged) (v : Verdict) : Type 0 where
  pub kin : Kin (e ∷ es) (Became e v ∷ js)
  pub itself : keeps v ≡ true → MayFollowWire names resources (dispatched js) e
  pub stead : IsNumbered v (shed_at point.Drain js) → (f : Event) → instead e v (shed_at point.Drain js) ≡ Some f → MayFollowWire names resources (kept e v ++ dispatched js) f

module _ (names : List (List ℕ)) (resources : ℕ) (es : List Event) (js : List Judged) (k : Kin es js) where
  accept_comes : (c x : ℕ) (b : Bool) → MayFollowWire names resources es (event.Accept c) → Comes names resources es (event.Accept c) js (if b then verdict.Shed point.Accept x else verdict.Pass)
  accept_comes c x true m = record { kin = accept_shed_kin es js k c x; itself = λ e. cc; stead = λ few f e. cc }
  accept_comes c x false m = record {
    kin = accept_kin es js k c (right (nat_lt 0 c) (list_all (λ d. nat_lt d c) (named es)) m.2);
    itself = λ e. passes names resources es (event.Accept c) js k m refl refl;
    stead = λ few f e. cc;
  }

  served_comes : (c : ℕ) (octets : List ℕ) (x : ℕ) (b : Bool) → MayFollowWire names resources es (event.Read c octets) → is_shed (standing_of c js) ≡ false → Comes names resources es (event.Read c octets) js (if b then verdict.Shed point.Read x else verdict.Pass)
  served_comes c octets x true m loud = record {
    kin = read_shed_kin es js k c octets x m.2;
    itself = λ e. cc;
    stead = λ few f e. (let P : Event → Type 0 = λ v. MayFollowWire names resources (dispatched js) v in
        let is : event.Gone c ≡ f = cc in
        subst P is (passes names resources es (event.Gone c) js k (tt, m.1.0, m.2) refl loud));
  }
  served_comes c octets x false m loud = record { kin = read_kin es js k c octets; itself = λ e. passes names resources es (event.Read c octets) js k m refl loud; stead = λ few f e. cc }

  read_comes : (rows : List ShedRow) (c : ℕ) (octets : List ℕ) (o : Option Standing) → MayFollowWire names resources es (event.Read c octets) → standing_of c js ≡ o
      → Comes names resources es (event.Read c octets) js (if is_shed o then verdict.Silent else verdict_at rows (event.Read c octets) js (read_point o))
  read_comes rows c octets None m is = record { kin = read_kin es js k c octets; itself = λ e. passes names resources es (event.Read c octets) js k m refl (ap is_shed is); stead = λ few f e. cc }
  read_comes rows c octets (Some standing.Shed) m is = record { kin = read_silent_kin es js k c octets; itself = λ e. cc; stead = λ few f e. cc }
  read_comes rows c octets (Some standing.Served) m is =
      served_comes c octets (state_after rows point.Read (events_of js)) (grows (sum_at rows point.Read js) (state_after rows point.Read (events_of js))) m (ap is_shed is)

  gone_comes : (c : ℕ) (b : Bool) → MayFollowWire names resources es (event.Gone c) → is_shed (standing_of c js) ≡ b → Comes names resources es (event.Gone c) js (if b then verdict.Silent else verdict.Pass)
  gone_comes c true m is = record { kin = gone_silent_kin es js k c; itself = λ e. cc; stead = λ few f e. cc }
  gone_comes c false m is = record { kin = gone_kin es js k c m.2; itself = λ e. passes names resources es (event.Gone c) js k m refl is; stead = λ few f e. cc }

  room_comes : (c n : ℕ) (b : Bool) → MayFollowWire names resources es (event.Room c n) → is_shed (standing_of c js) ≡ b → Comes names resources es (event.Room c n) js (if b then verdict.Silent else verdict.Pass)
  room_comes c n true m is = record { kin = room_silent_kin es js k c n; itself = λ e. cc; stead = λ few f e. cc }
  room_comes c n false m is = record { kin = room_kin es js k c n; itself = λ e. passes names resources es (event.Room c n) js k m refl is; stead = λ few f e. cc }

  -- a post of the shedder's, behind those before
  post_follows : (v : ℕ) (ps : List ℕ) → shed_at point.Drain js < 2 ^ 63 → MayFollowWire names resources (event.Obey v ps ∷ dispatched js) (event.Post shed_poster (shed_at point.Drain js) job.Drain)
  post_follows v ps few = ((few, tt), (omega arith, omega (arith, few), tt), eq-eqb (shed_at point.Drain js) (posts_of shed_poster (dispatched js)) (sym k.own))

  obey_comes : (v : ℕ) (ps : List ℕ) (x : ℕ) (b : Bool) → MayFollowWire names resources es (event.Obey v ps)
      → Comes names resources es (event.Obey v ps) js (if b then verdict.Shed point.Drain x else verdict.Pass)
  obey_comes v ps x true m = record {
    kin = obey_shed_kin es js k v ps x;
    itself = λ e. passes names resources es (event.Obey v ps) js k m refl refl;
    stead = λ few f e. (let P : Event → Type 0 = λ w. MayFollowWire names resources (event.Obey v ps ∷ dispatched js) w in
        let is : event.Post shed_poster (shed_at point.Drain js) job.Drain ≡ f = cc in
        subst P is (post_follows v ps few));
  }
  obey_comes v ps x false m = record { kin = obey_kin es js k v ps; itself = λ e. passes names resources es (event.Obey v ps) js k m refl refl; stead = λ few f e. cc }

  pub comes : (rows : List ShedRow) (e : Event) → MayFollowWire names resources es e → is_own e ≡ false → Comes names resources es e js (verdict_of rows e js)
  comes rows (event.Accept c) m own = accept_comes c (state_after rows point.Accept (events_of js)) (grows (sum_at rows point.Accept js) (state_after rows point.Accept (events_of js))) m
  comes rows (event.Join c n) m own = record {
    kin = join_kin es js k c n (right (nat_lt 0 c) (list_all (λ d. nat_lt d c) (named es)) m.2);
    itself = λ e. passes names resources es (event.Join c n) js k m refl refl;
    stead = λ few f e. cc;
  }
  comes rows (event.Read c octets) m own = read_comes rows c octets (standing_of c js) m refl
  comes rows (event.Gone c) m own = gone_comes c (is_shed (standing_of c js)) m refl
  comes rows (event.Room c n) m own = room_comes c n (is_shed (standing_of c js)) m refl
  comes rows (event.Tick now) m own = record { kin = tick_kin es js k now; itself = λ e. passes names resources es (event.Tick now) js k m refl refl; stead = λ few f e. cc }
  comes rows (event.Post p n job) m own = record { kin = post_kin es js k p n job own; itself = λ e. passes names resources es (event.Post p n job) js k m own refl; stead = λ few f e. cc }
  comes rows (event.Obey v ps) m own = obey_comes v ps (point_state rows ps point.Drain) (grows (sum_at rows point.Drain js) (point_state rows ps point.Drain)) m
  comes rows (event.Plain e) m own = absurd (let no : false ≡ true = m.2 in cc)

-- ---- the whole list

pub kin_all : (names : List (List ℕ)) (resources : ℕ) (rows : List ShedRow) (es : List Event) → MayFollowWireAll names resources es → AllByRecursion (λ e. is_own e ≡ false) es → Kin es (judged rows es)
kin_all names resources rows [] may own = no_kin
kin_all names resources rows (e ∷ es) may own = (comes names resources es (judged rows es) (kin_all names resources rows es may.1 own.1) rows e may.0 own.0).kin
