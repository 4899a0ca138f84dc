-- Turns one after the other, and the parts of the promise.
use Rattle.flow_notes.specs.declared.events.Event.{Event}
use Rattle.flow_notes.specs.declared.events.Event.TheVariants as event
use Rattle.flow_notes.specs.declared.notes.Note.{Note}
use Rattle.post_queue.specs.declared.hand.Hand.{Hand}
use Rattle.post_queue.specs.declared.posts.Post.{Post}
use Rattle.session_run.specs.Ends.{AppendsFront}
use Rattle.shared_state.specs.declared.version_word.VersionView.{VersionView}
use Rattle.std.proofs.Common.{ap, append_assoc, arith, inl, inr, refl, subst, sym, ◌∙◌, ◌⊎◌}
use Rattle.std.proofs.lemmas.List.{append-nil, length-append, map-append}
use Rattle.std.specs.Io.KnownBytes.{Appends, append_known}
use Rattle.std.specs.Option.{option_map}
use Rattle.std.specs.Prelude.{Bool, List, None, Option, Some, [], false, length, map, suc, true, ℕ, ◌++◌, ◌+◌, ◌<◌, ◌∷◌, ◌≡◌, ◌≤◌}
use Rattle.worker_core.specs.Sessions.{RestsWire, version_of}
use Rattle.worker_core.specs.declared.worker.Kind.{Kind}
use Rattle.worker_loop.proofs.Becoming.{becomes_append, becomes_split}
use Rattle.worker_loop.proofs.Obeying.{turn_obeys}
use Rattle.worker_loop.proofs.Parted.{appends_more, handed_are, lines_done, runs_show, told_done}
use Rattle.worker_loop.proofs.Running.{AreQuiet, all_events, events_append, inner_obeyed, inner_posts, notes_append, offers_quiet, offers_run, posts_append, quiet_append, quiet_as, quiet_obeyed, rising_obeyed, rising_posts, runs_append, taken_quiet, ticks_append}
use Rattle.worker_loop.proofs.Turning.{part_posts, part_ticks}
use Rattle.worker_loop.specs.Carrying.{events_in, obeyed_event, post_event}
use Rattle.worker_loop.specs.Cutting.{AtWires, Begun, Cuts, CutsOne, CutsShort, GaveOne, LetIn, LostOne, Midway, NoneBegun, TookSome}
use Rattle.worker_loop.specs.Did.{Did, Dispatched, Ended, Gave, events_of, notes_of}
use Rattle.worker_loop.specs.Parts.{EndsLines, EndsWhole, Hands, InTurns, Lines, Tape, lines_of, turn_events}
use Rattle.worker_loop.specs.Places.{Becomes, Place, event_line}
use Rattle.worker_loop.specs.Turns.{AreTurns, IsTurn, More, NoTurns, Sides}
use Rattle.worker_loop.specs.Works.{BreaksTurn, InnerRun, MayMiss, NoneRun, Runs, StopsIn, TakenRun, Works, posts_in, ticks_in}
use Rattle.worker_loop.specs.declared.turns.Ended.{Ended as End}
use Rattle.worker_loop.specs.declared.turns.Ended.TheVariants as ended
use Rattle.worker_ports.specs.Told.{TellsLast}

-- ---- the moments
-- they are told no more, or these were added
abbrev TellsAll : Option (List ℕ) → List ℕ → Option (List ℕ) → Type 0
TellsAll old xs new = (new ≡ None) ⊎ (new ≡ option_map (λ before. before ++ xs) old)

none_told : (t : Option (List ℕ)) → t ≡ option_map (λ before. before ++ []) t
none_told None = refl
none_told (Some xs) = ap (λ (ys : List ℕ). Some ys) (sym (append-nil xs))

told_twice : (t : Option (List ℕ)) (xs ys : List ℕ) → option_map (λ before. before ++ ys) (option_map (λ before. before ++ xs) t) ≡ option_map (λ before. before ++ (xs ++ ys)) t
told_twice None xs ys = refl
told_twice (Some us) xs ys = ap (λ (zs : List ℕ). Some zs) (append_assoc us xs ys)

tells_more : (a b c : Option (List ℕ)) (xs ys : List ℕ) → TellsAll a xs b → TellsAll b ys c → TellsAll a (xs ++ ys) c
tells_more a b c xs ys one (inl none) = inl none
tells_more a b c xs ys (inl none) (inr two) = inl (two ∙ ap (option_map (λ (before : List ℕ). before ++ ys)) none)
tells_more a b c xs ys (inr one) (inr two) = inr (two ∙ ap (option_map (λ (before : List ℕ). before ++ ys)) one ∙ told_twice a xs ys)

-- ---- whole turns
pub record Ran (n : ℕ) (names : List (List ℕ)) (old : Sides) (k0 : Kind) (v0 : Place) (new : Sides) (k : Kind) (v : Place) : Type 0 where
  pub did : List Did
  pub runs : Runs k0 did k
  pub becomes : Becomes names v0 did v
  pub clock : TellsAll old.moments (ticks_in (events_of did)) new.moments
  pub ran : List Post
  pub drained : new.pass.ran ≡ old.pass.ran ++ ran
  pub posts : posts_in (events_of did) ≡ map post_event ran
  pub drains : new.pass.drains ≡ old.pass.drains + n
  pub asks : new.looks.asks ≡ old.looks.asks + n
  pub count : length (ticks_in (events_of did)) ≡ n
  pub obeyed : RestsWire k0 → version_of k0 ≤ old.kept.version → (version_of k ≤ new.kept.version) × (0 < n → version_of k ≡ new.kept.version)

ran_none : (names : List (List ℕ)) (s : Sides) (k : Kind) (v : Place) → Ran 0 names s k v s k v
ran_none names s k v = record {
  did = [];
  runs = NoneRun k;
  becomes = refl;
  clock = inr (none_told s.moments);
  ran = [];
  drained = sym (append-nil s.pass.ran);
  posts = refl;
  drains = omega arith;
  asks = omega arith;
  count = refl;
  obeyed = λ rests most. (most, λ less. absurd (omega (arith, less)));
}

module _ (names : List (List ℕ)) (old new : Sides) (k k' : Kind) (v w : Place) (stops : Bool) (t : IsTurn names old k v new k' w stops) where
  turn_outer : List Did
  turn_outer = t.obeys ++ Gave t.given ∷ (t.takes ++ t.offers)

  turn_quiet : AreQuiet (events_of (t.obeys ++ Gave t.given ∷ (t.takes ++ t.offers)))
  turn_quiet =
      let last : AreQuiet (events_of (t.takes ++ t.offers)) = quiet_as (events_of (t.takes ++ t.offers)) (events_of t.takes ++ events_of t.offers) (events_append t.takes t.offers) (quiet_append (events_of t.takes) (events_of t.offers) (taken_quiet t.taken) (offers_quiet t.offered)) in
      let first : AreQuiet (events_of t.obeys) = quiet_as (events_of t.obeys) (events_in (obeyed_event t.k2 t.version t.pressures)) (all_events t.obeyed) (quiet_obeyed t.k2 t.version t.pressures) in
      quiet_as (events_of (t.obeys ++ Gave t.given ∷ (t.takes ++ t.offers))) (events_of t.obeys ++ events_of (t.takes ++ t.offers)) (events_append t.obeys (Gave t.given ∷ (t.takes ++ t.offers)))
      (quiet_append (events_of t.obeys) (events_of (t.takes ++ t.offers)) first last)

  turn_events_are : events_of (t.ticks ++ (t.runs ++ (t.obeys ++ Gave t.given ∷ (t.takes ++ t.offers)))) ≡ event.Tick t.moment ∷ (map post_event t.posts ++ events_of (t.obeys ++ Gave t.given ∷ (t.takes ++ t.offers)))
  turn_events_are =
      events_append t.ticks (t.runs ++ (t.obeys ++ Gave t.given ∷ (t.takes ++ t.offers)))
      ∙ ap (λ (xs : List Event). xs ++ events_of (t.runs ++ (t.obeys ++ Gave t.given ∷ (t.takes ++ t.offers)))) (all_events t.ticked)
      ∙ ap (λ (xs : List Event). event.Tick t.moment ∷ xs)
      (events_append t.runs (t.obeys ++ Gave t.given ∷ (t.takes ++ t.offers)) ∙ ap (λ (xs : List Event). xs ++ events_of (t.obeys ++ Gave t.given ∷ (t.takes ++ t.offers))) (all_events t.ran))

  turn_ticks : ticks_in (events_of (t.ticks ++ (t.runs ++ (t.obeys ++ Gave t.given ∷ (t.takes ++ t.offers))))) ≡ t.moment ∷ []
  turn_ticks = ap ticks_in turn_events_are ∙ part_ticks t.moment t.posts (events_of (t.obeys ++ Gave t.given ∷ (t.takes ++ t.offers))) turn_quiet

  tells_turn : (xs : List ℕ) → xs ≡ t.moment ∷ [] → TellsLast old.moments t.moment new.moments → TellsAll old.moments xs new.moments
  tells_turn xs e (inl none) = inl none
  tells_turn xs e (inr last) = inr (last ∙ ap (λ (ys : List ℕ). option_map (λ before. before ++ ys) old.moments) (sym e))

  pub ran_turn : Ran 1 names old k v new k' w
  ran_turn = record {
    did = t.ticks ++ (t.runs ++ (t.obeys ++ Gave t.given ∷ (t.takes ++ t.offers)));
    runs = InnerRun (event.Tick t.moment ∷ []) k t.k1 k' t.ticks (t.runs ++ (t.obeys ++ Gave t.given ∷ (t.takes ++ t.offers))) (refl, tt) tt t.ticked
        (InnerRun (map post_event t.posts) t.k1 t.k2 k' t.runs (t.obeys ++ Gave t.given ∷ (t.takes ++ t.offers)) (inner_posts t.posts) (rising_posts (version_of t.k1) t.posts) t.ran
        (InnerRun (events_in (obeyed_event t.k2 t.version t.pressures)) t.k2 t.k3 k' t.obeys (Gave t.given ∷ (t.takes ++ t.offers)) (inner_obeyed t.k2 t.version t.pressures) (rising_obeyed t.k2 t.version t.pressures) t.obeyed
        (TakenRun t.given t.k3 t.k4 k' t.takes t.offers t.taken (offers_run t.offered))));
    becomes = t.becomes;
    clock = tells_turn _ turn_ticks t.asks.clock;
    ran = t.posts;
    drained = t.asks.ran;
    posts = ap posts_in turn_events_are ∙ part_posts t.moment t.posts (events_of (t.obeys ++ Gave t.given ∷ (t.takes ++ t.offers))) turn_quiet;
    drains = t.asks.drains;
    asks = ap (λ (l : VersionView). l.asks) t.asks.look;
    count = ap length turn_ticks;
    obeyed = λ rests most. let is : version_of k' ≡ new.kept.version = turn_obeys names old new k k' v w stops rests t most in (omega (arith, is), λ less. is);
  }

counts_more : (xs ys all : List ℕ) (n m : ℕ) → all ≡ xs ++ ys → length xs ≡ n → length ys ≡ m → length all ≡ n + m
counts_more xs ys all n m e first second = let is : length all ≡ length xs + length ys = ap length e ∙ length-append xs ys in omega (arith, is, first, second)

ran_more : (names : List (List ℕ)) (n m : ℕ) (a b c : Sides) (k0 k1 k2 : Kind) (v0 v1 v2 : Place) → 0 < m → Ran n names a k0 v0 b k1 v1 → Ran m names b k1 v1 c k2 v2 → Ran (n + m) names a k0 v0 c k2 v2
ran_more names n m a b c k0 k1 k2 v0 v1 v2 some one two =
    let ticks : ticks_in (events_of (one.did ++ two.did)) ≡ ticks_in (events_of one.did) ++ ticks_in (events_of two.did) = ap ticks_in (events_append one.did two.did) ∙ ticks_append (events_of one.did) (events_of two.did) in
    record {
      did = one.did ++ two.did;
      runs = runs_append one.runs two.did k2 two.runs;
      becomes = becomes_append names one.did two.did v0 v1 v2 one.becomes two.becomes;
      clock = subst (λ (xs : List ℕ). TellsAll a.moments xs c.moments) (sym ticks) (tells_more a.moments b.moments c.moments (ticks_in (events_of one.did)) (ticks_in (events_of two.did)) one.clock two.clock);
      ran = one.ran ++ two.ran;
      drained = two.drained ∙ ap (λ (ps : List Post). ps ++ two.ran) one.drained ∙ append_assoc a.pass.ran one.ran two.ran;
      posts = ap posts_in (events_append one.did two.did) ∙ posts_append (events_of one.did) (events_of two.did) ∙ ap (λ (xs : List Event). xs ++ posts_in (events_of two.did)) one.posts
          ∙ ap (λ (xs : List Event). map post_event one.ran ++ xs) two.posts ∙ sym (map-append post_event one.ran two.ran);
      drains = omega (arith, one.drains, two.drains);
      asks = omega (arith, one.asks, two.asks);
      count = counts_more (ticks_in (events_of one.did)) (ticks_in (events_of two.did)) (ticks_in (events_of (one.did ++ two.did))) n m ticks one.count two.count;
      obeyed = λ rests most.
          let first = one.obeyed rests most in
          let then = two.obeyed (runs_show rests one.runs).rests first.0 in
          (then.0, λ less. then.1 some);
    }

ran_suc : (n : ℕ) (names : List (List ℕ)) (old : Sides) (k0 : Kind) (v0 : Place) (new : Sides) (k : Kind) (v : Place) → Ran (n + 1) names old k0 v0 new k v → Ran (suc n) names old k0 v0 new k v
ran_suc n names old k0 v0 new k v r = record { did = r.did; runs = r.runs; becomes = r.becomes; clock = r.clock; ran = r.ran; drained = r.drained; posts = r.posts; drains = omega (arith, r.drains); asks = omega (arith, r.asks); count = omega (arith, r.count); obeyed = λ rests most. let both = r.obeyed rests most in (both.0, λ less. both.1 (omega arith)) }

pub turns_ran : (names : List (List ℕ)) (old : Sides) (k0 : Kind) (v0 : Place) {n : ℕ} {new : Sides} {k : Kind} {v : Place} → AreTurns names old k0 v0 n new k v → Ran n names old k0 v0 new k v
turns_ran names old k0 v0 NoTurns = ran_none names old k0 v0
turns_ran names old k0 v0 (More n mid new k1 k2 u w turns turn) =
    ran_suc n names old k0 v0 new k2 w (ran_more names n 1 old mid new k0 k1 k2 v0 u w (omega arith) (turns_ran names old k0 v0 turns) (ran_turn names mid new k1 k2 u w false turn))

-- ---- how it ended
abbrev pub EndsAt : List (List ℕ) → End → Kind → Place → Kind → Place → Type 0
EndsAt names ended.Turns k v k' w = (k' ≡ k) × (w ≡ v)
EndsAt names ended.Stopped k v k' w = (k' ≡ k) × (w ≡ v)
EndsAt names end k v k' w = Cuts names k v end k' w

-- the moments that were given, of which the last may lack its tick
pub record GivesTicks (end : End) (old : Option (List ℕ)) (xs : List ℕ) (new : Option (List ℕ)) : Type 0 where
  pub goes : (before after : List ℕ) → old ≡ Some before → new ≡ Some after → (rest : List ℕ) × ((rest ≡ []) ⊎ (MayMiss end × (length rest ≤ 1))) × (after ≡ before ++ (xs ++ rest))

pub record Ends (names : List (List ℕ)) (end : End) (old : Sides) (k0 : Kind) (v0 : Place) (new : Sides) (k' : Kind) (w : Place) : Type 0 where
  pub did : List Did
  pub kind : Kind
  pub mid : Place
  pub runs : Runs k0 did kind
  pub becomes : Becomes names v0 did mid
  pub ends : EndsAt names end kind mid k' w
  pub ticks : GivesTicks end old.moments (ticks_in (events_of did)) new.moments
  pub ran : List Post
  pub rest : List Post
  pub missed : (rest ≡ []) ⊎ MayMiss end
  pub drained : new.pass.ran ≡ old.pass.ran ++ (ran ++ rest)
  pub posts : posts_in (events_of did) ≡ map post_event ran

some_is : (xs ys : List ℕ) → ◌≡◌ {A = Option (List ℕ)} (Some xs) (Some ys) → xs ≡ ys
some_is xs ys e = cc

all_ticks : (end : End) (old new : Option (List ℕ)) (xs : List ℕ) → TellsAll old xs new → GivesTicks end old xs new
all_ticks end old new xs (inl none) = record { goes = λ before after e f. let isnt : ◌≡◌ {A = Option (List ℕ)} (Some after) None = sym f ∙ none in cc }
all_ticks end old new xs (inr told) = record {
  goes = λ before after e f.
      let is : after ≡ before ++ xs = some_is after (before ++ xs) (sym f ∙ told ∙ ap (option_map (λ (b : List ℕ). b ++ xs)) e) in
      ([], inl refl, is ∙ ap (λ (ys : List ℕ). before ++ ys) (sym (append-nil xs)));
}

-- a tick more, or the moment alone
part_told : (end : End) (a b c : Option (List ℕ)) (xs ys : List ℕ) (moment : ℕ) → TellsAll a xs b → TellsLast b moment c → (MayMiss end × (ys ≡ [])) ⊎ (ys ≡ moment ∷ []) → GivesTicks end a (xs ++ ys) c
part_told end a b c xs ys moment one (inl none) either = all_ticks end a c (xs ++ ys) (inl none)
part_told end a b c xs ys moment (inl none) (inr last) either = all_ticks end a c (xs ++ ys) (inl (last ∙ ap (option_map (λ (before : List ℕ). before ++ moment ∷ [])) none))
part_told end a b c xs ys moment (inr one) (inr last) (inr tick) =
    all_ticks end a c (xs ++ ys) (inr (last ∙ ap (option_map (λ (before : List ℕ). before ++ moment ∷ [])) one ∙ told_twice a xs (moment ∷ []) ∙ ap (λ (zs : List ℕ). option_map (λ before. before ++ (xs ++ zs)) a) (sym tick)))
part_told end a b c xs ys moment (inr one) (inr last) (inl missing) = record {
  goes = λ before after e f.
      let told : c ≡ option_map (λ before. before ++ (xs ++ moment ∷ [])) a = last ∙ ap (option_map (λ (before : List ℕ). before ++ moment ∷ [])) one ∙ told_twice a xs (moment ∷ []) in
      let is : after ≡ before ++ (xs ++ moment ∷ []) = some_is after (before ++ (xs ++ moment ∷ [])) (sym f ∙ told ∙ ap (option_map (λ (b : List ℕ). b ++ (xs ++ moment ∷ []))) e) in
      (moment ∷ [], inr (missing.0, omega arith), is ∙ ap (λ (zs : List ℕ). before ++ (zs ++ moment ∷ [])) (sym (append-nil xs) ∙ ap (λ (zs : List ℕ). xs ++ zs) (sym missing.1)));
}

module _ (names : List (List ℕ)) (old new : Sides) (k0 k' : Kind) (v0 w : Place) where
  ran_ends : (n : ℕ) (end : End) → EndsAt names end k' w k' w → Ran n names old k0 v0 new k' w → Ends names end old k0 v0 new k' w
  ran_ends n end ends r = record {
    did = r.did;
    kind = k';
    mid = w;
    runs = r.runs;
    becomes = r.becomes;
    ends = ends;
    ticks = all_ticks end old.moments new.moments (ticks_in (events_of r.did)) r.clock;
    ran = r.ran;
    rest = [];
    missed = inl refl;
    drained = r.drained ∙ ap (λ (ps : List Post). old.pass.ran ++ ps) (sym (append-nil r.ran));
    posts = r.posts;
  }

  broke_ends : (n : ℕ) (end : End) (mid : Sides) (k : Kind) (v : Place) → ((j : Kind) (u : Place) → Cuts names j u end k' w → EndsAt names end j u k' w) → Ran n names old k0 v0 mid k v → BreaksTurn names end mid k v new k' w → Ends names end old k0 v0 new k' w
  broke_ends n end mid k v lifts r b =
      let events : events_of (r.did ++ b.did) ≡ events_of r.did ++ events_of b.did = events_append r.did b.did in
      record {
        did = r.did ++ b.did;
        kind = b.kind;
        mid = b.mid;
        runs = runs_append r.runs b.did b.kind b.runs;
        becomes = becomes_append names r.did b.did v0 v b.mid r.becomes b.becomes;
        ends = lifts b.kind b.mid b.cuts;
        ticks = subst (λ (xs : List ℕ). GivesTicks end old.moments xs new.moments) (sym (ap ticks_in events ∙ ticks_append (events_of r.did) (events_of b.did)))
            (part_told end old.moments mid.moments new.moments (ticks_in (events_of r.did)) (ticks_in (events_of b.did)) b.asks.moment r.clock b.asks.clock b.asks.ticks);
        ran = r.ran ++ b.asks.ran;
        rest = b.asks.rest;
        missed = b.asks.missed;
        drained = b.asks.drained ∙ ap (λ (ps : List Post). ps ++ (b.asks.ran ++ b.asks.rest)) r.drained ∙ append_assoc old.pass.ran r.ran (b.asks.ran ++ b.asks.rest)
            ∙ ap (λ (ps : List Post). old.pass.ran ++ ps) (sym (append_assoc r.ran b.asks.ran b.asks.rest));
        posts = ap posts_in events ∙ posts_append (events_of r.did) (events_of b.did) ∙ ap (λ (xs : List Event). xs ++ posts_in (events_of b.did)) r.posts
            ∙ ap (λ (xs : List Event). map post_event r.ran ++ xs) b.asks.posts ∙ sym (map-append post_event r.ran b.asks.ran);
      }

  pub stopped_ran : (n : ℕ) → StopsIn names old k0 v0 n new k' w → Ran (n + 1) names old k0 v0 new k' w
  stopped_ran n s = ran_more names n 1 old s.mid new k0 s.kind k' v0 s.place w (omega arith) (turns_ran names old k0 v0 s.turns) (ran_turn names s.mid new s.kind k' s.place w true s.last)

  pub works_end : (turns : ℕ) (end : End) → Works names turns old k0 v0 end new k' w → Ends names end old k0 v0 new k' w
  works_end turns ended.Turns t = ran_ends turns ended.Turns (refl, refl) (turns_ran names old k0 v0 t)
  works_end turns ended.Stopped t = ran_ends (t.0 + 1) ended.Stopped (refl, refl) (stopped_ran t.0 t.2)
  works_end turns ended.WiresFault t = let b = t.2 in broke_ends t.0 ended.WiresFault b.mid b.kind b.place (λ j u c. c) (turns_ran names old k0 v0 b.turns) b.broke
  works_end turns ended.JournalFault t = let b = t.2 in broke_ends t.0 ended.JournalFault b.mid b.kind b.place (λ j u c. c) (turns_ran names old k0 v0 b.turns) b.broke
  works_end turns ended.Memory t = let b = t.2 in broke_ends t.0 ended.Memory b.mid b.kind b.place (λ j u c. c) (turns_ran names old k0 v0 b.turns) b.broke
