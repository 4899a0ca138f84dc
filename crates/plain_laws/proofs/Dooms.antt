-- A stream is doomed.
use Rattle.plain_laws.proofs.Leaving.{flow_kept}
use Rattle.std.proofs.lemmas.Bool.{or_left, or_right}
use Rattle.plain_laws.specs.Words.{Past, Alive, conn_lows, conn_out, end_out, lows_of, send_high, turn_of}
use Rattle.tape_laws.specs.Doomed.{is_swept}
use Rattle.flow_rules.specs.declared.ids.FlowId.{FlowId}
use Rattle.flow_rules.specs.declared.causes.Cause.{Cause}
use Rattle.plain_laws.proofs.Extending.{MayAdd, free_meets, nothing_owed, one_owed, regular_more}
use Rattle.plain_laws.proofs.Leaving.{Leaves, only_other, room_kept, unborn_kept}
use Rattle.plain_laws.proofs.Rising.{rising_filter}
use Rattle.plain_laws.proofs.Streams.{apart_from, by_case, differs_back, has_left, has_lost, has_stays, not_both, number_is, same_number}
use Rattle.plain_laws.specs.Owing.{OwesDoom, Owing, asking, nothing, overrun, starts}
use Rattle.plain_laws.specs.Regular.{Books, FlowBooks, IsLiveFlow, IsRising, Regular}
use Rattle.std.proofs.Common.{inl, inr, refl, subst, sym, ◌∙◌}
use Rattle.std.specs.Bool.{OnTrue}
use Rattle.std.specs.List.{AllByRecursion, list_any}
use Rattle.std.specs.Prelude.{Bool, List, [], drop, false, filter, if◌then◌else◌, map, not, true, ℕ, ◌&&◌, ◌==◌, ◌∷◌, ◌≡◌, ◌⊎◌}
use Rattle.tape_laws.specs.Causes.{MayDoom, end_framed_here}
use Rattle.tape_laws.specs.Demands.{MeetsFirst, is_at_once, obligations}
use Rattle.tape_laws.specs.Dispatches.{before_dispatch, has, live, started}
use Rattle.tape_laws.specs.Flows.{request}
use Rattle.tape_laws.specs.History.{NoMark, Noted, Step}
use Rattle.tape_laws.specs.Pauses.{Heads}
use Rattle.tape_laws.specs.Plain.{paired_with, plain_setup}
use Rattle.tape_laws.specs.PlainSession.{plain_session}
use Rattle.tape_laws.specs.Units.{WantsDoom}
use Rattle.tape_laws.specs.declared.PlainLimits.{PlainLimits}
use Rattle.flow_notes.specs.declared.events.PlainEvent.TheVariants as plain
use Rattle.flow_rules.specs.declared.causes.Cause.TheVariants as cause
use Rattle.flow_notes.specs.declared.notes.Note.TheVariants as note
use Rattle.plain_laws.proofs.Streams.{or_true as later}
use Rattle.plain_laws.proofs.Quiets.{on_true as under}

-- ---- lists without the flow of x

abbrev pub without : ℕ → List FlowId → List FlowId
without x fs = filter (λ (f : FlowId). not (f.exchange == x)) fs

without_other : (x y : ℕ) → (x == y) ≡ false → without x (request y ∷ []) ≡ request y ∷ []
without_other x y e = cc (differs_back x y e)

without_own : (x : ℕ) → without x (request x ∷ []) ≡ []
without_own x = cc (same_number x)

without_exchanges : (x : ℕ) (fs : List FlowId) → map (λ (f : FlowId). f.exchange) (without x fs) ≡ filter (λ y. not (y == x)) (map (λ (f : FlowId). f.exchange) fs)
without_exchanges x [] = refl
without_exchanges x (f ∷ fs) = pick (not (f.exchange == x)) (without_exchanges x fs)
  where
    pick : (b : Bool) → map (λ (f : FlowId). f.exchange) (without x fs) ≡ filter (λ y. not (y == x)) (map (λ (f : FlowId). f.exchange) fs)
        → map (λ (f : FlowId). f.exchange) (if b then f ∷ without x fs else without x fs)
        ≡ (if b then f.exchange ∷ filter (λ y. not (y == x)) (map (λ (f : FlowId). f.exchange) fs) else filter (λ y. not (y == x)) (map (λ (f : FlowId). f.exchange) fs))
    pick true e = cc
    pick false e = e

pub without_live : (x : ℕ) (xs : List ℕ) (fs : List FlowId) → AllByRecursion (IsLiveFlow xs) fs → AllByRecursion (IsLiveFlow (filter (λ y. not (y == x)) xs)) (without x fs)
without_live x xs [] a = tt
without_live x xs (f ∷ fs) a = pick (f.exchange == x) refl (without_live x xs fs a.1)
  where
    pick : (b : Bool) → (f.exchange == x) ≡ b → AllByRecursion (IsLiveFlow (filter (λ y. not (y == x)) xs)) (without x fs)
        → AllByRecursion (IsLiveFlow (filter (λ y. not (y == x)) xs)) (if not b then f ∷ without x fs else without x fs)
    pick true e rest = rest
    pick false e rest = (record { is = a.0.is; live = has_stays xs x f.exchange a.0.live (differs_back f.exchange x e) }, rest)

-- ---- the other streams

pub doom_leaves : (limits : PlainLimits) (x y : ℕ) (why : Cause) (h : Past) → (x == y) ≡ false
    → without x (lows_of limits y h) ≡ lows_of limits y h
    → Leaves limits y (Noted (note.Doom x why)) h
doom_leaves limits x y why h e el = record {
  recv = rw (differs_back x y e) refl;
  send = rw (differs_back x y e) refl;
  send_lows = el;
  paused = refl;
  resumed = refl;
  body = refl;
  received = refl;
  framed = refl;
}

-- its own lows aren't those of x
pub lows_stay : (limits : PlainLimits) (o : Owing) (x y : ℕ) (h : Past) → (x == y) ≡ false → FlowBooks limits o y h
    → without x (lows_of limits y h) ≡ lows_of limits y h
lows_stay limits o x y h d f = pick f.send_low
  where
    pick : (lows_of limits y h ≡ [])
        ⊎ ((lows_of limits y h ≡ request y ∷ []) × (send_high limits y h ≡ false))
        → without x (lows_of limits y h) ≡ lows_of limits y h
    pick (inl e) = cc
    pick (inr e) = cc (without_other x y d)

pub lows_vanish : (limits : PlainLimits) (o : Owing) (x : ℕ) (h : Past) → FlowBooks limits o x h → without x (lows_of limits x h) ≡ []
lows_vanish limits o x h f = pick f.send_low
  where
    pick : (lows_of limits x h ≡ [])
        ⊎ ((lows_of limits x h ≡ request x ∷ []) × (send_high limits x h ≡ false))
        → without x (lows_of limits x h) ≡ []
    pick (inl e) = cc
    pick (inr e) = cc (without_own x)

doom_may : (limits : PlainLimits) (o : Owing) (x : ℕ) (why : Cause) (h : Past) → Books limits o h → is_swept h ≡ false → OwesDoom x why h o → Alive h x
    → MayDoom (plain_setup limits) x why h → MayAdd limits (note.Doom x why) h
doom_may limits o x why h s fresh ow is may = record {
  allowed = tt;
  paused = s.due ∙ ow.due;
  ends = tt;
  in_turn = tt;
  doomed = is;
  swept = fresh;
  answered = meets ow.asks;
  only = asked ow.asks;
  quiet = tt;
  licensed = may;
}
  where
    meets : ((o.asks ≡ []) × (is_at_once why ≡ false)) ⊎ (o.asks ≡ WantsDoom x why ∷ [])
        → MeetsFirst {Mark = NoMark} (plain_setup limits) (obligations (plain_session limits) h) (Noted (note.Doom x why))
    meets (inl e) = free_meets limits _ (note.Doom x why) (s.asks ∙ e.0) tt
    meets (inr e) = rw (s.asks ∙ e) refl

    never : (b : Bool) (A : Type 0) → b ≡ false → OnTrue b A
    never true A e = cc
    never false A e = tt

    asked : ((o.asks ≡ []) × (is_at_once why ≡ false)) ⊎ (o.asks ≡ WantsDoom x why ∷ [])
        → OnTrue (is_at_once why) (Heads (WantsDoom x why) (obligations (plain_session limits) h))
    asked (inl e) = never (is_at_once why) _ e.1
    asked (inr e) = under (is_at_once why) _ (subst (Heads (WantsDoom x why)) (sym (s.asks ∙ e)) refl)

doom_books : (limits : PlainLimits) (o : Owing) (x : ℕ) (why : Cause) (h : Past) → Books limits o h → OwesDoom x why h o → Alive h x
    → Books limits nothing (Noted (note.Doom x why) ∷ h)
doom_books limits o x why h s ow is =
    let step : Step NoMark = Noted (note.Doom x why) in
    let out_same : conn_out limits (step ∷ h) ≡ conn_out limits h = refl in
    record {
      due = refl;
      asks = met ow.asks;
      opened = s.opened;
      known = s.known;
      unclosed = s.unclosed;
      write_room = room_kept limits out_same s.write_room;
      rising = rising_filter (λ y. not (y == x)) (live h) s.rising;
      born = λ y e. s.born y (has_left (live h) x y e).0;
      said = λ y. cc (s.said y, unstarting y ow.asks);
      each = λ y e. let k = has_left (live h) x y e in let f = s.each y k.0 in
          flow_kept limits o nothing y step h (doom_leaves limits x y why h k.1 (lows_stay limits o x y h k.1 f)) f (sym (ow.extra y k.0 k.1)) f.unframed;
      unborn = λ y e. let d = apart_from (started h) x y (s.born x is) e in
          let quiet = s.hushed y (never_live y e) in
          unborn_kept limits y step h (doom_leaves limits x y why h d (cc)) (record { ended = refl; pairs = refl; must = refl }) (s.unborn y e);
      owed = tt;
      write_lows = without_live x (live h) _ s.write_lows;
      write_once = subst IsRising (sym (without_exchanges x (conn_lows limits h))) (rising_filter (λ y. not (y == x)) _ s.write_once);
      hushed = λ y e. by_case (x == y)
          (λ t. subst (λ (v : ℕ). without x (lows_of limits v h) ≡ []) (number_is x y t) (lows_vanish limits o x h (s.each x is)))
          (λ d. cc (s.hushed y (has_lost (live h) x y e d)));
    }
  where
    met : ((o.asks ≡ []) × (is_at_once why ≡ false)) ⊎ (o.asks ≡ WantsDoom x why ∷ []) → drop 1 (obligations (plain_session limits) h) ≡ []
    met (inl e) = nothing_owed _ (s.asks ∙ e.0)
    met (inr e) = one_owed _ _ (s.asks ∙ e)

    unstarting : (y : ℕ) → ((o.asks ≡ []) × (is_at_once why ≡ false)) ⊎ (o.asks ≡ WantsDoom x why ∷ []) → starts o.asks y ≡ false
    unstarting y (inl e) = cc
    unstarting y (inr e) = cc

    never_live : (y : ℕ) → has (started h) y ≡ false → has (live h) y ≡ false
    never_live y e = by_case (has (live h) y) (λ t. not_both (has (started h) y) (s.born y t) e) (λ f. f)

pub doom_regular : (limits : PlainLimits) (owing : Owing) (x : ℕ) (why : Cause) (h : Past) → Regular limits owing h → is_swept h ≡ false → OwesDoom x why h owing → Alive h x
    → MayDoom (plain_setup limits) x why h → Regular limits nothing (Noted (note.Doom x why) ∷ h)
doom_regular limits owing x why h r fresh o is may =
    regular_more limits owing nothing (note.Doom x why) h r (doom_may limits owing x why h r.books fresh o is may) (doom_books limits owing x why h r.books o is)

module _ (x : ℕ) (why : Cause) (h : Past) where
  pub asks_doom : OwesDoom x why h (asking (WantsDoom x why ∷ []))
  asks_doom = record { due = refl; asks = inr refl; extra = λ y e d. refl }

  pub owes_none : is_at_once why ≡ false → OwesDoom x why h nothing
  owes_none e = record { due = refl; asks = inl (refl, e); extra = λ y e d. refl }

-- the stream was reset
module _ (limits : PlainLimits) (k x : ℕ) where
  pub doom_cut : (h : Past) → Regular limits (asking (WantsDoom x (cause.PeerReset 8) ∷ [])) (turn_of k (plain.Cut x) ∷ h)
      → Alive h x → Regular limits nothing (Noted (note.Doom x (cause.PeerReset 8)) ∷ turn_of k (plain.Cut x) ∷ h)
  doom_cut h r is =
      let before = turn_of k (plain.Cut x) ∷ h in
      doom_regular limits (asking (WantsDoom x (cause.PeerReset 8) ∷ [])) x (cause.PeerReset 8) before r refl (asks_doom x (cause.PeerReset 8) before) is tt

  -- more came than it may hold
  pub doom_over : (octets : List ℕ) (h : Past) → Regular limits (overrun x octets) (turn_of k (plain.Body x octets) ∷ h) → Alive h x
      → Regular limits nothing (Noted (note.Doom x (cause.StreamError 3)) ∷ turn_of k (plain.Body x octets) ∷ h)
  doom_over octets h r is =
      let before = turn_of k (plain.Body x octets) ∷ h in
      doom_regular limits (overrun x octets) x (cause.StreamError 3) before r refl (record { due = refl; asks = inr refl; extra = λ y e d. only_other x y octets d }) is tt

here : (a b : Bool) → a ≡ true → b ≡ false → (a && not b) ≡ true
here true true e f = cc
here true false e f = refl
here false b e f = cc

-- its end was framed
pub doom_done : (limits : PlainLimits) (x : ℕ) (h : Past) → Regular limits nothing h → is_swept h ≡ false → Alive h x → end_out limits x h ≡ true
    → Regular limits nothing (Noted (note.Doom x cause.Done) ∷ h)
doom_done limits x h r fresh is e =
    doom_regular limits nothing x cause.Done h r fresh (owes_none x cause.Done h refl) is (here _ _ e (r.books.each x is).unframed)

-- in this dispatch that of a stream was whose end dooms it
pub doom_early : (limits : PlainLimits) (s x : ℕ) (h : Past) → Regular limits nothing h → is_swept h ≡ false → Alive h x → has (paired_with x h) s ≡ true
    → end_out limits s h ≡ true → end_out limits s (before_dispatch h) ≡ false
    → Regular limits nothing (Noted (note.Doom x cause.EarlyEnd) ∷ h)
doom_early limits s x h r fresh is pair e before =
    doom_regular limits nothing x cause.EarlyEnd h r fresh (owes_none x cause.EarlyEnd h refl) is
    (some (λ y. end_framed_here (plain_setup limits) (request y) h) (paired_with x h) s pair (here _ _ e before))
  where
    some : (p : ℕ → Bool) (xs : List ℕ) (s : ℕ) → has xs s ≡ true → p s ≡ true → list_any p xs ≡ true
    some p [] s e t = cc
    some p (y ∷ ys) s e t =
        by_case (y == s) (λ u. or_left (p y) _ (rw (number_is y s u) t))
        (λ d. or_right (p y) _ (some p ys s (later (y == s) (has ys s) e d) t))
