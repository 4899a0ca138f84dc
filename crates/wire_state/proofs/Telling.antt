-- What the counts are where a flow is told that the write buffer that it goes to drained.
use Rattle.exchange_core.specs.Exchanges.{Exchanges, flow_at, is_live, target_of}
use Rattle.exchange_core.specs.Flow.{Flow}
use Rattle.filter_chain.specs.Place.{kind_of}
use Rattle.flow_gate.proofs.SameIds.{same_buffer_exact}
use Rattle.flow_gate.specs.Board.{is_known, is_marked, lows, pending_on, times, times_of_buffer, watched_by}
use Rattle.flow_gate.specs.Ids.{same_buffer, same_flow}
use Rattle.flow_rules.specs.declared.ids.BufferId.{BufferId}
use Rattle.flow_rules.specs.declared.ids.BufferId.TheVariants as buffer
use Rattle.flow_rules.specs.declared.ids.FlowId.{FlowId}
use Rattle.flow_laws.proofs.Lists.{buffer_is, count_cons, flow_is, flow_same, flow_swapped, one_if}
use Rattle.flow_laws.proofs.Sources.{behind}
use Rattle.flow_notes.specs.declared.notes.Note.{Note}
use Rattle.flow_notes.specs.declared.notes.Note.TheVariants as note
use Rattle.paged_map.specs.PagedMap.{PagedMap}
use Rattle.proxy_config.specs.declared.config.Config.{Config}
use Rattle.proxy_config.specs.declared.config.LimitKeys.{LimitKeys}
use Rattle.std.proofs.Common.{ap, arith, inl, inr, refl, subst, sym, ◌∙◌}
use Rattle.std.proofs.lemmas.Bool.Decides.{nat_tests}
use Rattle.std.proofs.lemmas.List.Sums.{sum_by-cons}
use Rattle.std.proofs.lemmas.Option.{same_Some}
use Rattle.std.specs.Option.{option_map, option_map_or}
use Rattle.std.specs.Prelude.{Bool, IfSome, IsSome, List, None, Option, Some, [], count_by, drop, false, if◌then◌else◌, length, slice_get, sum_by, true, ℕ, ◌++◌, ◌+◌, ◌<◌, ◌==◌, ◌∷◌, ◌≡◌, ◌≤◌, ◌⊎◌}
use Rattle.tape_laws.specs.History.{Noted}
use Rattle.tape_laws.specs.Sources.{disabled}
use Rattle.wire_flows.proofs.Boards.{unknown_none, write_of, write_seen}
use Rattle.wire_flows.proofs.Cases.{by_case}
use Rattle.wire_flows.specs.Flows.{Flows, flow_in, watches_of}
use Rattle.wire_flows.specs.Sound.{IsSound, buffer_of}
use Rattle.wire_flows.specs.Writes.{ChangesWrite, KeepsOtherLows, Write, lows_on, told, write_at}
use Rattle.wire_state.proofs.CountsKept.{counts_gates, exchanges_keep}
use Rattle.wire_state.proofs.Filled.{unborn_watched}
use Rattle.wire_links.specs.Links.{Links}
use Rattle.wire_state.proofs.Goings.{gates_stand, told_by}
use Rattle.wire_state.proofs.Held.{is_number}
use Rattle.wire_state.proofs.Holding.{IsAlike, holds_alike, holds_stand}
use Rattle.wire_state.proofs.Watching.{lows_same}
use Rattle.wire_state.specs.Counts.{Counts, IsCounted, MayLag, holds_back, is_above_at}
use Rattle.wire_state.specs.Marks.{Footing}
use Rattle.wire_state.specs.Tapes.{tape_setup}
use Rattle.wire_state.specs.Ways.{WayHistory, WayStep, after}
use Rattle.wire_state.specs.Worlds.{ToldBy, has_conn}
use Rattle.wire_state.specs.declared.conn.Conn.{Conn}

-- ---- a list whose first is gone
-- where f was the first of those of a buffer
module _ (g f : FlowId) (c : BufferId) (rest : List FlowId) (pend : BufferId → List FlowId) (was : pend c ≡ f ∷ rest) where
  abbrev now : BufferId → List FlowId
  now b = if same_buffer c b then rest else pend b

  pub lows_less : (bs : List BufferId) → sum_by (λ b. times g (now b)) bs + (if same_flow g f then times_of_buffer c bs else 0) ≡ sum_by (λ b. times g (pend b)) bs
  lows_less [] = at (same_flow g f)
    where
      at : (y : Bool) → 0 + (if y then 0 else 0) ≡ 0
      at true = refl
      at false = refl
  lows_less (b ∷ bs) = at (same_buffer c b) refl (lows_less bs)
    where
      sums : (y : Bool) (s0 s1 t0 t1 r a k m : ℕ) → s1 ≡ r + s0 → t1 ≡ a + t0 → a ≡ one_if y + r → k ≡ 1 + m → s0 + (if y then m else 0) ≡ t0 → s1 + (if y then k else 0) ≡ t1
      sums true s0 s1 t0 t1 r a k m e1 e2 e3 e4 e5 = omega (arith, e1, e2, e3, e4, e5)
      sums false s0 s1 t0 t1 r a k m e1 e2 e3 e4 e5 = omega (arith, e1, e2, e3, e5)

      skips : (y : Bool) (s0 s1 t0 t1 a k m : ℕ) → s1 ≡ a + s0 → t1 ≡ a + t0 → k ≡ 0 + m → s0 + (if y then m else 0) ≡ t0 → s1 + (if y then k else 0) ≡ t1
      skips true s0 s1 t0 t1 a k m e1 e2 e4 e5 = omega (arith, e1, e2, e4, e5)
      skips false s0 s1 t0 t1 a k m e1 e2 e4 e5 = omega (arith, e1, e2, e5)

      at : (s : Bool) → same_buffer c b ≡ s → sum_by (λ d. times g (now d)) bs + (if same_flow g f then times_of_buffer c bs else 0) ≡ sum_by (λ d. times g (pend d)) bs → sum_by (λ d. times g (now d)) (b ∷ bs) + (if same_flow g f then times_of_buffer c (b ∷ bs) else 0) ≡ sum_by (λ d. times g (pend d)) (b ∷ bs)
      at true e ih = sums (same_flow g f) _ _ _ _ (times g rest) (times g (pend b)) _ _
          (sum_by-cons (λ d. times g (now d)) b bs ∙ ap (λ (v : Bool). times g (if v then rest else pend b) + sum_by (λ d. times g (now d)) bs) e)
          (sum_by-cons (λ d. times g (pend d)) b bs) (ap (times g) (ap pend (sym (buffer_is c b e)) ∙ was) ∙ count_cons (same_flow g) f rest)
          (count_cons (same_buffer c) b bs ∙ ap (λ (v : Bool). one_if v + times_of_buffer c bs) e) ih
      at false e ih = skips (same_flow g f) _ _ _ _ (times g (pend b)) _ _
          (sum_by-cons (λ d. times g (now d)) b bs ∙ ap (λ (v : Bool). times g (if v then rest else pend b) + sum_by (λ d. times g (now d)) bs) e)
          (sum_by-cons (λ d. times g (pend d)) b bs) (count_cons (same_buffer c) b bs ∙ ap (λ (v : Bool). one_if v + times_of_buffer c bs) e) ih

-- the rest of those that were to be told
abbrev lows_in : Option Write → List FlowId
lows_in o = option_map_or (λ k. k.lows) o []

lows_of : (n : ℕ) (flows : Flows) → lows_in (write_at n flows) ≡ pending_on flows.gates (buffer.Write n)
lows_of n flows = by_known (is_known flows.gates (buffer.Write n)) refl
  where
    by_known : (b : Bool) → is_known flows.gates (buffer.Write n) ≡ b → lows_in (write_at n flows) ≡ pending_on flows.gates (buffer.Write n)
    by_known true e = ap lows_in (write_seen n flows ∙ ap (λ b. write_of b (is_marked flows.gates (buffer.Write n)) (pending_on flows.gates (buffer.Write n))) e)
    by_known false e = ap lows_in (write_seen n flows ∙ ap (λ b. write_of b (is_marked flows.gates (buffer.Write n)) (pending_on flows.gates (buffer.Write n))) e) ∙ sym (unknown_none flows.gates (buffer.Write n) e)

pub lows_drop : (n : ℕ) (old new : Flows) → ChangesWrite n (option_map told (write_at n old)) old new → pending_on new.gates (buffer.Write n) ≡ drop 1 (pending_on old.gates (buffer.Write n))
lows_drop n old new writes = sym (lows_of n new) ∙ (ap lows_in now_is ∙ (told_lows (write_at n old) ∙ ap (λ (fs : List FlowId). drop 1 fs) (lows_of n old)))
  where
    self : (n == n) ≡ true
    self = grind (arith, nat_tests)

    now_is : write_at n new ≡ option_map told (write_at n old)
    now_is = writes.writes n ∙ ap (λ b. if b then option_map told (write_at n old) else write_at n old) self

    told_lows : (o : Option Write) → lows_in (option_map told o) ≡ drop 1 (lows_in o)
    told_lows None = refl
    told_lows (Some k) = refl

module _ {l : LimitKeys} {t u : Option ℕ} (n : ℕ) (conns : PagedMap Conn) (old new : Flows) (h : WayHistory) (c : Counts l t u conns old h) (rest : new.exchanges ≡ old.exchanges) (sound : IsSound new)
    (writes : ChangesWrite n (option_map told (write_at n old)) old new) (others : KeepsOtherLows (buffer.Write n) old new) where
  abbrev held : Option Write → Bool
  held o = option_map_or (λ k. k.above) o false

  told_held : (o : Option Write) → held (option_map told o) ≡ held o
  told_held None = refl
  told_held (Some k) = refl

  told_some : (o : Option Write) → IsSome o → IsSome (option_map told o)
  told_some None some = cc some
  told_some (Some k) some = refl

  told_marks : (d : ℕ) → holds_back d new ≡ is_above_at d conns
  told_marks d = by_case (n == d)
      (λ e. ap held (writes.writes d ∙ ap (λ b. if b then option_map told (write_at n old) else write_at d old) e) ∙ (told_held (write_at n old) ∙ (ap (λ q. holds_back q old) (is_number n d e) ∙ c.marks d)))
      (λ e. ap held (writes.writes d ∙ ap (λ b. if b then option_map told (write_at n old) else write_at d old) e) ∙ c.marks d)

  told_known : (d : ℕ) → has_conn d conns ≡ true → IsSome (write_at d new)
  told_known d there = by_case (n == d)
      (λ e. subst IsSome (sym (writes.writes d ∙ ap (λ b. if b then option_map told (write_at n old) else write_at d old) e)) (told_some (write_at n old) (subst (λ (q : ℕ). IsSome (write_at q old)) (sym (is_number n d e)) (c.known d there))))
      (λ e. subst IsSome (sym (writes.writes d ∙ ap (λ b. if b then option_map told (write_at n old) else write_at d old) e)) (c.known d there))

  watched : (f : FlowId) → watched_by new.gates f ≡ watched_by old.gates f
  watched f = sound.watched f ∙ ((λ i. option_map_or (watches_of (target_of (rest i) f)) (flow_at (rest i) f) []) ∙ sym (c.sound.watched f))

  -- ---- none was to be told
  pub none_told : lows_on n old ≡ [] → Counts l t u conns new h
  none_told none = counts_gates {t = t} {u = u} {t' = t} {u' = u} conns old new h (exchanges_keep old new rest) sound (record {
    low = λ f there. lows_same f old.gates new.gates (watched f) same;
    marks = told_marks;
    known = told_known;
    told = λ b. at b (c.told b);
  }) c
    where
      same : (b : BufferId) → pending_on new.gates b ≡ pending_on old.gates b
      same b = by_case (same_buffer (buffer.Write n) b)
          (λ e. let is = same_buffer_exact (buffer.Write n) b e in
          ap (pending_on new.gates) (sym is) ∙ (lows_drop n old new writes ∙ (ap (λ (fs : List FlowId). drop 1 fs) none ∙ (sym none ∙ ap (pending_on old.gates) is))))
          (λ e. others.lows b e)

      at : (b : BufferId) → (pending_on old.gates b ≡ []) ⊎ MayLag t u b → (pending_on new.gates b ≡ []) ⊎ MayLag t u b
      at b (inl e) = inl (same b ∙ e)
      at b (inr may) = inr may

  -- ---- the first was told
  module _ (f : FlowId) (first : slice_get (lows_on n old) 0 ≡ Some f) where
    abbrev later : List FlowId
    later = pending_on new.gates (buffer.Write n)

    split : (fs : List FlowId) → slice_get fs 0 ≡ Some f → fs ≡ f ∷ drop 1 fs
    split [] e = cc
    split (g ∷ gs) e = ap (λ (v : FlowId). v ∷ gs) (same_Some g f e)

    was : pending_on old.gates (buffer.Write n) ≡ f ∷ later
    was = split (pending_on old.gates (buffer.Write n)) first ∙ ap (λ (fs : List FlowId). f ∷ fs) (sym (lows_drop n old new writes))

    now_lows : (b : BufferId) → pending_on new.gates b ≡ (if same_buffer (buffer.Write n) b then later else pending_on old.gates b)
    now_lows b = by_case (same_buffer (buffer.Write n) b)
        (λ e. ap (pending_on new.gates) (sym (same_buffer_exact (buffer.Write n) b e)) ∙ sym (ap (λ (x : Bool). if x then later else pending_on old.gates b) e))
        (λ e. others.lows b e ∙ sym (ap (λ (x : Bool). if x then later else pending_on old.gates b) e))

    -- it goes there, once
    goes_once : times_of_buffer (buffer.Write n) (watched_by old.gates f) ≡ 1
    goes_once = squeeze _ _ _ (sym (c.sound.gates.paired f (buffer.Write n))) (c.sound.gates.once f (buffer.Write n)) (c.sound.gates.pending f (buffer.Write n)) some
      where
        squeeze : (m w p : ℕ) → m ≡ w → w ≤ 1 → p ≤ w → 1 ≤ p → m ≡ 1
        squeeze m w p e le few some = omega (arith, e, le, few, some)

        more : (k m : ℕ) → m ≡ 1 + k → 1 ≤ m
        more k m e = omega (arith, e)

        some : 1 ≤ times f (pending_on old.gates (buffer.Write n))
        some = more _ _ (ap (times f) was ∙ (count_cons (same_flow f) f later ∙ ap (λ (b : Bool). one_if b + times f later) (flow_same f)))

    less : (g : FlowId) → lows new.gates g + one_if (same_flow f g) ≡ lows old.gates g
    less g = (λ i. sum_by (λ b. times g (now_lows b i)) (watched g i) + own i) ∙ lows_less g f (buffer.Write n) later (pending_on old.gates) was (watched_by old.gates g)
      where
        own : one_if (same_flow f g) ≡ (if same_flow g f then times_of_buffer (buffer.Write n) (watched_by old.gates g) else 0)
        own = by_same (same_flow f g) refl ∙ ap (λ (b : Bool). if b then times_of_buffer (buffer.Write n) (watched_by old.gates g) else 0) (flow_swapped f g)
          where
            by_same : (b : Bool) → same_flow f g ≡ b → one_if b ≡ (if b then times_of_buffer (buffer.Write n) (watched_by old.gates g) else 0)
            by_same true e = sym (ap (λ (v : FlowId). times_of_buffer (buffer.Write n) (watched_by old.gates v)) (sym (flow_is f g e)) ∙ goes_once)
            by_same false e = refl

    abbrev telling : WayStep
    telling = Noted (note.Resume f (buffer.Write n))

    alike : IsAlike l h (telling ∷ h)
    alike = holds_alike (note.Resume f (buffer.Write n) ∷ []) (tt, tt) h

    -- a flow of a number that wasn't given is another
    stranger : (g : FlowId) → old.exchanges.last < g.exchange → one_if (same_flow f g) ≡ 0
    stranger g lt = none _ _ _ (less g) (unwatched g lt)
      where
        none : (a b k : ℕ) → a + b ≡ k → k ≡ 0 → b ≡ 0
        none a b k e z = omega (arith, e, z)

        unwatched : (g : FlowId) → old.exchanges.last < g.exchange → lows old.gates g ≡ 0
        unwatched g lt = ap (λ (bs : List BufferId). sum_by (λ b. times g (pending_on old.gates b)) bs) (unborn_watched old c.sound g lt)

    pub first_told : Counts l t u conns new (telling ∷ h)
    first_told = record {
      sound = sound;
      each = λ g. each g (flow_in new g) refl;
      unpaused = λ g lt.
          let above_last = subst (λ (k : Exchanges). k.last < g.exchange) rest lt in
          let none = c.unpaused g above_last in
          (none.0, both _ _ (stranger g above_last) none.1);
      living = λ x. c.living x ∙ sym (ap (λ (k : Exchanges). is_live k x) rest);
      over = λ d. c.over d ∙ sym (alike.above_as (buffer.Write d));
      marks = told_marks;
      known = told_known;
      told = λ b. at b (c.told b);
      turns = (tt, c.turns);
    }
      where
        both : (a b : ℕ) → a ≡ 0 → b ≡ 0 → a + b ≡ 0
        both a b e i = omega (arith, e, i)

        at : (b : BufferId) → (pending_on old.gates b ≡ []) ⊎ MayLag t u b → (pending_on new.gates b ≡ []) ⊎ MayLag t u b
        at b (inl e) = by_case (same_buffer (buffer.Write n) b)
            (λ same. absurd (cc (sym (ap (pending_on old.gates) (same_buffer_exact (buffer.Write n) b same) ∙ e) ∙ was)))
            (λ other. inl (others.lows b other ∙ e))
        at b (inr may) = inr may

        balance : (p r o d0 d1 w0 w1 : ℕ) → p ≡ r + (d0 + w0) → d1 ≡ d0 → w1 + o ≡ w0 → p ≡ (o + r) + (d1 + w1)
        balance p r o d0 d1 w0 w1 e1 e2 e3 = omega (arith, e1, e2, e3)

        disabled_same : (g : FlowId) → disabled (tape_setup l) g (telling ∷ h) ≡ disabled (tape_setup l) g h
        disabled_same g = λ i. count_by (λ b. alike.above_as b i) (behind g 1 (alike.stages_as g i) (length (alike.stages_as g i) + 1 + 1) (alike.conn_as g i))

        each : (g : FlowId) (o : Option Flow) → flow_in new g ≡ o → IfSome o (IsCounted l new g (telling ∷ h))
        each g None found = tt
        each g (Some flow) found =
            let before = ap (λ (k : Exchanges). flow_at k g) (sym rest) ∙ found in
            let counted : IsCounted l old g h flow = subst (λ (o : Option Flow). IfSome o (IsCounted l old g h)) before (c.each g) in
            record {
              paused = balance _ _ _ _ _ _ _ counted.paused (disabled_same g) (less g);
              over = λ p x at source. counted.over p x at source ∙ sym (alike.above_as (buffer_of g p (kind_of x.kind)));
              goes = ap (λ (k : Exchanges). target_of k g) rest ∙ (counted.goes ∙ sym (alike.conn_as g));
            }

-- ---- what a telling does to a core and its notes
none_of : (fs : List FlowId) → None ≡ slice_get fs 0 → fs ≡ []
none_of [] e = refl
none_of (f ∷ fs) e = cc

pub none_first : (n : ℕ) (old : Flows) (r : Option FlowId) → r ≡ None → r ≡ slice_get (lows_on n old) 0 → lows_on n old ≡ []
none_first n old r none first = none_of (lows_on n old) (sym none ∙ first)

pub first_is : (n : ℕ) (old : Flows) (f : FlowId) (r : Option FlowId) → r ≡ Some f → r ≡ slice_get (lows_on n old) 0 → slice_get (lows_on n old) 0 ≡ Some f
first_is n old f r some first = sym first ∙ some

module _ (n : ℕ) (old new : Flows) (rest : new.exchanges ≡ old.exchanges) (sound : IsSound new) (writes : ChangesWrite n (option_map told (write_at n old)) old new) (others : KeepsOtherLows (buffer.Write n) old new) where
  pub none_told_now : {k : Config} {l : Footing} {t u : Option ℕ} → lows_on n old ≡ [] → (conns : PagedMap Conn) (links : Links) (h : WayHistory) (g : ℕ → List ℕ) (start notes : List Note) → ToldBy k l t u h g start conns old links notes → ToldBy k l t u h g start conns new links notes
  none_told_now none conns links h g start notes told = record {
    steps = told.steps;
    is = told.is;
    stands = gates_stand old new rest conns links (after told.steps h) told.stands;
    counts = none_told n conns old new (after told.steps h) told.counts rest sound writes others none;
    left = told.left;
    under = told.under;
    ways = told.ways;
    rows = told.rows;
    since = told.since;
  }

  pub told_first : {k : Config} {l : Footing} {t u : Option ℕ} → (f : FlowId) → slice_get (lows_on n old) 0 ≡ Some f → (conns : PagedMap Conn) (links : Links) (h : WayHistory) (g : ℕ → List ℕ) (start notes : List Note) → ToldBy k l t u h g start conns old links notes
      → ToldBy k l t u h g start conns new links (notes ++ note.Resume f (buffer.Write n) ∷ [])
  told_first {l = l} f first conns links = told_by {l = l} (Noted (note.Resume f (buffer.Write n)) ∷ []) (λ h c. refl) conns conns old new links links (record { ways = λ h s w. w; rows = refl })
      (λ h s. gates_stand old new rest conns links (Noted (note.Resume f (buffer.Write n)) ∷ h) (holds_stand (note.Resume f (buffer.Write n) ∷ []) (tt, tt) conns old links h s))
      (λ h s c. first_told n conns old new h c rest sound writes others f first)

  -- then nobody is
  pub none_left_told : lows_on n old ≡ [] → lows_on n new ≡ []
  none_left_told none = lows_drop n old new writes ∙ ap (λ (fs : List FlowId). drop 1 fs) none

-- ---- all were told
nobody_lags : {l : LimitKeys} {conns : PagedMap Conn} {flows : Flows} {h : WayHistory} → (n : ℕ) → lows_on n flows ≡ [] → Counts l (Some n) None conns flows h → Counts l None None conns flows h
nobody_lags {flows = flows} n none c = record {
  sound = c.sound;
  each = c.each;
  unpaused = c.unpaused;
  living = c.living;
  over = c.over;
  marks = c.marks;
  known = c.known;
  told = λ b. at b (c.told b);
  turns = c.turns;
}
  where
    same_number : (a b : ℕ) → Some a ≡ Some b → a ≡ b
    same_number a b e = cc

    at : (b : BufferId) → (pending_on flows.gates b ≡ []) ⊎ MayLag (Some n) None b → (pending_on flows.gates b ≡ []) ⊎ MayLag None None b
    at b (inl e) = inl e
    at (buffer.Write d) (inr may) = inl (ap (λ (q : ℕ). pending_on flows.gates (buffer.Write q)) (sym (same_number n d may)) ∙ none)
    at (buffer.Stage f p) (inr may) = cc
    at (buffer.Send f) (inr may) = absurd may
    at (buffer.Recv f) (inr may) = absurd may

pub all_told : {k : Config} {l : Footing} → (n : ℕ) (conns : PagedMap Conn) (flows : Flows) (links : Links) → lows_on n flows ≡ [] → (h : WayHistory) (g : ℕ → List ℕ) (start notes : List Note)
    → ToldBy k l (Some n) None h g start conns flows links notes → ToldBy k l None None h g start conns flows links notes
all_told n conns flows links none h g start notes t = record { steps = t.steps; is = t.is; stands = t.stands; counts = nobody_lags n none t.counts; left = t.left; under = t.under; ways = t.ways; rows = t.rows; since = t.since }
