-- Who is still to be told of a drain where an exchange was doomed, and where a flow was told.
use Rattle.exchange_core.specs.Changes.{Dooms}
use Rattle.exchange_core.specs.Exchange.{flow_id, flow_in as side_of, goes_to as goes_of}
use Rattle.exchange_core.specs.Exchanges.{exchange_at}
use Rattle.exchange_core.specs.Flow.{Flow}
use Rattle.exchange_core.specs.declared.exchange.Exchange.{Exchange}
use Rattle.filter_chain.specs.Place.{kind_of}
use Rattle.flow_gate.specs.Board.{lows, pending_on, times, times_of_buffer, watched_by}
use Rattle.flow_gate.specs.Changes.{without}
use Rattle.flow_gate.specs.Ids.{same_buffer, same_flow}
use Rattle.flow_rules.specs.declared.ids.BufferId.{BufferId}
use Rattle.flow_rules.specs.declared.ids.BufferId.TheVariants as buffer
use Rattle.flow_rules.specs.declared.ids.FlowId.{FlowId}
use Rattle.flow_laws.proofs.Lists.{count_cons, flow_is, flow_same, flow_swapped, one_if}
use Rattle.flow_laws.proofs.Lives.{has_without}
use Rattle.flow_rules.specs.declared.causes.Cause.{Cause}
use Rattle.flow_notes.specs.declared.notes.Note.TheVariants as note
use Rattle.flow_rules.specs.Kinds.{Hold, Kind, Meter, Send}
use Rattle.flow_rules.specs.Sources.{sources_from, write_source}
use Rattle.paged_map.specs.PagedMap.{PagedMap}
use Rattle.proxy_config.specs.declared.config.LimitKeys.{LimitKeys}
use Rattle.std.proofs.Common.{ap, arith, inl, inr, refl, subst, sym, ◌∙◌}
use Rattle.std.proofs.lemmas.Bool.Decides.{nat_tests}
use Rattle.std.proofs.lemmas.List.Sums.{sum_by-cons}
use Rattle.std.proofs.lemmas.List.{append-nil}
use Rattle.std.specs.Option.{option_and_then, option_map, option_map_or}
use Rattle.std.specs.Prelude.{Bool, IsSome, List, None, Option, Some, [], false, if◌then◌else◌, is_some, map, not, sum_by, true, ℕ, ◌&&◌, ◌++◌, ◌+◌, ◌==◌, ◌∷◌, ◌≡◌, ◌≤◌, ◌⊎◌}
use Rattle.tape_laws.specs.History.{Noted}
use Rattle.wire_flows.proofs.Found.{name_is}
use Rattle.wire_flows.specs.Flows.{Flows, flow_in, goes_to, is_live_in, is_there, watches_of}
use Rattle.wire_flows.specs.Sound.{IsSound}
use Rattle.wire_flows.specs.Writes.{LeavesLows, LeavesWrites, Write, left_by, write_at}
use Rattle.wire_state.proofs.Counting.{CountsGo, IsSeen, above_same, watched_stays}
use Rattle.wire_state.proofs.Goings.{told_at}
use Rattle.wire_state.proofs.Held.{turned}
use Rattle.wire_state.proofs.Overs.{still_goes}
use Rattle.wire_state.specs.Counts.{Counts, MayLag}
use Rattle.wire_state.specs.Ways.{WayHistory, WayStep, after}
use Rattle.wire_state.specs.Worlds.{EndsOne}
use Rattle.wire_state.specs.declared.conn.Conn.{Conn}
use Rattle.wire_state.specs.declared.wire_core.WireCore.{WireCore}

-- ---- own buffers of a flow that isn't there
zero_first : (x : Bool) (n m : ℕ) → x ≡ false → n ≡ m → one_if x + n ≡ m
zero_first true n m e i = cc
zero_first false n m e i = omega (arith, i)

and_false : (a b : Bool) → a ≡ false → (a && b) ≡ false
and_false true b e = cc
and_false false b e = refl

-- a stage of a flow isn't among another's sources
stage_other : (f g : FlowId) (p q w : ℕ) (ks : List Kind) (to : Option ℕ) → same_flow f g ≡ false → times_of_buffer (buffer.Stage f p) (map (λ s. s.buffer) (sources_from g q ks ++ write_source w to)) ≡ 0
stage_other f g p q w [] None e = refl
stage_other f g p q w [] (Some c) e = count_cons (same_buffer (buffer.Stage f p)) (buffer.Write c) [] ∙ zero_first (same_buffer (buffer.Stage f p) (buffer.Write c)) _ _ refl refl
stage_other f g p q w (Hold ∷ ks) to e = stage_other f g p (q + 1) w ks to e
stage_other f g p q w (Meter ∷ ks) to e = count_cons (same_buffer (buffer.Stage f p)) (buffer.Stage g q) (map (λ s. s.buffer) (sources_from g (q + 1) ks ++ write_source w to)) ∙ zero_first (same_buffer (buffer.Stage f p) (buffer.Stage g q)) _ _ (and_false (same_flow f g) (p == q) e) (stage_other f g p (q + 1) w ks to e)
stage_other f g p q w (Send ∷ ks) to e = count_cons (same_buffer (buffer.Stage f p)) (buffer.Send g) (map (λ s. s.buffer) (sources_from g (q + 1) ks ++ write_source w to)) ∙ zero_first (same_buffer (buffer.Stage f p) (buffer.Send g)) _ _ refl (stage_other f g p (q + 1) w ks to e)

pub all_none : (xs : List FlowId) → ((g : FlowId) → times g xs ≡ 0) → xs ≡ []
all_none [] e = refl
all_none (x ∷ xs) e = absurd (never (times x xs) (sym (count_cons (same_flow x) x xs ∙ ap (λ (b : Bool). one_if b + times x xs) (flow_same x)) ∙ e x))
  where
    never : (n : ℕ) → 1 + n ≡ 0 → ⊥
    never n e = omega (arith, e)

pub own_told : (flows : Flows) → IsSound flows → (f : FlowId) → is_there flows f ≡ false → (p : ℕ) → pending_on flows.gates (buffer.Stage f p) ≡ []
own_told flows sound f none p = all_none (pending_on flows.gates (buffer.Stage f p)) few
  where
    least : (a b c : ℕ) → a ≤ b → b ≡ c → c ≡ 0 → a ≡ 0
    least a b c le e z = omega (arith, le, e, z)

    apart : (g : FlowId) (flow : Flow) → flow_in flows g ≡ Some flow → same_flow f g ≡ false
    apart g flow found = at (same_flow f g) refl
      where
        at : (b : Bool) → same_flow f g ≡ b → b ≡ false
        at true e = absurd (cc (ap (is_there flows) (flow_is f g e), none, ap is_some found))
        at false e = refl

    none_of : (g : FlowId) (o : Option Flow) → flow_in flows g ≡ o → times_of_buffer (buffer.Stage f p) (option_map_or (watches_of (goes_to flows g)) o []) ≡ 0
    none_of g None e = refl
    none_of g (Some flow) e = stage_other f flow.chain.flow p 1 _ (map (λ x. kind_of x.kind) flow.chain.places) (goes_to flows g)
        (ap (same_flow f) (name_is flows.exchanges g flow sound.exchanges e) ∙ apart g flow e)

    few : (g : FlowId) → times g (pending_on flows.gates (buffer.Stage f p)) ≡ 0
    few g = least _ _ _ (sound.gates.pending g (buffer.Stage f p)) (sound.gates.paired g (buffer.Stage f p))
        (ap (times_of_buffer (buffer.Stage f p)) (sound.watched g) ∙ none_of g (flow_in flows g) refl)

-- nobody is late of an exchange that isn't live
pub none_late : {l : LimitKeys} {t : Option ℕ} → (x : ℕ) (conns : PagedMap Conn) (flows : Flows) (h : WayHistory) → is_live_in flows x ≡ false → Counts l t (Some x) conns flows h → Counts l t None conns flows h
none_late {t = t} x conns flows h none c = record {
  sound = c.sound;
  each = c.each;
  unpaused = c.unpaused;
  living = c.living;
  over = c.over;
  marks = c.marks;
  known = c.known;
  told = λ b. late_told t x flows c.sound (λ f is. not_there f is) b (c.told b);
  turns = c.turns;
}
  where
    gone : (f : FlowId) (o : Option Exchange) → exchange_at flows.exchanges f.exchange ≡ o → is_some o ≡ false → is_there flows f ≡ false
    gone f None e n = ap (λ (v : Option Exchange). is_some (option_and_then (side_of f.back) v)) e
    gone f (Some v) e n = cc

    not_there : (f : FlowId) → x ≡ f.exchange → is_there flows f ≡ false
    not_there f is = gone f (exchange_at flows.exchanges f.exchange) refl (ap (is_live_in flows) (sym is) ∙ none)

    same_number : (a b : ℕ) → Some a ≡ Some b → a ≡ b
    same_number a b e = cc

    late_told : (t : Option ℕ) (x : ℕ) (flows : Flows) → IsSound flows → ((f : FlowId) → x ≡ f.exchange → is_there flows f ≡ false) → (b : BufferId) → (pending_on flows.gates b ≡ []) ⊎ MayLag t (Some x) b → (pending_on flows.gates b ≡ []) ⊎ MayLag t None b
    late_told t x flows sound away b (inl e) = inl e
    late_told t x flows sound away (buffer.Write d) (inr may) = inr may
    late_told t x flows sound away (buffer.Stage f p) (inr may) = inl (own_told flows sound f (away f (same_number x f.exchange may)) p)
    late_told t x flows sound away (buffer.Send f) (inr may) = absurd may
    late_told t x flows sound away (buffer.Recv f) (inr may) = absurd may

-- ---- a doom
times_without : (f g : FlowId) (fs : List FlowId) → same_flow g f ≡ false → times f (without g fs) ≡ times f fs
times_without f g [] e = refl
times_without f g (k ∷ ks) e = at (times_without f g ks e) (same_flow g k) refl
  where
    at : times f (without g ks) ≡ times f ks → (b : Bool) → same_flow g k ≡ b → times f (if not b then k ∷ without g ks else without g ks) ≡ times f (k ∷ ks)
    at rest true is = rest ∙ sym (count_cons (same_flow f) k ks ∙ zero_first (same_flow f k) _ _ (flow_swapped f k ∙ (ap (λ (v : FlowId). same_flow v f) (sym (flow_is g k is)) ∙ e)) refl)
    at rest false is = count_cons (same_flow f) k (without g ks) ∙ (ap (λ (n : ℕ). one_if (same_flow f k) + n) rest ∙ sym (count_cons (same_flow f) k ks))

module _ (l : LimitKeys) (t : Option ℕ) (x : ℕ) (why : Cause) (h : WayHistory) (conns : PagedMap Conn) (old new : Flows) (d : Dooms x old.exchanges new.exchanges) (writes : LeavesWrites x old new) (lows_go : LeavesLows x old new)
    (lives : (y : ℕ) → is_live_in new y ≡ (not (x == y) && is_live_in old y)) (sound : IsSound new) where
  abbrev ending : WayStep
  ending = Noted (note.Doom x why)

  found_at : (f : FlowId) → flow_in new f ≡ option_and_then (side_of f.back) (if x == f.exchange then None else exchange_at old.exchanges f.exchange)
  found_at f = ap (option_and_then (side_of f.back)) (d.gone.live f.exchange)

  apart : (f : FlowId) → is_there new f ≡ true → (x == f.exchange) ≡ false
  apart f there = at (x == f.exchange) refl
    where
      at : (b : Bool) → (x == f.exchange) ≡ b → b ≡ false
      at true e = absurd (cc (sym there ∙ (ap is_some (found_at f) ∙ ap (λ b. is_some (option_and_then (side_of f.back) (if b then None else exchange_at old.exchanges f.exchange))) e)))
      at false e = refl

  stays : (f : FlowId) → (x == f.exchange) ≡ false → flow_in new f ≡ flow_in old f
  stays f e = found_at f ∙ ap (λ b. option_and_then (side_of f.back) (if b then None else exchange_at old.exchanges f.exchange)) e

  goes : (f : FlowId) → (x == f.exchange) ≡ false → goes_to new f ≡ goes_to old f
  goes f e = ap (option_and_then (goes_of f.back)) (d.gone.live f.exchange ∙ ap (λ b. if b then None else exchange_at old.exchanges f.exchange) e)

  abbrev held : Option Write → Bool
  held o = option_map_or (λ k. k.above) o false

  left_held : (o : Option Write) → held (option_map (left_by x) o) ≡ held o
  left_held None = refl
  left_held (Some k) = refl

  left_some : (o : Option Write) → IsSome o → IsSome (option_map (left_by x) o)
  left_some None some = cc some
  left_some (Some k) some = refl

  other_side : (f : FlowId) (side : Bool) → (x == f.exchange) ≡ false → same_flow (flow_id x side) f ≡ false
  other_side f side e = and_false (x == f.exchange) _ e

  doom_lows : {u u' : Option ℕ} → IsSound old → (f : FlowId) (flow : Flow) → IsSeen l t u t u' conns conns old new ending [] h f flow → lows new.gates f + 0 ≡ lows old.gates f + 0
  doom_lows {u} {u'} was f flow seen =
      let e = apart f (ap is_some seen.found) in
      ap (λ (n : ℕ). n + 0) ((λ i. sum_by (λ b. times f (lows_go.lows b i)) (watched_stays l t u t u' conns conns old new ending [] h was sound f flow seen i)) ∙ same e (watched_by old.gates f))
    where
      sums : (a b c s t : ℕ) → a ≡ b → s ≡ t → a + s ≡ b + t
      sums a b c s t e i = omega (arith, e, i)

      same : (x == f.exchange) ≡ false → (bs : List BufferId) → sum_by (λ b. times f (without (flow_id x true) (without (flow_id x false) (pending_on old.gates b)))) bs ≡ sum_by (λ b. times f (pending_on old.gates b)) bs
      same e [] = refl
      same e (b ∷ bs) = sum_by-cons (λ b. times f (without (flow_id x true) (without (flow_id x false) (pending_on old.gates b)))) b bs
          ∙ ((λ i. (times_without f (flow_id x true) (without (flow_id x false) (pending_on old.gates b)) (other_side f true e) ∙ times_without f (flow_id x false) (pending_on old.gates b) (other_side f false e)) i + same e bs i)
          ∙ sym (sum_by-cons (λ b. times f (pending_on old.gates b)) b bs))

  doom_go : {u u' : Option ℕ} → Counts l t u conns old h → ((b : BufferId) → (pending_on new.gates b ≡ []) ⊎ MayLag t u' b) → CountsGo l t u t u' conns conns old new ending [] h
  doom_go c told = record {
    sound = sound;
    flows_go = record {
      last = d.gone.last;
      each = λ f flow found. (flow, sym (stays f (apart f (ap is_some found))) ∙ found, still_goes flow flow refl);
      goes = λ f there. goes f (apart f there);
    };
    ways = λ f there. record { stages = refl; conn = refl; spared = ap not (turned x f.exchange false (apart f there)) };
    lives = λ y. has_without _ x y ∙ ((λ i. not (swap x y i) && c.living y i) ∙ sym (lives y));
    writes = above_same l conns;
    marks = λ e. ap held (writes.writes e) ∙ (left_held (write_at e old) ∙ c.marks e);
    known = λ e there. subst IsSome (sym (writes.writes e)) (left_some (write_at e old) (c.known e there));
    told = told;
    turns = tt;
    holds = tt;
    quiet = λ f. (refl, refl);
    paused = λ f flow seen. refl;
    resumed = doom_lows c.sound;
    none = λ f lt. (refl, refl);
  }
    where
      swap : (a b : ℕ) → (b == a) ≡ (a == b)
      swap a b = by_both (a == b) refl
        where
          by_both : (v : Bool) → (a == b) ≡ v → (b == a) ≡ v
          by_both v e = turned a b v e

  empty_now : (b : BufferId) → pending_on old.gates b ≡ [] → pending_on new.gates b ≡ []
  empty_now b e = lows_go.lows b ∙ ap (λ (fs : List FlowId). without (flow_id x true) (without (flow_id x false) fs)) e

  -- who may lag may go on to
  pub dooms_counts : {u : Option ℕ} → Counts l t u conns old h → CountsGo l t u t u conns conns old new ending [] h
  dooms_counts {u} c = doom_go c (λ b. at b (c.told b))
    where
      at : (b : BufferId) → (pending_on old.gates b ≡ []) ⊎ MayLag t u b → (pending_on new.gates b ≡ []) ⊎ MayLag t u b
      at b (inl e) = inl (empty_now b e)
      at b (inr may) = inr may

  -- the exchange that overflowed is doomed
  pub late_counts : Counts l t (Some x) conns old h → CountsGo l t (Some x) t None conns conns old new ending [] h
  late_counts c = doom_go c (λ b. at b (c.told b))
    where
      same_number : (a b : ℕ) → Some a ≡ Some b → a ≡ b
      same_number a b e = cc

      one : (a b : ℕ) → a ≡ b → (a == b) ≡ true
      one a b e = grind (arith, nat_tests)

      away : (f : FlowId) → x ≡ f.exchange → is_there new f ≡ false
      away f is = ap is_some (found_at f ∙ ap (λ b. option_and_then (side_of f.back) (if b then None else exchange_at old.exchanges f.exchange)) (one x f.exchange is))

      at : (b : BufferId) → (pending_on old.gates b ≡ []) ⊎ MayLag t (Some x) b → (pending_on new.gates b ≡ []) ⊎ MayLag t None b
      at b (inl e) = inl (empty_now b e)
      at (buffer.Write e) (inr may) = inr may
      at (buffer.Stage f p) (inr may) = inl (own_told new sound f (away f (same_number x f.exchange may)) p)
      at (buffer.Send f) (inr may) = absurd may
      at (buffer.Recv f) (inr may) = absurd may

-- nobody was late of an exchange that isn't live
pub ends_none : (x : ℕ) (core : WireCore) → is_live_in core.flows x ≡ false → EndsOne x [] core core
ends_none x core none = record {
  goes = λ h g start notes t. told_at h g start core.conns core.conns core.flows core.links notes (notes ++ []) refl (sym (append-nil notes))
      (record { steps = t.steps; is = t.is; stands = t.stands; counts = none_late x core.conns core.flows (after t.steps h) none t.counts; left = t.left; under = t.under; ways = t.ways; rows = t.rows; since = t.since });
}
