-- What the counts are where octets of a flow went on to the next place.
use Rattle.exchange_core.specs.Changes.{ChangesFlow}
use Rattle.exchange_core.specs.Effects.{moved}
use Rattle.exchange_core.specs.Exchange.{IsFlowOf}
use Rattle.exchange_core.specs.Flow.{Flow, last_place as send_place}
use Rattle.exchange_core.specs.Moves.{is_free, may_release, next_step, stepped}
use Rattle.filter_chain.specs.Chain.{above_at}
use Rattle.filter_chain.specs.Place.{Place}
use Rattle.filter_chain.specs.declared.stage.StageKind.{StageKind as PlaceKind}
use Rattle.flow_gate.specs.Board.{lows, pending_on, times, times_of_buffer, watched_by}
use Rattle.flow_gate.specs.Ids.{same_buffer, same_flow}
use Rattle.flow_rules.specs.declared.ids.BufferId.{BufferId}
use Rattle.flow_rules.specs.declared.ids.BufferId.TheVariants as buffer
use Rattle.flow_rules.specs.declared.ids.FlowId.{FlowId}
use Rattle.flow_laws.proofs.Lists.{buffer_is, buffer_same, count_cons, flow_is, flow_same, flow_swapped, one_if}
use Rattle.flow_notes.specs.declared.notes.Note.{Note}
use Rattle.flow_notes.specs.declared.notes.Note.TheVariants as note
use Rattle.paged_map.specs.PagedMap.{PagedMap}
use Rattle.proxy_config.specs.declared.config.Config.{Config}
use Rattle.proxy_config.specs.declared.config.LimitKeys.{LimitKeys}
use Rattle.std.proofs.Common.{ap, arith, inl, inr, refl, subst, sym, ◌∙◌}
use Rattle.std.proofs.lemmas.Bool.Decides.{nat_tests}
use Rattle.std.proofs.lemmas.Option.{same_Some}
use Rattle.std.specs.Option.{option_map, option_map_or}
use Rattle.std.specs.Prelude.{Bool, IfSome, IsSome, List, None, Option, Some, [], drop, false, if◌then◌else◌, is_some, map, not, slice_get, suc, sum_by, true, zero, ℕ, ◌&&◌, ◌++◌, ◌+◌, ◌<◌, ◌==◌, ◌∷◌, ◌≡◌, ◌⊎◌}
use Rattle.tape_laws.specs.History.{Noted}
use Rattle.tape_laws.specs.Pauses.{place_buffer}
use Rattle.tape_laws.specs.Sources.{source_buffers}
use Rattle.tape_laws.specs.Watermark.{drains_at, rises_at}
use Rattle.tape_laws.specs.World.{last_place}
use Rattle.wire_flows.proofs.Found.{flow_after, flow_is as flow_own, live_after}
use Rattle.wire_flows.proofs.Freed.{found_at, place_sound}
use Rattle.wire_flows.proofs.Cases.{by_case}
use Rattle.wire_flows.specs.Flows.{Flows, IsThere, flow_in, goes_to, is_live_in}
use Rattle.wire_flows.specs.Moves.{outcome_of, untold_by}
use Rattle.wire_flows.specs.Sound.{IsSound}
use Rattle.wire_flows.specs.Writes.{KeepsWrites, Write}
use Rattle.wire_flows.specs.declared.moving.Moved.{Moved}
use Rattle.wire_flows.specs.declared.moving.Outcome.{Outcome}
use Rattle.wire_flows.specs.declared.moving.Outcome.TheVariants as outcome
use Rattle.wire_links.specs.Links.{Links, ends_of}
use Rattle.wire_state.proofs.Counting.{CountsGo, IsSeen, above_same, changed_go, counts_go, watched_stays}
use Rattle.wire_state.proofs.Filled.{unborn_gone}
use Rattle.wire_state.proofs.Givens.{there_given}
use Rattle.wire_state.proofs.Goings.{told_by}
use Rattle.wire_state.proofs.Heeding.{first_heeds}
use Rattle.wire_state.proofs.Holding.{holds_gone, holds_rows, holds_stand, holds_ways, noted, paused_in, resumed_in, shown_noted}
use Rattle.wire_state.proofs.Overs.{FlowGoes, moved_goes}
use Rattle.wire_state.proofs.Rising.{drained, of_one, risen}
use Rattle.wire_state.proofs.Shifting.{crossed_holds, crossed_pauses, crossed_resumes, other_drains, other_rises, own_drains, own_rises, place_named, recv_drains}
use Rattle.wire_state.proofs.Stepping.{IsStep, made, move_stands, stage_of, there}
use Rattle.wire_state.proofs.Watching.{lows_more, lows_same, watches}
use Rattle.wire_state.specs.Counts.{Counts, Heeds, MayLag}
use Rattle.wire_state.specs.Limits.{shape_of}
use Rattle.wire_state.specs.Marks.{Footing}
use Rattle.wire_state.specs.Noting.{crossed_of, late_of, moved_of}
use Rattle.wire_state.specs.Tapes.{tape_setup}
use Rattle.wire_state.specs.Ways.{WayHistory, WayStep}
use Rattle.wire_state.specs.Worlds.{FlowIs, ToldBy}
use Rattle.wire_state.specs.declared.conn.Conn.{Conn}

if_same : (b : Bool) (n : ℕ) → (if b then n else n) ≡ n
if_same true n = refl
if_same false n = refl

if_none : (b : Bool) {n : ℕ} → n ≡ 0 → (if b then n else 0) ≡ 0
if_none true e = e
if_none false e = refl

some_if : (b : Bool) (x : BufferId) → is_some (if b then Some x else None) ≡ b
some_if true x = refl
some_if false x = refl

abbrev held : Option Write → Bool
held o = option_map_or (λ k. k.above) o false

-- places of the same kinds
kind_at : (xs ys : List Place) (i : ℕ) (x y : Place) → map shape_of ys ≡ map shape_of xs → slice_get xs i ≡ Some x → slice_get ys i ≡ Some y → y.kind ≡ x.kind
kind_at [] ys i x y e a b = cc
kind_at (z ∷ xs) [] i x y e a b = cc
kind_at (z ∷ xs) (v ∷ ys) zero x y e a b = ap (λ (p : Place). p.kind) (sym (same_Some v y b)) ∙ (ap (λ (ks : List (PlaceKind × ℕ)). first ks) e ∙ ap (λ (p : Place). p.kind) (same_Some z x a))
  where
    first : List (PlaceKind × ℕ) → PlaceKind
    first [] = z.kind
    first (k ∷ ks) = k.0
kind_at (z ∷ xs) (v ∷ ys) (suc i) x y e a b = kind_at xs ys i x y (ap (λ (ks : List (PlaceKind × ℕ)). drop 1 ks) e) a b

module _ (f : FlowId) (old new : Flows) (o : Outcome) (is : o ≡ option_map_or (λ g. outcome_of f g (next_step old.gates (goes_to old f) g)) (flow_in old f) outcome.Still)
    (changes : ChangesFlow f (stepped old.gates (goes_to old f)) old.exchanges new.exchanges) (m : Moved) (e : o ≡ outcome.Moved m) (sound : IsSound new) (writes : KeepsWrites old new)
    (lows_go : (b : BufferId) → pending_on new.gates b ≡ untold_by f (outcome.Moved m) b (pending_on old.gates b)) where
  abbrev move : WayStep
  move = Noted (note.Move f m.place m.n)

  abbrev tail : List Note
  tail = crossed_of f m

  module _ {l : LimitKeys} {t : Option ℕ} (conns : PagedMap Conn) (h : WayHistory) (c : Counts l t None conns old h) where
    abbrev Seen : FlowId → Flow → Type 0
    Seen g now = IsSeen l t None t (late_of f m) conns conns old new move tail h g now

    none_own : (p : ℕ) → pending_on old.gates (buffer.Stage f p) ≡ []
    none_own p = at (c.told (buffer.Stage f p))
      where
        at : (pending_on old.gates (buffer.Stage f p) ≡ []) ⊎ MayLag t None (buffer.Stage f p) → pending_on old.gates (buffer.Stage f p) ≡ []
        at (inl none) = none
        at (inr may) = cc

    -- what drains is a stage of the flow
    drained_stage : (b0 : BufferId) → m.drained ≡ Some b0 → buffer.Stage f m.place ≡ b0
    drained_stage b0 d = at (flow_in old f) refl (there f old new o is changes m e (flow_in old f) refl)
      where
        named : (x : Bool) → m.drained ≡ (if x then Some (buffer.Stage f m.place) else None) → buffer.Stage f m.place ≡ b0
        named true i = cc
        named false i = cc

        at : (v : Option Flow) → flow_in old f ≡ v → IsThere old f → buffer.Stage f m.place ≡ b0
        at None none some = absurd (cc (subst IsSome none some))
        at (Some flow) found some = named _ (stage_of f old new o is changes m e flow found)

    none_of_drained : (b0 : BufferId) → m.drained ≡ Some b0 → pending_on old.gates b0 ≡ []
    none_of_drained b0 d = ap (pending_on old.gates) (sym (drained_stage b0 d)) ∙ none_own m.place

    -- ---- the flow that moved
    module _ (now : Flow) (seen : Seen f now) where
      k : IsStep f old.gates (goes_to old f) seen.was m
      k = made f old new o is changes m e h seen.was seen.found_was seen.is_was

      now_is : now ≡ moved m.place m.n seen.was
      now_is = same_Some now (moved m.place m.n seen.was) (sym seen.found ∙ (flow_after f (stepped old.gates (goes_to old f)) old.exchanges new.exchanges changes f
          ∙ (ap (λ (b : Bool). if b then option_map (stepped old.gates (goes_to old f)) (flow_in old f) else flow_in old f) (flow_same f)
          ∙ (ap (option_map (stepped old.gates (goes_to old f))) seen.found_was ∙ ap (λ (v : Flow). Some v) k.after_it))))

      own : IsFlowOf f.exchange f.back old.exchanges.time seen.was
      own = flow_own old.exchanges f seen.was c.sound.exchanges seen.found_was

      own_now : IsFlowOf f.exchange f.back new.exchanges.time now
      own_now = flow_own new.exchanges f now sound.exchanges seen.found

      next_of : (i : ℕ) → i + 1 ≡ suc i
      next_of i = omega arith

      -- a place, then and now
      module _ (i : ℕ) (within : i < send_place seen.was) where
        abbrev x : Place
        x = (found_at seen.was.chain.places i within).0

        at_x : slice_get seen.was.chain.places i ≡ Some x
        at_x = (found_at seen.was.chain.places i within).1

        still_within : i < send_place now
        still_within = subst (λ (n : ℕ). i < n) (seen.is_was.last ∙ sym seen.is_now.last) within

        abbrev y : Place
        y = (found_at now.chain.places i still_within).0

        at_y : slice_get now.chain.places i ≡ Some y
        at_y = (found_at now.chain.places i still_within).1

        same_kind : y.kind ≡ x.kind
        same_kind = kind_at seen.was.chain.places now.chain.places i x y (seen.is_now.shape.places ∙ sym seen.is_was.shape.places) at_x at_y

        was_above : above_at seen.was.chain (suc i) ≡ x.above
        was_above = ap (λ (v : Option Place). option_map_or (λ p. p.above) v false) at_x

        now_above : above_at (moved m.place m.n seen.was).chain (suc i) ≡ y.above
        now_above = ap (λ (v : Flow). above_at v.chain (suc i)) (sym now_is) ∙ ap (λ (v : Option Place). option_map_or (λ p. p.above) v false) at_y

        rises_one : of_one (λ d. rises_at (tape_setup l) d move h) (source_buffers (tape_setup l) f h) (Some (place_buffer (tape_setup l) f (i + 1) h)) ≡ one_if (not (above_at seen.was.chain (suc i)) && above_at (moved m.place m.n seen.was).chain (suc i))
        rises_one = ap (λ (b : BufferId). of_one (λ d. rises_at (tape_setup l) d move h) (source_buffers (tape_setup l) f h) (Some b)) (place_named l f h seen.was f.exchange old.exchanges.time f.back seen.is_was own i x at_x within)
            ∙ (own_rises l f move h seen.was now seen.is_was seen.is_now seen.over_was seen.over_is i x y at_x at_y same_kind (place_sound seen.was.chain.places i x own.sound.chain.each at_x) (place_sound now.chain.places i y own_now.sound.chain.each at_y)
            ∙ ap one_if (λ j. not (sym was_above j) && sym now_above j))

        drains_one : of_one (λ d. drains_at (tape_setup l) d move h) (source_buffers (tape_setup l) f h) (Some (place_buffer (tape_setup l) f (i + 1) h)) ≡ one_if (above_at seen.was.chain (suc i) && not (above_at (moved m.place m.n seen.was).chain (suc i)))
        drains_one = ap (λ (b : BufferId). of_one (λ d. drains_at (tape_setup l) d move h) (source_buffers (tape_setup l) f h) (Some b)) (place_named l f h seen.was f.exchange old.exchanges.time f.back seen.is_was own i x at_x within)
            ∙ (own_drains l f move h seen.was now seen.is_was seen.is_now seen.over_was seen.over_is i x y at_x at_y same_kind (place_sound seen.was.chain.places i x own.sound.chain.each at_x) (place_sound now.chain.places i y own_now.sound.chain.each at_y)
            ∙ ap one_if (λ j. sym was_above j && not (sym now_above j)))

      own_paused : paused_in f tail ≡ risen l f move h
      own_paused = crossed_pauses f f m.rose m.drained m.overflow
          ∙ (ap (λ (b : Bool). if is_some m.rose then one_if b else 0) (flow_same f) ∙ (as_one (is_some m.rose)
          ∙ (ap one_if (k.rose_is ∙ (λ j. not (above_at seen.was.chain (next_of m.place j)) && above_at (moved m.place m.n seen.was).chain (next_of m.place j))) ∙ sym (rises_one m.place k.before_last))))
        where
          as_one : (b : Bool) → (if b then 1 else 0) ≡ one_if b
          as_one b = refl

      -- the buffer that they left drains, or doesn't
      abbrev falls : Bool
      falls = above_at seen.was.chain m.place && not (above_at (moved m.place m.n seen.was).chain m.place)

      falls_one : drained l f move h ≡ one_if falls
      falls_one = at m.place refl
        where
          at : (p : ℕ) → m.place ≡ p → drained l f move h ≡ one_if falls
          at zero z = ap (λ (q : ℕ). of_one (λ d. drains_at (tape_setup l) d move h) (source_buffers (tape_setup l) f h) (Some (place_buffer (tape_setup l) f q h))) z
              ∙ (recv_drains l f f move h ∙ sym (ap (λ (q : ℕ). one_if (above_at seen.was.chain q && not (above_at (moved m.place m.n seen.was).chain q))) z))
          at (suc i) z = ap (λ (q : ℕ). of_one (λ d. drains_at (tape_setup l) d move h) (source_buffers (tape_setup l) f h) (Some (place_buffer (tape_setup l) f q h))) (z ∙ sym (next_of i))
              ∙ (drains_one i (less i m.place (send_place seen.was) z k.before_last) ∙ sym (ap (λ (q : ℕ). one_if (above_at seen.was.chain q && not (above_at (moved m.place m.n seen.was).chain q))) z))
            where
              less : (i p n : ℕ) → p ≡ suc i → p < n → i < n
              less i p n e lt = omega (arith, e, lt)

      drained_named : m.drained ≡ (if falls then Some (buffer.Stage f m.place) else None)
      drained_named = k.drained_is

    -- ---- who is still to be told
    -- of the buffer that drained the flow, where the move overflowed
    lows_at : (d : Option BufferId) → m.drained ≡ d → (b : BufferId) → pending_on new.gates b ≡ (if option_map_or (same_buffer b) d false then (if m.overflow then f ∷ [] else []) else pending_on old.gates b)
    lows_at d is b = lows_go b ∙ ap (λ (v : Option BufferId). if option_map_or (same_buffer b) v false then (if m.overflow then f ∷ [] else []) else pending_on old.gates b) is

    swapped_buffers : (a b : BufferId) → same_buffer a b ≡ same_buffer b a
    swapped_buffers a b = at (same_buffer a b) (same_buffer b a) refl refl
      where
        at : (x y : Bool) → same_buffer a b ≡ x → same_buffer b a ≡ y → same_buffer a b ≡ same_buffer b a
        at true true p q = p ∙ sym q
        at false false p q = p ∙ sym q
        at true false p q = absurd (cc (sym (ap (λ (v : BufferId). same_buffer b v) (sym (sym (buffer_is a b p))) ∙ buffer_same b) ∙ q))
        at false true p q = absurd (cc (sym (ap (λ (v : BufferId). same_buffer a v) (buffer_is b a q) ∙ buffer_same a) ∙ p))

    -- of a flow that isn't the one that moved
    module _ (g : FlowId) (now : Flow) (apart : same_flow f g ≡ false) (seen : Seen g now) where
      other_paused : paused_in g tail ≡ risen l g move h
      other_paused = crossed_pauses f g m.rose m.drained m.overflow ∙ (ap (λ (b : Bool). if is_some m.rose then one_if b else 0) apart ∙ (if_none (is_some m.rose) refl ∙ sym (other_rises l f g move h (m.place + 1) apart)))

      other_resumed : lows new.gates g + resumed_in g tail ≡ lows old.gates g + drained l g move h
      other_resumed = sums _ _ _ _ (low m.drained refl)
          (crossed_resumes f g m.rose m.drained m.overflow ∙ (ap (λ (b : Bool). if is_some m.drained && not m.overflow then one_if b else 0) apart ∙ if_none (is_some m.drained && not m.overflow) refl))
          (other_drains l f g move h m.place apart)
        where
          sums : (a b r d : ℕ) → a ≡ b → r ≡ 0 → d ≡ 0 → a + r ≡ b + d
          sums a b r d i j k = omega (arith, i, j, k)

          watched : watched_by new.gates g ≡ watched_by old.gates g
          watched = watched_stays l t None t (late_of f m) conns conns old new move tail h c.sound sound g now seen

          nobody : (b : Bool) → times g (if b then f ∷ [] else []) ≡ 0
          nobody true = count_cons (same_flow g) f [] ∙ ap (λ (v : Bool). one_if v + 0) (flow_swapped g f ∙ apart)
          nobody false = refl

          none_more : (a b k : ℕ) → a ≡ b + 0 → k ≡ a → k ≡ b
          none_more a b k i j = omega (arith, i, j)

          low : (d : Option BufferId) → m.drained ≡ d → lows new.gates g ≡ lows old.gates g
          low None is = lows_same g old.gates new.gates watched (lows_at None is)
          low (Some b0) is = none_more _ _ _
              (lows_more g b0 (if m.overflow then f ∷ [] else []) (pending_on old.gates) false (nobody m.overflow) (none_of_drained b0 is) (watched_by old.gates g))
              (λ i. sum_by (λ b. times g ((lows_at (Some b0) is b ∙ ap (λ (v : Bool). if v then (if m.overflow then f ∷ [] else []) else pending_on old.gates b) (swapped_buffers b b0)) i)) (watched i))

    -- of the one that moved
    module _ (now : Flow) (seen : Seen f now) where
      own_resumed : lows new.gates f + resumed_in f tail ≡ lows old.gates f + drained l f move h
      own_resumed = at (falls now seen) refl
        where
          watched : watched_by new.gates f ≡ watched_by old.gates f
          watched = watched_stays l t None t (late_of f m) conns conns old new move tail h c.sound sound f now seen

          resumes_are : resumed_in f tail ≡ (if is_some m.drained && not m.overflow then 1 else 0)
          resumes_are = crossed_resumes f f m.rose m.drained m.overflow ∙ ap (λ (b : Bool). if is_some m.drained && not m.overflow then one_if b else 0) (flow_same f)

          -- the buffer that drained is one of its sources, once
          one_source : falls now seen ≡ true → times_of_buffer (buffer.Stage f m.place) (watched_by old.gates f) ≡ 1
          one_source up =
              let sources = watches l old h c.sound f seen.was seen.found_was seen.is_was seen.goes_was in
              ap (times_of_buffer (buffer.Stage f m.place)) sources ∙ (ap (λ (b : BufferId). times_of_buffer b (source_buffers (tape_setup l) f h)) (sym (staged m.place refl)) ∙ counted (drains_at (tape_setup l) (place_buffer (tape_setup l) f m.place h) move h) _ (falls_one now seen ∙ ap one_if up))
            where
              counted : (b : Bool) (n : ℕ) → (if b then n else 0) ≡ 1 → n ≡ 1
              counted true n i = i
              counted false n i = absurd (omega (arith, i))

              before : (p n : ℕ) → p < n → (p == n) ≡ false
              before p n lt = grind (arith, nat_tests)

              staged : (p : ℕ) → m.place ≡ p → place_buffer (tape_setup l) f m.place h ≡ buffer.Stage f m.place
              staged zero z = absurd (cc (sym (ap (λ (q : ℕ). above_at seen.was.chain q && not (above_at (moved m.place m.n seen.was).chain q)) z) ∙ up))
              staged (suc i) z =
                  ap (λ (b : Bool). if b then buffer.Recv f else (if m.place == last_place (tape_setup l) f h then buffer.Send f else buffer.Stage f m.place)) (some i m.place z)
                  ∙ ap (λ (b : Bool). if b then buffer.Send f else buffer.Stage f m.place) (before m.place (last_place (tape_setup l) f h) (subst (λ (n : ℕ). m.place < n) seen.is_was.last (k now seen).before_last))
                where
                  some : (i p : ℕ) → p ≡ suc i → (p == 0) ≡ false
                  some i p e = grind (arith, nat_tests)

          one_time : times f (f ∷ []) ≡ one_if true
          one_time = count_cons (same_flow f) f [] ∙ ap (λ (v : Bool). one_if v + 0) (flow_same f)

          late : (a b r d k : ℕ) → a ≡ b + k → k ≡ 1 → r ≡ 0 → d ≡ 1 → a + r ≡ b + d
          late a b r d k i j p q = omega (arith, i, j, p, q)

          told_now : (a b r d : ℕ) → a ≡ b + 0 → r ≡ 1 → d ≡ 1 → a + r ≡ b + d
          told_now a b r d i p q = omega (arith, i, p, q)

          none : (a b r d : ℕ) → a ≡ b → r ≡ 0 → d ≡ 0 → a + r ≡ b + d
          none a b r d i p q = omega (arith, i, p, q)

          at : (x : Bool) → falls now seen ≡ x → lows new.gates f + resumed_in f tail ≡ lows old.gates f + drained l f move h
          at false down =
              let is : m.drained ≡ None = drained_named now seen ∙ ap (λ (b : Bool). if b then Some (buffer.Stage f m.place) else None) down in
              none _ _ _ _ (lows_same f old.gates new.gates watched (lows_at None is)) (resumes_are ∙ ap (λ (o : Option BufferId). if is_some o && not m.overflow then 1 else 0) is) (falls_one now seen ∙ ap one_if down)
          at true up = by_overflow m.overflow refl
            where
              fell : m.drained ≡ Some (buffer.Stage f m.place)
              fell = drained_named now seen ∙ ap (λ (b : Bool). if b then Some (buffer.Stage f m.place) else None) up

              lows_are : (b : BufferId) → pending_on new.gates b ≡ (if same_buffer (buffer.Stage f m.place) b then (if m.overflow then f ∷ [] else []) else pending_on old.gates b)
              lows_are b = lows_at (Some (buffer.Stage f m.place)) fell b ∙ ap (λ (v : Bool). if v then (if m.overflow then f ∷ [] else []) else pending_on old.gates b) (swapped_buffers b (buffer.Stage f m.place))

              by_overflow : (v : Bool) → m.overflow ≡ v → lows new.gates f + resumed_in f tail ≡ lows old.gates f + drained l f move h
              by_overflow true over = late _ _ _ _ _
                  ((λ i. sum_by (λ b. times f ((lows_are b ∙ ap (λ (x : Bool). if same_buffer (buffer.Stage f m.place) b then (if x then f ∷ [] else []) else pending_on old.gates b) over) i)) (watched i))
                  ∙ lows_more f (buffer.Stage f m.place) (f ∷ []) (pending_on old.gates) true one_time (none_own m.place) (watched_by old.gates f))
                  (one_source up) (resumes_are ∙ (λ i. if is_some (fell i) && not (over i) then 1 else 0)) (falls_one now seen ∙ ap one_if up)
              by_overflow false over = told_now _ _ _ _
                  ((λ i. sum_by (λ b. times f ((lows_are b ∙ ap (λ (x : Bool). if same_buffer (buffer.Stage f m.place) b then (if x then f ∷ [] else []) else pending_on old.gates b) over) i)) (watched i))
                  ∙ lows_more f (buffer.Stage f m.place) [] (pending_on old.gates) false refl (none_own m.place) (watched_by old.gates f))
                  (resumes_are ∙ (λ i. if is_some (fell i) && not (over i) then 1 else 0)) (falls_one now seen ∙ ap one_if up)

    -- ---- all of it
    paused_of : (g : FlowId) (now : Flow) → Seen g now → paused_in g tail ≡ risen l g move h
    paused_of g now seen = by_case (same_flow f g)
        (λ same. subst (λ (v : FlowId). Seen v now → paused_in v tail ≡ risen l v move h) (flow_is f g same) (λ s. own_paused now s) seen)
        (λ other. other_paused g now other seen)

    resumed_of : (g : FlowId) (now : Flow) → Seen g now → lows new.gates g + resumed_in g tail ≡ lows old.gates g + drained l g move h
    resumed_of g now seen = by_case (same_flow f g)
        (λ same. subst (λ (v : FlowId). Seen v now → lows new.gates v + resumed_in v tail ≡ lows old.gates v + drained l v move h) (flow_is f g same) (λ s. own_resumed now s) seen)
        (λ other. other_resumed g now other seen)

    -- a flow of a number that wasn't given is another
    stranger : (g : FlowId) → old.exchanges.last < g.exchange → same_flow f g ≡ false
    stranger g lt = at (same_flow f g) refl
      where
        at : (b : Bool) → same_flow f g ≡ b → b ≡ false
        at true same = absurd (cc (sym (ap is_some (unborn_gone old c.sound f (subst (λ (v : FlowId). old.exchanges.last < v.exchange) (sym (flow_is f g same)) lt))) ∙ is_there_f))
          where
            is_there_f : is_some (flow_in old f) ≡ true
            is_there_f = of_some (flow_in old f) (there f old new o is changes m e (flow_in old f) refl)
              where
                of_some : (v : Option Flow) → IsSome v → is_some v ≡ true
                of_some None some = cc some
                of_some (Some x) some = refl
        at false other = refl

    told_of_it : (b : BufferId) → (pending_on new.gates b ≡ []) ⊎ MayLag t (late_of f m) b
    told_of_it b = at m.drained refl
      where
        kept : (pending_on old.gates b ≡ []) ⊎ MayLag t None b → pending_on new.gates b ≡ pending_on old.gates b → (pending_on new.gates b ≡ []) ⊎ MayLag t (late_of f m) b
        kept (inl none) same = inl (same ∙ none)
        kept (inr may) same = inr (more b may)
          where
            more : (d : BufferId) → MayLag t None d → MayLag t (late_of f m) d
            more (buffer.Write d) may = may
            more (buffer.Stage g p) may = cc
            more (buffer.Send g) may = absurd may
            more (buffer.Recv g) may = absurd may

        at : (d : Option BufferId) → m.drained ≡ d → (pending_on new.gates b ≡ []) ⊎ MayLag t (late_of f m) b
        at None d = kept (c.told b) (lows_at None d b)
        at (Some b0) d = by_case (same_buffer b b0)
            (λ same. by_overflow m.overflow refl same)
            (λ other. kept (c.told b) (lows_at (Some b0) d b ∙ ap (λ (v : Bool). if v then (if m.overflow then f ∷ [] else []) else pending_on old.gates b) other))
          where
            named_late : m.overflow ≡ true → late_of f m ≡ Some f.exchange
            named_late over = ap (λ (v : Bool). if v then Some f.exchange else None) over

            by_overflow : (v : Bool) → m.overflow ≡ v → same_buffer b b0 ≡ true → (pending_on new.gates b ≡ []) ⊎ MayLag t (late_of f m) b
            by_overflow false over same = inl (lows_at (Some b0) d b ∙ (λ i. if same i then (if over i then f ∷ [] else []) else pending_on old.gates b))
            by_overflow true over same = inr (subst (MayLag t (late_of f m)) (sym (buffer_is b b0 same)) (subst (MayLag t (late_of f m)) (drained_stage b0 d) (named_late over)))

    where_moved : (flow : Flow) → flow_in old f ≡ Some flow → FlowIs l f h flow → FlowGoes flow (stepped old.gates (goes_to old f) flow)
    where_moved flow found was = subst (FlowGoes flow) (sym (made f old new o is changes m e h flow found was).after_it) (moved_goes m.place m.n flow)

    -- octets left the receive buffer at count 0
    heeded : ((g : FlowId) → IfSome (flow_in old g) (FlowIs l g h)) → Heeds l move h
    heeded are = at (flow_in old f) refl (there f old new o is changes m e (flow_in old f) refl)
      where
        some_place : (p l : ℕ) → m.place ≡ p → m.place < l → p ≡ 0 → 0 < l
        some_place p l place before none = omega (arith, place, before, none)

        by_place : (flow : Flow) → flow_in old f ≡ Some flow → FlowIs l f h flow → IsStep f old.gates (goes_to old f) flow m → (p : ℕ) → m.place ≡ p → Heeds l (Noted (note.Move f p m.n)) h
        by_place flow found was k zero place = first_heeds conns old h c f flow found was m.n (subst (λ (p : ℕ). is_free old.gates (goes_to old f) flow p ≡ true) place k.free) (some_place zero (send_place flow) place k.before_last refl) (k.all ∙ ap (may_release old.gates flow) place)
        by_place flow found was k (suc p) place = tt

        at : (v : Option Flow) → flow_in old f ≡ v → IsSome v → Heeds l move h
        at None none some = absurd (cc some)
        at (Some flow) found some =
            let was : FlowIs l f h flow = subst (λ (v : Option Flow). IfSome v (FlowIs l f h)) found (are f) in
            by_place flow found was (made f old new o is changes m e h flow found was) m.place refl

    pub moves_go : ((g : FlowId) → IfSome (flow_in old g) (FlowIs l g h)) → CountsGo l t None t (late_of f m) conns conns old new move tail h
    moves_go are = record {
      sound = sound;
      flows_go = changed_go f (stepped old.gates (goes_to old f)) old new (λ flow found. where_moved flow found (subst (λ (v : Option Flow). IfSome v (FlowIs l f h)) found (are f))) changes;
      ways = λ g there. record { stages = refl; conn = refl; spared = refl };
      lives = λ x. c.living x ∙ sym (live_after f (stepped old.gates (goes_to old f)) old.exchanges new.exchanges changes x);
      writes = above_same l conns;
      marks = λ d. ap held (writes.writes d) ∙ c.marks d;
      known = λ d there. subst IsSome (sym (writes.writes d)) (c.known d there);
      told = told_of_it;
      turns = heeded are;
      holds = crossed_holds f m.rose m.drained m.overflow;
      quiet = λ g. (refl, refl);
      paused = paused_of;
      resumed = resumed_of;
      none = λ g lt. (
        crossed_pauses f g m.rose m.drained m.overflow ∙ (ap (λ (b : Bool). if is_some m.rose then one_if b else 0) (stranger g lt) ∙ if_none (is_some m.rose) refl),
        crossed_resumes f g m.rose m.drained m.overflow ∙ (ap (λ (b : Bool). if is_some m.drained && not m.overflow then one_if b else 0) (stranger g lt) ∙ if_none (is_some m.drained && not m.overflow) refl),
      );
    }

  -- the notes of a move are still to be noted
  pub moved_told : {k : Config} {l : Footing} {t : Option ℕ} → (conns : PagedMap Conn) (links : Links) → is_some (ends_of f.exchange links) ≡ is_live_in old f.exchange → (h : WayHistory) (g : ℕ → List ℕ) (start notes : List Note) → ToldBy k l t None h g start conns old links notes
      → ToldBy k l t (late_of f m) h g start conns new links (notes ++ moved_of f m)
  moved_told {k} {l} {t} conns links live h g start notes told =
      subst (λ (ns : List Note). ToldBy k l t (late_of f m) h g start conns new links (notes ++ note.Move f m.place m.n ∷ ns)) (shown_noted tail)
      (told_by {l = l} (move ∷ noted tail) (λ j d. holds_gone tail (crossed_holds f m.rose m.drained m.overflow) (move ∷ j) d) conns conns old new links links
      (record { ways = λ j s w. holds_ways l.config tail (crossed_holds f m.rose m.drained m.overflow) (move ∷ j) (there_given conns old links j f live (there f old new o is changes m e (flow_in old f) refl) s, w); rows = holds_rows tail })
      (λ j s. holds_stand tail (crossed_holds f m.rose m.drained m.overflow) conns new links (move ∷ j) (move_stands f old new o is changes m e sound conns links j s))
      (λ j s c. counts_go l.config.limits t None t (late_of f m) conns conns old new move tail j links links (moves_go conns j c s.flows_are) s (move_stands f old new o is changes m e sound conns links j s) c)
      h g start notes told)
