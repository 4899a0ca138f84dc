-- Where the gates let a flow be read, its count is 0 by its tape too.
use Rattle.exchange_core.specs.Exchange.{IsFlowOf}
use Rattle.exchange_core.specs.Flow.{Flow, last_place}
use Rattle.exchange_core.specs.Moves.{is_free, may_release}
use Rattle.filter_chain.specs.Place.{Place, is_source, kind_of}
use Rattle.filter_chain.specs.declared.stage.StageKind.{StageKind as PlaceKind}
use Rattle.filter_chain.specs.declared.stage.StageKind.TheVariants as kind
use Rattle.flow_gate.specs.Board.{Board, count, is_known, is_marked, lows, pending_on, watched_by}
use Rattle.flow_laws.proofs.Lists.{count_cons, one_if}
use Rattle.flow_rules.specs.Kinds.{Kind}
use Rattle.flow_rules.specs.Sources.{SourceAt, sources_from, write_source}
use Rattle.flow_rules.specs.declared.ids.BufferId.{BufferId}
use Rattle.flow_rules.specs.declared.ids.BufferId.TheVariants as buffer
use Rattle.flow_rules.specs.declared.ids.FlowId.{FlowId}
use Rattle.paged_map.specs.PagedMap.{PagedMap}
use Rattle.proxy_config.specs.declared.config.LimitKeys.{LimitKeys}
use Rattle.std.proofs.Common.{ap, arith, refl, subst, sym, ◌∙◌}
use Rattle.std.specs.List.{AllByRecursion}
use Rattle.std.specs.Option.{option_map_or}
use Rattle.std.specs.Prelude.{Bool, IfSome, List, None, Option, Some, [], count_by, false, if◌then◌else◌, length, map, min, slice_get, suc, true, zero, ℕ, ◌++◌, ◌+◌, ◌-◌, ◌<◌, ◌==◌, ◌∷◌, ◌≡◌}
use Rattle.tape_laws.specs.Pauses.{count as count_at, pauses, resumes}
use Rattle.tape_laws.specs.Sources.{disabled, source_buffers}
use Rattle.tape_laws.specs.Watermark.{above}
use Rattle.wire_flows.proofs.Boards.{unknown_low, write_of, write_seen}
use Rattle.wire_flows.proofs.Cases.{by_case}
use Rattle.wire_flows.proofs.Found.{flow_is}
use Rattle.wire_flows.proofs.Freed.{some_released}
use Rattle.wire_flows.specs.Flows.{Flows, flow_in, goes_to, watches_of}
use Rattle.wire_flows.specs.Sound.{MarksAre, buffer_of}
use Rattle.wire_flows.specs.Writes.{Write, write_at}
use Rattle.wire_state.proofs.Held.{is_number}
use Rattle.wire_state.proofs.Watching.{watches}
use Rattle.wire_state.specs.Counts.{Counts, IsCounted, LeavesFirst}
use Rattle.wire_state.specs.Tapes.{conn_to, tape_setup}
use Rattle.wire_state.specs.Ways.{WayHistory}
use Rattle.wire_state.specs.Worlds.{FlowIs}
use Rattle.wire_state.specs.declared.conn.Conn.{Conn}

-- ---- what holds of each source of a flow
module _ (P : BufferId → Type 0) (f : FlowId) where
  abbrev buffers : List SourceAt → List BufferId
  buffers sources = map (λ s. s.buffer) sources

  abbrev kinds : List Place → List Kind
  kinds places = map (λ x. kind_of x.kind) places

  -- of the Meter or send buffer at this place
  abbrev AtPlace : ℕ → Place → Type 0
  AtPlace p x = is_source x.kind ≡ true → P (buffer_of f p (kind_of x.kind))

  first_place : (q : ℕ) → q + 0 ≡ q
  first_place q = omega arith

  later_place : (q i : ℕ) → q + suc i ≡ (q + 1) + i
  later_place q i = omega arith

  -- of those from place q on, and of the others behind them
  each_source : (q : ℕ) (places : List Place) → ((i : ℕ) (x : Place) → slice_get places i ≡ Some x → AtPlace (q + i) x) → (rest : List SourceAt) → AllByRecursion P (buffers rest)
      → AllByRecursion P (buffers (sources_from f q (kinds places) ++ rest))
  each_source q [] each rest all = all
  each_source q (x ∷ xs) each rest all =
      at x.kind refl (each_source (q + 1) xs (λ i y found. subst (λ p. AtPlace p y) (later_place q i) (each (suc i) y found)) rest all)
    where
      first : AtPlace q x
      first = subst (λ p. AtPlace p x) (first_place q) (each 0 x refl)

      at : (k : PlaceKind) → x.kind ≡ k → AllByRecursion P (buffers (sources_from f (q + 1) (kinds xs) ++ rest)) → AllByRecursion P (buffers (sources_from f q (kind_of k ∷ kinds xs) ++ rest))
      at kind.Hold e more = more
      at (kind.Meter rate) e more = (subst (λ (k : PlaceKind). is_source k ≡ true → P (buffer_of f q (kind_of k))) e first refl, more)
      at kind.Send e more = (subst (λ (k : PlaceKind). is_source k ≡ true → P (buffer_of f q (kind_of k))) e first refl, more)

-- as many pass by one question as by another that answers the same
counts_same : (p q : BufferId → Bool) (bs : List BufferId) → AllByRecursion (λ b. p b ≡ q b) bs → count_by p bs ≡ count_by q bs
counts_same p q [] all = refl
counts_same p q (b ∷ bs) all = count_cons p b bs ∙ ((λ i. one_if (all.0 i) + counts_same p q bs all.1 i) ∙ sym (count_cons q b bs))

module _ {l : LimitKeys} {t u : Option ℕ} (conns : PagedMap Conn) (flows : Flows) (h : WayHistory) (c : Counts l t u conns flows h)
    (f : FlowId) (flow : Flow) (found : flow_in flows f ≡ Some flow) (is : FlowIs l f h flow) where
  abbrev AreAlike : BufferId → Type 0
  AreAlike b = is_marked flows.gates b ≡ above (tape_setup l) b h

  counted : IsCounted l flows f h flow
  counted = subst (λ (o : Option Flow). IfSome o (IsCounted l flows f h)) found (c.each f)

  marks : MarksAre flows.gates flow
  marks = subst (λ (o : Option Flow). IfSome o (MarksAre flows.gates)) found (c.sound.marks f)

  own : flow.chain.flow ≡ f
  own = let o : IsFlowOf f.exchange f.back flows.exchanges.time flow = flow_is flows.exchanges f flow c.sound.exchanges found in o.own

  -- its Meters and its send buffer
  place_alike : (i : ℕ) (x : Place) → slice_get flow.chain.places i ≡ Some x → is_source x.kind ≡ true → AreAlike (buffer_of flow.chain.flow (1 + i) (kind_of x.kind))
  place_alike i x at source = subst (λ (p : ℕ). AreAlike (buffer_of flow.chain.flow p (kind_of x.kind))) (next_place i)
      (marks.each (suc i) x at source ∙ (counted.over (suc i) x at source ∙ ap (λ (g : FlowId). above (tape_setup l) (buffer_of g (suc i) (kind_of x.kind)) h) (sym own)))
    where
      next_place : (i : ℕ) → suc i ≡ 1 + i
      next_place i = omega arith

  -- the write buffer of a connection
  write_alike : (d : ℕ) → AreAlike (buffer.Write d)
  write_alike d = by_case (is_known flows.gates (buffer.Write d))
      (λ known. sym (seen true known) ∙ (c.marks d ∙ c.over d))
      (λ none. unknown_low flows.gates (buffer.Write d) none ∙ (sym (seen false none) ∙ (c.marks d ∙ c.over d)))
    where
      held : Option Write → Bool
      held o = option_map_or (λ w. w.above) o false

      seen : (b : Bool) → is_known flows.gates (buffer.Write d) ≡ b → held (write_at d flows) ≡ held (write_of b (is_marked flows.gates (buffer.Write d)) (pending_on flows.gates (buffer.Write d)))
      seen b e = ap held (write_seen d flows) ∙ ap (λ (b : Bool). held (write_of b (is_marked flows.gates (buffer.Write d)) (pending_on flows.gates (buffer.Write d)))) e

  goal_alike : (w : ℕ) (to : Option ℕ) → AllByRecursion AreAlike (map (λ s. s.buffer) (write_source w to))
  goal_alike w None = tt
  goal_alike w (Some d) = (write_alike d, tt)

  all_alike : AllByRecursion AreAlike (watched_by flows.gates f)
  all_alike = subst (AllByRecursion AreAlike) (sym (c.sound.watched f ∙ ap (λ (o : Option Flow). option_map_or (watches_of (goes_to flows f)) o []) found))
      (each_source AreAlike flow.chain.flow 1 flow.chain.places place_alike (write_source (last_place flow + 1) (goes_to flows f)) (goal_alike (last_place flow + 1) (goes_to flows f)))

  -- as many of its sources are above as the gates say
  above_marked : disabled (tape_setup l) f h ≡ count_by (is_marked flows.gates) (watched_by flows.gates f)
  above_marked = sym (counts_same (is_marked flows.gates) (λ b. above (tape_setup l) b h) (watched_by flows.gates f) all_alike
      ∙ ap (count_by (λ b. above (tape_setup l) b h)) (watches l flows h c.sound f flow found is counted.goes))

  -- its count is that of the gates
  pub count_is : count_at f h ≡ count flows.gates f
  count_is = left (pauses f h) (resumes f h) (disabled (tape_setup l) f h) (lows flows.gates f) (count_by (is_marked flows.gates) (watched_by flows.gates f)) (count flows.gates f) counted.paused above_marked (c.sound.gates.counted f)
    where
      left : (a b d w m n : ℕ) → a ≡ b + (d + w) → d ≡ m → n ≡ m + w → a - b ≡ n
      left a b d w m n e i j = omega (arith, e, i, j)

  -- so octets leave its receive buffer at count 0, all that it may let go at once
  pub first_heeds : (n : ℕ) → is_free flows.gates (goes_to flows f) flow 0 ≡ true → 0 < last_place flow → n ≡ may_release flows.gates flow 0 → LeavesFirst l f n h
  first_heeds n free some all =
      let none = readable (count flows.gates flow.chain.flow) (some_released flows.gates (goes_to flows f) flow 0 free some) in
      record {
        readable = count_is ∙ (ap (count flows.gates) (sym own) ∙ none);
        all = all ∙ (ap (λ (k : ℕ). if k == 0 then min flow.chain.quantum (length flow.recv) else 0) none ∙ (λ i. min (is.shape.quantum i) (length (is.holds 0 i))));
      }
    where
      readable : (n : ℕ) → 0 < (if n == 0 then min flow.chain.quantum (length flow.recv) else 0) → n ≡ 0
      readable n some = at (n == 0) refl some
        where
          at : (b : Bool) → (n == 0) ≡ b → 0 < (if b then min flow.chain.quantum (length flow.recv) else 0) → n ≡ 0
          at true e some = is_number n 0 e
          at false e some = absurd (omega (arith, some))
