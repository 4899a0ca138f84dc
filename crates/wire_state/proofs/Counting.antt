-- A core goes on to count as its tape does, with a step and the pauses and resumes behind it.
use Rattle.exchange_core.specs.Changes.{ChangesFlow}
use Rattle.exchange_core.specs.Exchanges.{Exchanges, flow_at, target_of}
use Rattle.exchange_core.specs.Flow.{Flow}
use Rattle.filter_chain.specs.Place.{kind_of}
use Rattle.flow_gate.proofs.SameIds.{same_flow_exact}
use Rattle.flow_gate.specs.Board.{lows, pending_on, times, times_of_buffer, watched_by, watchers_of}
use Rattle.flow_gate.specs.Ids.{same_flow}
use Rattle.flow_rules.specs.declared.ids.BufferId.{BufferId}
use Rattle.flow_rules.specs.declared.ids.BufferId.TheVariants as buffer
use Rattle.flow_rules.specs.declared.ids.FlowId.{FlowId}
use Rattle.flow_laws.proofs.Flags.{flag_now}
use Rattle.flow_laws.proofs.Sources.{behind, sources_stay}
use Rattle.flow_laws.proofs.Spared.{spares}
use Rattle.flow_notes.specs.declared.notes.Note.{Note}
use Rattle.paged_map.specs.PagedMap.{PagedMap, WritesThrough, value_at}
use Rattle.proxy_config.specs.declared.config.LimitKeys.{LimitKeys}
use Rattle.std.proofs.Common.{ap, arith, inl, inr, refl, subst, sym, ◌∙◌}
use Rattle.std.proofs.lemmas.Bool.Decides.{nat_tests}
use Rattle.std.proofs.lemmas.Option.{same_Some}
use Rattle.std.specs.Option.{option_map, option_map_or}
use Rattle.std.specs.Prelude.{Bool, IfSome, IsSome, List, None, Option, Some, [], count_by, false, if◌then◌else◌, is_some, length, true, ℕ, ◌+◌, ◌<◌, ◌==◌, ◌∷◌, ◌≡◌, ◌⊎◌}
use Rattle.tape_laws.specs.Dispatches.{has, live}
use Rattle.tape_laws.specs.Pauses.{pauses, resumes}
use Rattle.tape_laws.specs.Sources.{disabled, source_buffers}
use Rattle.tape_laws.specs.Watermark.{above}
use Rattle.tape_laws.specs.World.{out}
use Rattle.wire_flows.proofs.Cases.{by_case}
use Rattle.wire_flows.proofs.Found.{flow_after, target_after}
use Rattle.wire_flows.specs.Flows.{Flows, flow_in, goes_to, is_live_in, is_there}
use Rattle.wire_flows.specs.Sound.{IsSound, buffer_of}
use Rattle.wire_flows.specs.Writes.{write_at}
use Rattle.wire_links.specs.Links.{Links}
use Rattle.wire_state.proofs.Holding.{AreHolds, IsAlike, holds_alike, holds_paused, holds_resumed, holds_turns, noted, paused_in, resumed_in}
use Rattle.wire_state.proofs.Overs.{FlowGoes, over_then, still_goes}
use Rattle.wire_state.proofs.Promised.{same_out}
use Rattle.wire_state.proofs.Rising.{disabled_goes, drained, risen}
use Rattle.wire_state.proofs.Standing.{other_now, there_now}
use Rattle.wire_state.proofs.Watching.{lows_same, watchers_count, watches}
use Rattle.wire_state.specs.Counts.{AreOver, Counts, Heeds, IsCounted, MayLag, holds_back, is_above_at}
use Rattle.wire_state.specs.Tapes.{conn_to, tape_setup}
use Rattle.wire_state.specs.Ways.{WayHistory, WayStep, after, stages_passed}
use Rattle.wire_state.specs.Worlds.{FlowIs, Stands, has_conn, octets_of}
use Rattle.wire_state.specs.declared.conn.Conn.{Conn}
use Rattle.wm_buffer.specs.Watermark.{above_after}

-- ---- flows
-- each flow that is there was there, and its places go on; it goes where it went
pub record FlowsGo (old new : Flows) : Type 0 where
  pub last : new.exchanges.last ≡ old.exchanges.last
  pub each : (f : FlowId) (flow : Flow) → flow_in new f ≡ Some flow → (was : Flow) × (flow_in old f ≡ Some was) × FlowGoes was flow
  pub goes : (f : FlowId) → is_there new f ≡ true → goes_to new f ≡ goes_to old f

pub same_go : (old new : Flows) → new.exchanges ≡ old.exchanges → FlowsGo old new
same_go old new e = record {
  last = ap (λ (x : Exchanges). x.last) e;
  each = λ f flow found. (flow, ap (λ (x : Exchanges). flow_at x f) (sym e) ∙ found, still_goes flow flow refl);
  goes = λ f there. ap (λ (x : Exchanges). target_of x f) e;
}

pub changed_go : (f : FlowId) (change : Flow → Flow) (old new : Flows) → ((flow : Flow) → flow_in old f ≡ Some flow → FlowGoes flow (change flow)) → ChangesFlow f change old.exchanges new.exchanges → FlowsGo old new
changed_go f change old new goes c = record {
  last = c.flow.last;
  each = λ g flow found. by_case (same_flow f g)
      (λ same. mine g flow (same_flow_exact f g same) (sym (now g ∙ ap (λ b. if b then option_map change (flow_in old g) else flow_in old g) same) ∙ found))
      (λ other. (flow, sym (now g ∙ ap (λ b. if b then option_map change (flow_in old g) else flow_in old g) other) ∙ found, still_goes flow flow refl));
  goes = λ g there. target_after f change old.exchanges new.exchanges c g;
}
  where
    now : (g : FlowId) → flow_in new g ≡ (if same_flow f g then option_map change (flow_in old g) else flow_in old g)
    now g = flow_after f change old.exchanges new.exchanges c g

    mapped : (g : FlowId) (flow : Flow) → ((v : Flow) → flow_in old g ≡ Some v → FlowGoes v (change v)) → (o : Option Flow) → flow_in old g ≡ o → option_map change o ≡ Some flow → (was : Flow) × (flow_in old g ≡ Some was) × FlowGoes was flow
    mapped g flow does None is e = cc
    mapped g flow does (Some v) is e = (v, is, subst (FlowGoes v) (same_Some (change v) flow e) (does v is))

    mine : (g : FlowId) (flow : Flow) → f ≡ g → option_map change (flow_in old g) ≡ Some flow → (was : Flow) × (flow_in old g ≡ Some was) × FlowGoes was flow
    mine g flow same e = mapped g flow (subst (λ (v : FlowId). (x : Flow) → flow_in old v ≡ Some x → FlowGoes x (change x)) same goes) (flow_in old g) refl e

-- ---- write buffers
-- of a connection nothing changed, or its octets did
abbrev pub AboveGoes : LimitKeys → PagedMap Conn → PagedMap Conn → ℕ → Type 0
AboveGoes l old new c = ((is_above_at c new ≡ is_above_at c old) × (octets_of c new ≡ octets_of c old)) ⊎ (is_above_at c new ≡ above_after l.write_buffer (is_above_at c old) (length (octets_of c new)))

pub above_same : (l : LimitKeys) (conns : PagedMap Conn) (c : ℕ) → AboveGoes l conns conns c
above_same l conns c = inl (refl, refl)

abbrev above_in : Option Conn → Bool
above_in o = option_map_or (λ conn. conn.outlet.write.above) o false

abbrev octets_in : Option Conn → List ℕ
octets_in o = option_map_or (λ conn. conn.outlet.write.octets) o []

-- one was written through
pub above_written : (l : LimitKeys) (n : ℕ) (old new : PagedMap Conn) (v w : Conn) (found : value_at n old ≡ Some v) (written : WritesThrough n old w new)
    → (w.outlet.write.above ≡ above_after l.write_buffer v.outlet.write.above (length w.outlet.write.octets)) → (c : ℕ) → AboveGoes l old new c
above_written l n old new v w found written goes c = by_case (n == c)
    (λ e. inr (ap above_in (there_now n old new v w found written c e) ∙ (goes ∙ (λ i. above_after l.write_buffer (sym (was c e) i) (length (sym (ap octets_in (there_now n old new v w found written c e)) i))))))
    (λ e. inl (ap above_in (other_now n old new v w found written c e), ap octets_in (other_now n old new v w found written c e)))
  where
    is_it : (a b : ℕ) → (a == b) ≡ true → a ≡ b
    is_it a b e = grind (arith, nat_tests)

    was : (c : ℕ) → (n == c) ≡ true → is_above_at c old ≡ v.outlet.write.above
    was c e = ap (λ d. is_above_at d old) (sym (is_it n c e)) ∙ ap above_in found

abbrev waits_at : LimitKeys → ℕ → WayHistory → List ℕ
waits_at l c h = out (tape_setup l) c h

pub over_now : (l : LimitKeys) (old new : PagedMap Conn) (step : WayStep) (h : WayHistory) (c : ℕ) → AboveGoes l old new c → is_above_at c old ≡ above (tape_setup l) (buffer.Write c) h
    → octets_of c old ≡ waits_at l c h → octets_of c new ≡ waits_at l c (step ∷ h) → is_above_at c new ≡ above (tape_setup l) (buffer.Write c) (step ∷ h)
over_now l old new step h c (inl (same, octets)) over was is =
    same ∙ (over ∙ (sym (flag_now (tape_setup l) (buffer.Write c) h) ∙ (λ i. above_after l.write_buffer (above (tape_setup l) (buffer.Write c) h) (length ((sym was ∙ (sym octets ∙ is)) i)))))
over_now l old new step h c (inr goes) over was is = goes ∙ (λ i. above_after l.write_buffer (over i) (length (is i)))

-- ---- one step, and pauses and resumes behind it
-- what a step leaves of a flow's way
pub record WayStays (step : WayStep) (h : WayHistory) (f : FlowId) : Type 0 where
  pub stages : stages_passed f (step ∷ h) ≡ stages_passed f h
  pub conn : conn_to f (step ∷ h) ≡ conn_to f h
  pub spared : spares f step ≡ true

module _ (l : LimitKeys) (t u t' u' : Option ℕ) (conns conns' : PagedMap Conn) (flows flows' : Flows) (step : WayStep) (tail : List Note) (h : WayHistory) where
  -- a flow that is there, before the step and after it
  pub record IsSeen (f : FlowId) (flow : Flow) : Type 0 where
    pub found : flow_in flows' f ≡ Some flow
    pub was : Flow
    pub found_was : flow_in flows f ≡ Some was
    pub is_was : FlowIs l f h was
    pub is_now : FlowIs l f (step ∷ h) flow
    pub over_was : AreOver l f h was
    pub over_is : AreOver l f (step ∷ h) flow
    pub goes_was : goes_to flows f ≡ conn_to f h
    pub goes_is : goes_to flows' f ≡ conn_to f (step ∷ h)
    pub way : WayStays step h f

  pub record CountsGo : Type 0 where
    pub sound : IsSound flows'
    pub flows_go : FlowsGo flows flows'
    pub ways : (f : FlowId) → is_there flows' f ≡ true → WayStays step h f
    pub lives : (x : ℕ) → has (live (step ∷ h)) x ≡ is_live_in flows' x
    pub writes : (c : ℕ) → AboveGoes l conns conns' c
    pub marks : (c : ℕ) → holds_back c flows' ≡ is_above_at c conns'
    pub known : (c : ℕ) → has_conn c conns' ≡ true → IsSome (write_at c flows')
    pub told : (b : BufferId) → (pending_on flows'.gates b ≡ []) ⊎ MayLag t' u' b
    pub turns : Heeds l step h
    -- the pauses are of flows of which a source rises, and the resumes of flows of which one drains or drained
    pub holds : AreHolds tail
    pub quiet : (f : FlowId) → (pauses f (step ∷ h) ≡ pauses f h) × (resumes f (step ∷ h) ≡ resumes f h)
    pub paused : (f : FlowId) (flow : Flow) → IsSeen f flow → paused_in f tail ≡ risen l f step h
    pub resumed : (f : FlowId) (flow : Flow) → IsSeen f flow → lows flows'.gates f + resumed_in f tail ≡ lows flows.gates f + drained l f step h
    pub none : (f : FlowId) → flows.exchanges.last < f.exchange → (paused_in f tail ≡ 0) × (resumed_in f tail ≡ 0)

  pub counts_go : (links links' : Links) → CountsGo → Stands l conns flows links h → Stands l conns' flows' links' (step ∷ h) → Counts l t u conns flows h → Counts l t' u' conns' flows' (after (noted tail) (step ∷ h))
  counts_go links links' go s s' c = record {
    sound = go.sound;
    each = λ f. each f (flow_in flows' f) refl;
    unpaused = λ f lt.
        let above_last = subst (λ (n : ℕ). n < f.exchange) go.flows_go.last lt in
        let was = c.unpaused f above_last in
        let few = go.none f above_last in
        (holds_paused f tail go.holds (step ∷ h) ∙ sum_none _ _ _ (go.quiet f).0 was.0 few.0, holds_resumed f tail go.holds (step ∷ h) ∙ sum_none _ _ _ (go.quiet f).1 was.1 few.1);
    living = λ x. ap (λ (xs : List ℕ). has xs x) alike.live_as ∙ go.lives x;
    over = λ d. over_now l conns conns' step h d (go.writes d) (c.over d) (s.writes d ∙ sym (same_out l d h)) (s'.writes d ∙ sym (same_out l d (step ∷ h))) ∙ sym (alike.above_as (buffer.Write d));
    marks = go.marks;
    known = go.known;
    told = go.told;
    turns = holds_turns l tail go.holds (step ∷ h) (go.turns, c.turns);
  }
    where
      k : WayHistory
      k = after (noted tail) (step ∷ h)

      alike : IsAlike l (step ∷ h) k
      alike = holds_alike tail go.holds (step ∷ h)

      sum_none : (a b n : ℕ) → a ≡ b → b ≡ 0 → n ≡ 0 → a + n ≡ 0
      sum_none a b n e1 e2 e3 = omega (arith, e1, e2, e3)

      balance : (p p0 r r0 q m d0 d1 d2 up down w0 w1 : ℕ) → p ≡ p0 + q → r ≡ r0 + m → p0 ≡ r0 + (d0 + w0) → d2 ≡ d1 → d1 + down ≡ d0 + up → q ≡ up → w1 + m ≡ w0 + down → p ≡ r + (d2 + w1)
      balance p p0 r r0 q m d0 d1 d2 up down w0 w1 e1 e2 e3 e4 e5 e6 e7 = omega (arith, e1, e2, e3, e4, e5, e6, e7)

      sources_alike : (f : FlowId) → source_buffers (tape_setup l) f k ≡ source_buffers (tape_setup l) f (step ∷ h)
      sources_alike f = λ i. behind f 1 (alike.stages_as f i) (length (alike.stages_as f i) + 1 + 1) (alike.conn_as f i)

      disabled_alike : (f : FlowId) → disabled (tape_setup l) f k ≡ disabled (tape_setup l) f (step ∷ h)
      disabled_alike f = λ i. count_by (λ b. alike.above_as b i) (sources_alike f i)

      each : (f : FlowId) (o : Option Flow) → flow_in flows' f ≡ o → IfSome o (IsCounted l flows' f k)
      each f None found = tt
      each f (Some flow) found =
          let was = go.flows_go.each f flow found in
          let old = was.0 in
          let counted : IsCounted l flows f h old = subst (λ (o : Option Flow). IfSome o (IsCounted l flows f h)) was.1 (c.each f) in
          let is_old : FlowIs l f h old = subst (λ (o : Option Flow). IfSome o (FlowIs l f h)) was.1 (s.flows_are f) in
          let is_new : FlowIs l f (step ∷ h) flow = subst (λ (o : Option Flow). IfSome o (FlowIs l f (step ∷ h))) found (s'.flows_are f) in
          let there : is_there flows' f ≡ true = ap is_some found in
          let way = go.ways f there in
          let over : AreOver l f (step ∷ h) flow = over_then l f step h old flow is_old is_new was.2 counted.over in
          let goes : goes_to flows' f ≡ conn_to f (step ∷ h) = go.flows_go.goes f there ∙ (counted.goes ∙ sym way.conn) in
          let seen : IsSeen f flow = record { found = found; was = old; found_was = was.1; is_was = is_old; is_now = is_new; over_was = counted.over; over_is = over; goes_was = counted.goes; goes_is = goes; way = way } in
          record {
            paused = balance _ _ _ _ _ _ _ _ _ _ _ _ _
                (holds_paused f tail go.holds (step ∷ h) ∙ ap (λ (n : ℕ). n + paused_in f tail) (go.quiet f).0)
                (holds_resumed f tail go.holds (step ∷ h) ∙ ap (λ (n : ℕ). n + resumed_in f tail) (go.quiet f).1)
                counted.paused (disabled_alike f) (disabled_goes l f step h way.stages way.spared way.conn) (go.paused f flow seen) (go.resumed f flow seen);
            over = λ p x at source. over p x at source ∙ sym (alike.above_as (buffer_of f p (kind_of x.kind)));
            goes = goes ∙ sym (alike.conn_as f);
          }

  -- it watches what it watched
  pub watched_stays : IsSound flows → IsSound flows' → (f : FlowId) (flow : Flow) → IsSeen f flow → watched_by flows'.gates f ≡ watched_by flows.gates f
  watched_stays sound sound' f flow seen =
      watches l flows' (step ∷ h) sound' f flow seen.found seen.is_now seen.goes_is
      ∙ (sources_stay (tape_setup l) f h step seen.way.stages seen.way.conn ∙ sym (watches l flows h sound f seen.was seen.found_was seen.is_was seen.goes_was))

  -- it is among the watchers of a buffer as often as that was among its sources
  pub watchers_were : IsSound flows' → (f : FlowId) (flow : Flow) → IsSeen f flow → (b : BufferId) → times f (watchers_of flows'.gates b) ≡ times_of_buffer b (source_buffers (tape_setup l) f h)
  watchers_were sound' f flow seen b = watchers_count l flows' (step ∷ h) sound' f flow seen.found seen.is_now seen.goes_is b ∙ ap (times_of_buffer b) (sources_stay (tape_setup l) f h step seen.way.stages seen.way.conn)

  -- where nobody else is to be told
  pub lows_stay : IsSound flows → IsSound flows' → ((b : BufferId) → pending_on flows'.gates b ≡ pending_on flows.gates b) → (f : FlowId) (flow : Flow) → IsSeen f flow → lows flows'.gates f ≡ lows flows.gates f
  lows_stay sound sound' same f flow seen = lows_same f flows.gates flows'.gates (watched_stays sound sound' f flow seen) same
