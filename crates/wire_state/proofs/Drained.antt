-- What the counts are where octets left a write buffer, which drained by that or didn't.
use Rattle.exchange_core.specs.Exchanges.{Exchanges, is_live}
use Rattle.exchange_core.specs.Flow.{Flow}
use Rattle.flow_gate.proofs.SameIds.{same_buffer_exact}
use Rattle.flow_gate.specs.Board.{is_known, is_marked, lows, pending_on, times, times_of_buffer, watched_by}
use Rattle.flow_gate.specs.Ids.{same_buffer}
use Rattle.flow_rules.specs.declared.ids.BufferId.{BufferId}
use Rattle.flow_rules.specs.declared.ids.BufferId.TheVariants as buffer
use Rattle.flow_rules.specs.declared.ids.FlowId.{FlowId}
use Rattle.flow_laws.proofs.Flags.{no_rise}
use Rattle.flow_notes.specs.declared.notes.Note.{Note}
use Rattle.flow_laws.proofs.Lists.{one_if}
use Rattle.paged_map.specs.PagedMap.{PagedMap, WritesThrough, value_at}
use Rattle.proxy_config.specs.declared.config.LimitKeys.{LimitKeys}
use Rattle.std.proofs.Common.{ap, arith, inl, inr, refl, subst, sym, ◌∙◌}
use Rattle.std.proofs.lemmas.Bool.Decides.{nat_tests}
use Rattle.std.specs.Option.{option_map, option_map_or}
use Rattle.std.specs.Prelude.{Bool, IsSome, List, None, Option, Some, [], false, if◌then◌else◌, is_some, length, not, sum_by, true, ℕ, ◌&&◌, ◌+◌, ◌==◌, ◌∷◌, ◌≡◌, ◌≤◌, ◌⊎◌}
use Rattle.tape_laws.specs.Dispatches.{has, live}
use Rattle.tape_laws.specs.Pauses.{pauses, resumes}
use Rattle.tape_laws.specs.Sources.{source_buffers}
use Rattle.tape_laws.specs.Watermark.{above, drains_at}
use Rattle.tape_laws.specs.World.{out}
use Rattle.wire_flows.proofs.Boards.{write_of, write_seen}
use Rattle.wire_flows.proofs.Cases.{by_case}
use Rattle.wire_flows.specs.Flows.{Flows}
use Rattle.wire_flows.specs.Writes.{Write, watchers_on, write_at}
use Rattle.wire_links.specs.Links.{Links}
use Rattle.wire_state.proofs.Counted.{none_lags}
use Rattle.wire_state.proofs.Counting.{AboveGoes, CountsGo, IsSeen, WayStays, above_written, over_now, same_go, watched_stays}
use Rattle.wire_state.proofs.Held.{is_number}
use Rattle.wire_state.proofs.Promised.{same_out}
use Rattle.wire_state.proofs.Rising.{drained, eased_at, of_one, risen}
use Rattle.wire_state.proofs.Standing.{other_now, there_now}
use Rattle.wire_state.proofs.Watching.{lows_more, watches}
use Rattle.wire_state.specs.Counts.{Counts, Frees, Heeds, MayLag, eased, holds_back, is_above_at}
use Rattle.wire_state.specs.Tapes.{tape_setup}
use Rattle.wire_state.specs.Ways.{WayHistory, WayStep}
use Rattle.wire_state.specs.Worlds.{Stands, has_conn}
use Rattle.wire_state.specs.declared.conn.Conn.{Conn}
use Rattle.wm_buffer.specs.Watermark.{above_after}

-- ---- one write buffer of the gates
-- it is above as its octets are, and these are to be told
abbrev lowers : List FlowId → Write → Bool → Write
lowers ws k b = if b then record { above = false; lows = ws } else k

pub eased_above : (dr : Bool) (ws : List FlowId) (k : Write) (va wa : Bool) → k.above ≡ va → k.lows ≡ [] → (va ≡ true → wa ≡ false → dr ≡ true) → (wa ≡ true → dr ≡ false) → (va ≡ false → wa ≡ false) → (eased dr ws k).above ≡ wa
eased_above true ws k true true a none must may low = absurd (cc (may refl))
eased_above true ws k true false a none must may low = λ i. (lowers ws k (a i && (length (none i) == 0))).above
eased_above true ws k false wa a none must may low = (λ i. (lowers ws k (a i && (length k.lows == 0))).above) ∙ (a ∙ sym (low refl))
eased_above false ws k true true a none must may low = a
eased_above false ws k true false a none must may low = absurd (cc (must refl refl))
eased_above false ws k false wa a none must may low = a ∙ sym (low refl)

pub eased_lows : (dr : Bool) (ws : List FlowId) (k : Write) (va wa : Bool) → k.above ≡ va → k.lows ≡ [] → (va ≡ true → wa ≡ false → dr ≡ true) → (wa ≡ true → dr ≡ false) → (eased dr ws k).lows ≡ (if va && not wa then ws else [])
eased_lows true ws k true true a none must may = absurd (cc (may refl))
eased_lows true ws k true false a none must may = λ i. (lowers ws k (a i && (length (none i) == 0))).lows
eased_lows true ws k false wa a none must may = (λ i. (lowers ws k (a i && (length k.lows == 0))).lows) ∙ none
eased_lows false ws k true true a none must may = none
eased_lows false ws k true false a none must may = absurd (cc (must refl refl))
eased_lows false ws k false wa a none must may = none

abbrev held : Option Write → Bool
held o = option_map_or (λ k. k.above) o false

abbrev told_in : Option Write → List FlowId
told_in o = option_map_or (λ k. k.lows) o []

-- what is pending of a known one
pub lows_seen : (c : ℕ) (flows : Flows) → IsSome (write_at c flows) → told_in (write_at c flows) ≡ pending_on flows.gates (buffer.Write c)
lows_seen c flows some = at (is_known flows.gates (buffer.Write c)) (write_seen c flows) some
  where
    at : (b : Bool) → write_at c flows ≡ write_of b (is_marked flows.gates (buffer.Write c)) (pending_on flows.gates (buffer.Write c)) → IsSome (write_at c flows) → told_in (write_at c flows) ≡ pending_on flows.gates (buffer.Write c)
    at true e some = ap told_in e
    at false e some = absurd (cc (subst IsSome e some))

mapped_some : (f : Write → Write) (o : Option Write) → IsSome o → IsSome (option_map f o)
mapped_some f None some = cc some
mapped_some f (Some k) some = refl

module _ {l : LimitKeys} (n : ℕ) (old new : PagedMap Conn) (v w : Conn) (found : value_at n old ≡ Some v) (written : WritesThrough n old w new) (dr : Bool) (flows flows' : Flows)
    (frees : Frees n dr v.outlet.write w.outlet.write flows flows') (limit : v.outlet.write.limit ≡ l.write_buffer) (h : WayHistory) (c : Counts l None None old flows h) where
  pub frees_writes : (d : ℕ) → AboveGoes l old new d
  frees_writes = above_written l n old new v w found written (frees.above ∙ ap (λ (k : ℕ). above_after k v.outlet.write.above (length w.outlet.write.octets)) limit)

  abbrev above_in : Option Conn → Bool
  above_in o = option_map_or (λ conn. conn.outlet.write.above) o false

  was_above : is_above_at n old ≡ v.outlet.write.above
  was_above = ap above_in found

  self : (n == n) ≡ true
  self = grind (arith, nat_tests)

  now_above : is_above_at n new ≡ w.outlet.write.above
  now_above = ap above_in (there_now n old new v w found written n self)

  known_here : IsSome (write_at n flows)
  known_here = c.known n (ap is_some found)

  none_before : (b : BufferId) → pending_on flows.gates b ≡ []
  none_before b = none_lags (pending_on flows.gates b) b (c.told b)

  own_write : (d : ℕ) → (n == d) ≡ true → write_at d flows' ≡ option_map (eased dr (watchers_on n flows)) (write_at n flows)
  own_write d e = frees.writes.writes d ∙ ap (λ b. if b then option_map (eased dr (watchers_on n flows)) (write_at n flows) else write_at d flows) e

  other_write : (d : ℕ) → (n == d) ≡ false → write_at d flows' ≡ write_at d flows
  other_write d e = frees.writes.writes d ∙ ap (λ b. if b then option_map (eased dr (watchers_on n flows)) (write_at n flows) else write_at d flows) e

  pub frees_known : (d : ℕ) → has_conn d new ≡ true → IsSome (write_at d flows')
  frees_known d there = by_case (n == d)
      (λ e. subst IsSome (sym (own_write d e)) (mapped_some (eased dr (watchers_on n flows)) (write_at n flows) known_here))
      (λ e. subst IsSome (sym (other_write d e)) (c.known d (sym (ap is_some (other_now n old new v w found written d e)) ∙ there)))

  pub frees_told : (b : BufferId) → (pending_on flows'.gates b ≡ []) ⊎ MayLag (Some n) None b
  frees_told (buffer.Write d) = by_case (n == d)
      (λ e. inr (ap (λ (k : ℕ). Some k) (is_number n d e)))
      (λ e. inl (frees.lows.lows (buffer.Write d) e ∙ none_before (buffer.Write d)))
  frees_told (buffer.Send f) = inl (frees.lows.lows (buffer.Send f) refl ∙ none_before (buffer.Send f))
  frees_told (buffer.Recv f) = inl (frees.lows.lows (buffer.Recv f) refl ∙ none_before (buffer.Recv f))
  frees_told (buffer.Stage f i) = inl (frees.lows.lows (buffer.Stage f i) refl ∙ none_before (buffer.Stage f i))

  -- where none came, one that wasn't above isn't
  module _ (links links' : Links) (step : WayStep) (s : Stands l old flows links h) (s' : Stands l new flows' links' (step ∷ h)) (less : length (out (tape_setup l) n (step ∷ h)) ≤ length (out (tape_setup l) n h)) where
    before : above (tape_setup l) (buffer.Write n) h ≡ v.outlet.write.above
    before = sym (c.over n) ∙ was_above

    after_is : above (tape_setup l) (buffer.Write n) (step ∷ h) ≡ w.outlet.write.above
    after_is = sym (over_now l old new step h n (frees_writes n) (c.over n) (s.writes n ∙ sym (same_out l n h)) (s'.writes n ∙ sym (same_out l n (step ∷ h)))) ∙ now_above

    low : v.outlet.write.above ≡ false → w.outlet.write.above ≡ false
    low e = at w.outlet.write.above refl
      where
        rises : (not v.outlet.write.above && w.outlet.write.above) ≡ false
        rises = (λ i. not (sym before i) && sym after_is i) ∙ no_rise (tape_setup l) (buffer.Write n) step h refl less

        at : (b : Bool) → w.outlet.write.above ≡ b → b ≡ false
        at true is = absurd (cc (sym (λ i. not (e i) && is i) ∙ rises))
        at false is = refl

    own_above : held (option_map (eased dr (watchers_on n flows)) (write_at n flows)) ≡ w.outlet.write.above
    own_above = at (write_at n flows) known_here (c.marks n ∙ was_above) (lows_seen n flows known_here ∙ none_before (buffer.Write n))
      where
        at : (o : Option Write) → IsSome o → held o ≡ v.outlet.write.above → told_in o ≡ [] → held (option_map (eased dr (watchers_on n flows)) o) ≡ w.outlet.write.above
        at None some a none = cc some
        at (Some k) some a none = eased_above dr (watchers_on n flows) k v.outlet.write.above w.outlet.write.above a none frees.drains frees.stays low

    own_lows : pending_on flows'.gates (buffer.Write n) ≡ (if v.outlet.write.above && not w.outlet.write.above then watchers_on n flows else [])
    own_lows = sym (lows_seen n flows' (frees_known n (ap is_some (there_now n old new v w found written n self)))) ∙ (ap told_in (own_write n self) ∙ at (write_at n flows) known_here (c.marks n ∙ was_above) (lows_seen n flows known_here ∙ none_before (buffer.Write n)))
      where
        at : (o : Option Write) → IsSome o → held o ≡ v.outlet.write.above → told_in o ≡ [] → told_in (option_map (eased dr (watchers_on n flows)) o) ≡ (if v.outlet.write.above && not w.outlet.write.above then watchers_on n flows else [])
        at None some a none = cc some
        at (Some k) some a none = eased_lows dr (watchers_on n flows) k v.outlet.write.above w.outlet.write.above a none frees.drains frees.stays

    frees_marks : (d : ℕ) → holds_back d flows' ≡ is_above_at d new
    frees_marks d = by_case (n == d)
        (λ e. ap held (own_write d e) ∙ (own_above ∙ sym (ap above_in (there_now n old new v w found written d e))))
        (λ e. ap held (other_write d e) ∙ (c.marks d ∙ sym (ap above_in (other_now n old new v w found written d e))))

    abbrev drains : Bool
    drains = v.outlet.write.above && not w.outlet.write.above

    -- the flows that are told later are those that the drain lets go
    lows_now : (b : BufferId) → pending_on flows'.gates b ≡ (if same_buffer (buffer.Write n) b then (if drains then watchers_on n flows else []) else pending_on flows.gates b)
    lows_now b = by_case (same_buffer (buffer.Write n) b)
        (λ e. ap (pending_on flows'.gates) (sym (same_buffer_exact (buffer.Write n) b e)) ∙ (own_lows ∙ sym (ap (λ (x : Bool). if x then (if drains then watchers_on n flows else []) else pending_on flows.gates b) e)))
        (λ e. frees.lows.lows b e ∙ sym (ap (λ (x : Bool). if x then (if drains then watchers_on n flows else []) else pending_on flows.gates b) e))

    one : (m : ℕ) → m ≤ 1 → m ≡ one_if (m == 1)
    one m le = at (m == 1) refl
      where
        at : (b : Bool) → (m == 1) ≡ b → m ≡ one_if b
        at true e = grind (arith, nat_tests)
        at false e = grind (arith, nat_tests)

    counted : (m k : ℕ) → m ≡ one_if (m == 1) → m ≡ k → (if m == 1 then k else 0) ≡ k
    counted m k e i = at (m == 1) (sym i ∙ e)
      where
        at : (b : Bool) → k ≡ one_if b → (if b then k else 0) ≡ k
        at true e = refl
        at false e = sym e

    sums : (a b c d : ℕ) → a ≡ b + c → c ≡ d → a + 0 ≡ b + d
    sums a b c d e i = omega (arith, e, i)

    frees_lows : eased_at l step h ≡ Some (buffer.Write n) → (tail : List Note) (f : FlowId) (flow : Flow) → IsSeen l None None (Some n) None old new flows flows' step tail h f flow → lows flows'.gates f + 0 ≡ lows flows.gates f + drained l f step h
    frees_lows eases tail f flow seen =
        let watched = watched_stays l None None (Some n) None old new flows flows' step tail h c.sound (frees.sound c.sound) f flow seen in
        let many : times f (watchers_on n flows) ≡ times_of_buffer (buffer.Write n) (watched_by flows.gates f) = c.sound.gates.paired f (buffer.Write n) in
        let few : times f (watchers_on n flows) ≤ 1 = c.sound.gates.once f (buffer.Write n) in
        let sources = ap (times_of_buffer (buffer.Write n)) (watches l flows h c.sound f seen.was seen.found_was seen.is_was seen.goes_was) in
        let drop : drained l f step h ≡ (if drains then times_of_buffer (buffer.Write n) (watched_by flows.gates f) else 0) =
        ap (of_one (λ b. drains_at (tape_setup l) b step h) (source_buffers (tape_setup l) f h)) eases
        ∙ (λ i. if before i && not (after_is i) then sym sources i else 0) in
        (λ i. sum_by (λ b. times f (lows_now b i)) (watched i) + 0) ∙ at drains refl many few ∙ ap (λ (k : ℕ). lows flows.gates f + k) (sym drop)
      where
        at : (x : Bool) → drains ≡ x → times f (watchers_on n flows) ≡ times_of_buffer (buffer.Write n) (watched_by flows.gates f) → times f (watchers_on n flows) ≤ 1
            → sum_by (λ b. times f (if same_buffer (buffer.Write n) b then (if x then watchers_on n flows else []) else pending_on flows.gates b)) (watched_by flows.gates f) + 0
            ≡ lows flows.gates f + (if x then times_of_buffer (buffer.Write n) (watched_by flows.gates f) else 0)
        at true e many few =
            let m = times f (watchers_on n flows) in
            sums _ _ _ _ (lows_more f (buffer.Write n) (watchers_on n flows) (pending_on flows.gates) (m == 1) (one m few) (none_before (buffer.Write n)) (watched_by flows.gates f)) (counted m _ (one m few) many)
        at false e many few =
            sums _ _ _ _ (lows_more f (buffer.Write n) [] (pending_on flows.gates) false refl (none_before (buffer.Write n)) (watched_by flows.gates f)) refl

    -- all of it
    pub frees_go : eased_at l step h ≡ Some (buffer.Write n) → ((f : FlowId) → WayStays step h f) → live (step ∷ h) ≡ live h → Heeds l step h
        → ((f : FlowId) → (pauses f (step ∷ h) ≡ pauses f h) × (resumes f (step ∷ h) ≡ resumes f h)) → ((f : FlowId) → risen l f step h ≡ 0) → CountsGo l None None (Some n) None old new flows flows' step [] h
    frees_go eases ways living turned quiet rise = record {
      sound = frees.sound c.sound;
      flows_go = same_go flows flows' frees.rest;
      ways = λ f there. ways f;
      lives = λ x. ap (λ (xs : List ℕ). has xs x) living ∙ (c.living x ∙ sym (ap (λ (v : Exchanges). is_live v x) frees.rest));
      writes = frees_writes;
      marks = frees_marks;
      known = frees_known;
      told = frees_told;
      turns = turned;
      holds = tt;
      quiet = quiet;
      paused = λ f flow seen. sym (rise f);
      resumed = frees_lows eases [];
      none = λ f lt. (refl, refl);
    }
