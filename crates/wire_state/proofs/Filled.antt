-- What the counts are where octets went into a write buffer, which rose by them or didn't.
use Rattle.exchange_core.specs.Exchange.{flow_in as side_of}
use Rattle.exchange_core.specs.Exchanges.{exchange_at}
use Rattle.exchange_core.specs.Flow.{Flow}
use Rattle.exchange_core.specs.declared.exchange.Exchange.{Exchange}
use Rattle.flow_gate.specs.Board.{pending_on, times, times_of_buffer, watched_by, watchers_of}
use Rattle.flow_rules.specs.declared.ids.BufferId.{BufferId}
use Rattle.flow_rules.specs.declared.ids.BufferId.TheVariants as buffer
use Rattle.flow_rules.specs.declared.ids.FlowId.{FlowId}
use Rattle.flow_laws.specs.Steps.{fed_by}
use Rattle.flow_notes.specs.declared.notes.Note.{Note}
use Rattle.paged_map.specs.PagedMap.{PagedMap, WritesThrough, value_at}
use Rattle.proxy_config.specs.declared.config.LimitKeys.{LimitKeys}
use Rattle.std.proofs.Common.{ap, arith, inl, inr, refl, subst, sym, ◌∙◌}
use Rattle.std.proofs.lemmas.Bool.Decides.{nat_tests}
use Rattle.std.specs.Option.{option_and_then, option_map, option_map_or}
use Rattle.std.specs.Prelude.{Bool, IsSome, List, None, Option, Some, [], false, if◌then◌else◌, is_some, length, not, true, ℕ, ◌&&◌, ◌++◌, ◌+◌, ◌<◌, ◌==◌, ◌||◌, ◌∷◌, ◌≡◌, ◌≤◌, ◌⊎◌}
use Rattle.tape_laws.specs.Dispatches.{has, live}
use Rattle.tape_laws.specs.Pauses.{pauses, resumes}
use Rattle.tape_laws.specs.Sources.{source_buffers}
use Rattle.tape_laws.specs.Watermark.{above, rises_at}
use Rattle.wire_flows.proofs.Cases.{by_case}
use Rattle.wire_flows.specs.Flows.{Flows, flow_in, goes_to, is_live_in, watches_of}
use Rattle.wire_flows.specs.Sound.{IsSound}
use Rattle.wire_flows.specs.Writes.{Write, raised, watchers_on, write_at}
use Rattle.wire_links.specs.Links.{Links}
use Rattle.wire_state.proofs.Counting.{AboveGoes, CountsGo, FlowsGo, IsSeen, WayStays, above_written, lows_stay, over_now, watchers_were}
use Rattle.wire_state.proofs.Held.{is_number}
use Rattle.wire_state.proofs.Holding.{AreHolds, all_append, paused_append, paused_in, pauses_hold, pauses_resume_none, pauses_times, resumed_append, resumed_in}
use Rattle.wire_state.proofs.Promised.{same_out}
use Rattle.wire_state.proofs.Rising.{drained, of_one, risen}
use Rattle.wire_state.proofs.Standing.{other_now, there_now}
use Rattle.wire_state.specs.Counts.{Counts, Fills, Heeds, MayLag, holds_back, is_above_at}
use Rattle.wire_state.specs.Noting.{risen_of}
use Rattle.wire_state.specs.Tapes.{tape_setup}
use Rattle.wire_state.specs.Ways.{WayHistory, WayStep}
use Rattle.wire_state.specs.Worlds.{Stands, has_conn}
use Rattle.wire_state.specs.declared.conn.Conn.{Conn}
use Rattle.wm_buffer.specs.Watermark.{above_after}

-- ---- the pauses of a rise
pub risen_holds : (rose : Bool) (c : ℕ) (fs : List FlowId) → AreHolds (risen_of rose c fs)
risen_holds true c fs = pauses_hold c fs
risen_holds false c fs = tt

pub risen_resumes_none : (f : FlowId) (rose : Bool) (c : ℕ) (fs : List FlowId) → resumed_in f (risen_of rose c fs) ≡ 0
risen_resumes_none f true c fs = pauses_resume_none f c fs
risen_resumes_none f false c fs = refl

pub risen_times : (f : FlowId) (rose : Bool) (c : ℕ) (fs : List FlowId) → paused_in f (risen_of rose c fs) ≡ (if rose then times f fs else 0)
risen_times f true c fs = pauses_times f c fs
risen_times f false c fs = refl

-- a flow of an exchange whose number wasn't given isn't there, and watches nothing
pub unborn_gone : (flows : Flows) → IsSound flows → (f : FlowId) → flows.exchanges.last < f.exchange → flow_in flows f ≡ None
unborn_gone flows sound f lt = at (exchange_at flows.exchanges f.exchange) refl
  where
    over : (x last : ℕ) → x ≤ last → last < x → ⊥
    over x last a b = omega (arith, a, b)

    at : (o : Option Exchange) → exchange_at flows.exchanges f.exchange ≡ o → option_and_then (side_of f.back) (exchange_at flows.exchanges f.exchange) ≡ None
    at None e = ap (λ (v : Option Exchange). option_and_then (side_of f.back) v) e
    at (Some v) e = absurd (over f.exchange flows.exchanges.last (sound.exchanges.below f.exchange (subst (λ (w : Option Exchange). IsSome w) (sym e) refl)) lt)

pub unborn_watched : (flows : Flows) → IsSound flows → (f : FlowId) → flows.exchanges.last < f.exchange → watched_by flows.gates f ≡ []
unborn_watched flows sound f lt = sound.watched f ∙ ap (λ (o : Option Flow). option_map_or (watches_of (goes_to flows f)) o []) (unborn_gone flows sound f lt)

pub unborn_watches : (flows : Flows) → IsSound flows → (f : FlowId) → flows.exchanges.last < f.exchange → (b : BufferId) → times f (watchers_of flows.gates b) ≡ 0
unborn_watches flows sound f lt b = sound.gates.paired f b ∙ ap (times_of_buffer b) (unborn_watched flows sound f lt)

pub risen_none : (flows flows' : Flows) → IsSound flows' → flows'.exchanges.last ≡ flows.exchanges.last → (f : FlowId) → flows.exchanges.last < f.exchange → (rose : Bool) (c : ℕ) → (paused_in f (risen_of rose c (watchers_on c flows')) ≡ 0) × (resumed_in f (risen_of rose c (watchers_on c flows')) ≡ 0)
risen_none flows flows' sound last f lt rose c = (risen_times f rose c (watchers_on c flows') ∙ at rose, risen_resumes_none f rose c (watchers_on c flows'))
  where
    few : times f (watchers_on c flows') ≡ 0
    few = unborn_watches flows' sound f (subst (λ (n : ℕ). n < f.exchange) (sym last) lt) (buffer.Write c)

    at : (b : Bool) → (if b then times f (watchers_on c flows') else 0) ≡ 0
    at true = few
    at false = refl

-- ---- a connection whose write buffer was filled
module _ {l : LimitKeys} {t u : Option ℕ} (n : ℕ) (old new : PagedMap Conn) (v w : Conn) (found : value_at n old ≡ Some v) (written : WritesThrough n old w new) (rose : Bool) (flows flows' : Flows)
    (fills : Fills n rose v.outlet.write w.outlet.write flows flows') (limit : v.outlet.write.limit ≡ l.write_buffer) (h : WayHistory) (c : Counts l t u old flows h) where
  above_here : (d : ℕ) → (n == d) ≡ true → is_above_at d old ≡ false
  above_here d e = ap (λ q. is_above_at q old) (sym (is_number n d e)) ∙ (ap (λ (o : Option Conn). option_map_or (λ conn. conn.outlet.write.above) o false) found ∙ fills.low)

  pub fills_writes : (d : ℕ) → AboveGoes l old new d
  fills_writes = above_written l n old new v w found written (fills.above ∙ ap (λ (k : ℕ). above_after k v.outlet.write.above (length w.outlet.write.octets)) limit)

  above_there : (d : ℕ) → (n == d) ≡ true → is_above_at d new ≡ rose
  above_there d e = ap (λ (o : Option Conn). option_map_or (λ conn. conn.outlet.write.above) o false) (there_now n old new v w found written d e) ∙ sym fills.rose

  abbrev held : Option Write → Bool
  held o = option_map_or (λ k. k.above) o false

  raised_held : (o : Option Write) → IsSome o → held o ≡ false → held (option_map (raised rose) o) ≡ rose
  raised_held None some low = cc some
  raised_held (Some k) some low = ap (λ b. b || rose) low

  known_here : IsSome (write_at n flows)
  known_here = c.known n (ap is_some found)

  raised_some : (o : Option Write) → IsSome o → IsSome (option_map (raised rose) o)
  raised_some None some = cc some
  raised_some (Some k) some = refl

  own_write : (d : ℕ) → (n == d) ≡ true → write_at d flows' ≡ option_map (raised rose) (write_at n flows)
  own_write d e = fills.writes.writes d ∙ ap (λ b. if b then option_map (raised rose) (write_at n flows) else write_at d flows) e

  other_write : (d : ℕ) → (n == d) ≡ false → write_at d flows' ≡ write_at d flows
  other_write d e = fills.writes.writes d ∙ ap (λ b. if b then option_map (raised rose) (write_at n flows) else write_at d flows) e

  pub fills_marks : (d : ℕ) → holds_back d flows' ≡ is_above_at d new
  fills_marks d = by_case (n == d)
      (λ e. ap held (own_write d e) ∙ (raised_held (write_at n flows) known_here (c.marks n ∙ (ap (λ (o : Option Conn). option_map_or (λ conn. conn.outlet.write.above) o false) found ∙ fills.low)) ∙ sym (above_there d e)))
      (λ e. ap held (other_write d e) ∙ (c.marks d ∙ sym (ap (λ (o : Option Conn). option_map_or (λ conn. conn.outlet.write.above) o false) (other_now n old new v w found written d e))))

  pub fills_known : (d : ℕ) → has_conn d new ≡ true → IsSome (write_at d flows')
  fills_known d there = by_case (n == d)
      (λ e. subst IsSome (sym (own_write d e)) (raised_some (write_at n flows) known_here))
      (λ e. subst IsSome (sym (other_write d e)) (c.known d (sym (ap is_some (other_now n old new v w found written d e)) ∙ there)))

  pub fills_told : (b : BufferId) → (pending_on flows'.gates b ≡ []) ⊎ MayLag t u b
  fills_told b = at (c.told b)
    where
      at : (pending_on flows.gates b ≡ []) ⊎ MayLag t u b → (pending_on flows'.gates b ≡ []) ⊎ MayLag t u b
      at (inl none) = inl (fills.lows.lows b ∙ none)
      at (inr may) = inr may

  -- it rose on the tape where it did here
  module _ (links links' : Links) (step : WayStep) (s : Stands l old flows links h) (s' : Stands l new flows' links' (step ∷ h)) where
    rises : rises_at (tape_setup l) (buffer.Write n) step h ≡ rose
    rises =
        let same : (n == n) ≡ true = grind (arith, nat_tests) in
        let before : above (tape_setup l) (buffer.Write n) h ≡ false = sym (c.over n) ∙ above_here n same in
        let now : above (tape_setup l) (buffer.Write n) (step ∷ h) ≡ rose =
        sym (over_now l old new step h n (fills_writes n) (c.over n) (s.writes n ∙ sym (same_out l n h)) (s'.writes n ∙ sym (same_out l n (step ∷ h)))) ∙ above_there n same in
        λ i. not (before i) && now i

    pub fills_pauses : fed_by (tape_setup l) step h ≡ Some (buffer.Write n) → IsSound flows' → (tail : List Note) (f : FlowId) (flow : Flow) → IsSeen l t u t u old new flows flows' step tail h f flow → paused_in f (risen_of rose n (watchers_on n flows')) ≡ risen l f step h
    fills_pauses fed sound tail f flow seen =
        risen_times f rose n (watchers_on n flows')
        ∙ (ap (λ (k : ℕ). if rose then k else 0) (watchers_were l t u t u old new flows flows' step tail h sound f flow seen (buffer.Write n))
        ∙ (ap (λ (b : Bool). if b then times_of_buffer (buffer.Write n) (source_buffers (tape_setup l) f h) else 0) (sym rises)
        ∙ ap (of_one (λ b. rises_at (tape_setup l) b step h) (source_buffers (tape_setup l) f h)) (sym fed)))

    -- all of it; other notes may stand behind the pauses, that pause no flow
    pub fills_go : fed_by (tape_setup l) step h ≡ Some (buffer.Write n) → FlowsGo flows flows' → ((x : ℕ) → is_live_in flows' x ≡ is_live_in flows x)
        → (more : List Note) → AreHolds more → ((f : FlowId) → paused_in f more ≡ 0) → ((f : FlowId) → flows.exchanges.last < f.exchange → resumed_in f more ≡ 0)
        → ((f : FlowId) → WayStays step h f) → live (step ∷ h) ≡ live h → Heeds l step h
        → ((f : FlowId) → (pauses f (step ∷ h) ≡ pauses f h) × (resumes f (step ∷ h) ≡ resumes f h))
        → ((f : FlowId) (flow : Flow) → IsSeen l t u t u old new flows flows' step (risen_of rose n (watchers_on n flows') ++ more) h f flow → resumed_in f more ≡ drained l f step h)
        → CountsGo l t u t u old new flows flows' step (risen_of rose n (watchers_on n flows') ++ more) h
    fills_go fed go same more holds unpaused unresumed ways living turned quiet drops = record {
      sound = fills.sound c.sound;
      flows_go = go;
      ways = λ f there. ways f;
      lives = λ x. ap (λ (xs : List ℕ). has xs x) living ∙ (c.living x ∙ sym (same x));
      writes = fills_writes;
      marks = fills_marks;
      known = fills_known;
      told = fills_told;
      turns = turned;
      holds = all_append (risen_of rose n (watchers_on n flows')) more (risen_holds rose n (watchers_on n flows')) holds;
      quiet = quiet;
      paused = λ f flow seen. paused_append f (risen_of rose n (watchers_on n flows')) more (risen_holds rose n (watchers_on n flows'))
          ∙ no_more _ _ _ (fills_pauses fed (fills.sound c.sound) (risen_of rose n (watchers_on n flows') ++ more) f flow seen) (unpaused f);
      resumed = λ f flow seen. resumes_more _ _ _ _ _
          (resumed_append f (risen_of rose n (watchers_on n flows')) more (risen_holds rose n (watchers_on n flows')) ∙ no_first _ _ (risen_resumes_none f rose n (watchers_on n flows')))
          (lows_stay l t u t u old new flows flows' step (risen_of rose n (watchers_on n flows') ++ more) h c.sound (fills.sound c.sound) fills.lows.lows f flow seen) (drops f flow seen);
      none = λ f lt. let few = risen_none flows flows' (fills.sound c.sound) go.last f lt rose n in (
        paused_append f (risen_of rose n (watchers_on n flows')) more (risen_holds rose n (watchers_on n flows')) ∙ both_none _ _ few.0 (unpaused f),
        resumed_append f (risen_of rose n (watchers_on n flows')) more (risen_holds rose n (watchers_on n flows')) ∙ both_none _ _ few.1 (unresumed f lt),
      );
    }
      where
        no_more : (a b k : ℕ) → a ≡ k → b ≡ 0 → a + b ≡ k
        no_more a b k e i = omega (arith, e, i)

        no_first : (a b : ℕ) → a ≡ 0 → a + b ≡ b
        no_first a b e = omega (arith, e)

        both_none : (a b : ℕ) → a ≡ 0 → b ≡ 0 → a + b ≡ 0
        both_none a b e i = omega (arith, e, i)

        resumes_more : (w1 w0 r m d : ℕ) → r ≡ m → w1 ≡ w0 → m ≡ d → w1 + r ≡ w0 + d
        resumes_more w1 w0 r m d e i j = omega (arith, e, i, j)
