-- Octets that left a write buffer, with the note that is owed for them.
use Rattle.exchange_core.specs.Exchanges.{flow_at, target_of}
use Rattle.flow_gate.proofs.SameIds.{same_buffer_exact}
use Rattle.flow_gate.specs.Board.{pending_on, watched_by}
use Rattle.flow_gate.specs.Ids.{same_buffer}
use Rattle.flow_rules.specs.declared.ids.BufferId.{BufferId}
use Rattle.flow_rules.specs.declared.ids.BufferId.TheVariants as buffer
use Rattle.flow_rules.specs.declared.ids.FlowId.{FlowId}
use Rattle.flow_laws.proofs.Flags.{flag_now}
use Rattle.flow_notes.specs.declared.events.Event.TheVariants as event
use Rattle.flow_notes.specs.declared.notes.Note.{Note}
use Rattle.flow_notes.specs.declared.notes.Note.TheVariants as note
use Rattle.proxy_config.specs.declared.config.Config.{Config}
use Rattle.proxy_config.specs.declared.config.LimitKeys.{LimitKeys}
use Rattle.std.proofs.Common.{ap, arith, inl, refl, subst, sym, ◌∙◌}
use Rattle.std.proofs.lemmas.List.{append-nil, length-drop, take_min}
use Rattle.paged_map.specs.PagedMap.{PagedMap, WritesThrough, value_at}
use Rattle.std.specs.Option.{option_map, option_map_or}
use Rattle.std.specs.Prelude.{Bool, IsSome, List, None, Option, Some, [], drop, false, if◌then◌else◌, is_some, length, min, not, suc, take, true, zero, ℕ, ◌&&◌, ◌++◌, ◌==◌, ◌||◌, ◌∷◌, ◌≡◌, ◌≤◌}
use Rattle.tape_laws.specs.History.{Noted}
use Rattle.tape_laws.specs.Watermark.{above}
use Rattle.tape_laws.specs.World.{out}
use Rattle.wire_flows.proofs.Cases.{by_case}
use Rattle.wire_flows.specs.Flows.{Flows, watches_of}
use Rattle.wire_flows.specs.Writes.{Write, watchers_on, write_at}
use Rattle.wire_state.proofs.Counted.{none_lags}
use Rattle.wire_state.proofs.Counting.{counts_go}
use Rattle.wire_state.proofs.CountsKept.{AboveStays, counts_conns, counts_gates, exchanges_keep}
use Rattle.wire_state.proofs.Drained.{frees_go, lows_seen}
use Rattle.wire_state.proofs.Promised.{same_out}
use Rattle.wire_state.proofs.Watching.{lows_same}
use Rattle.wire_state.proofs.Fitting.{less_out}
use Rattle.wire_state.proofs.Goings.{above_through, config_told, footing_kept, gates_stand, links_kept, rest_of, told_as}
use Rattle.wire_state.proofs.Held.{is_number}
use Rattle.wire_state.proofs.Telling.{all_told}
use Rattle.wire_state.proofs.Standing.{ConnsAre, at_one, conns_go, conns_written, out_flows, out_shut, one_room, out_writes, same_octets, wrote}
use Rattle.wire_state.specs.Counts.{Counts, Frees, eased, is_above_at}
use Rattle.wire_state.specs.Limits.{OutFits}
use Rattle.wire_state.specs.Marks.{footing_of}
use Rattle.wire_state.specs.Tapes.{tape_setup}
use Rattle.wire_state.specs.Ways.{WayHistory, WayStep, after, world_setup}
use Rattle.wire_state.specs.Worlds.{Leaves, Stands, ToldBy, left_after, octets_of}
use Rattle.wm_buffer.specs.Watermark.{above_after}
use Rattle.wire_state.specs.declared.conn.Conn.{Conn}
use Rattle.wire_state.specs.declared.wire_core.WireCore.{WireCore}

-- up to this many octets left, as many as there were
module _ (n : ℕ) (old new : WireCore) (v w : Conn) (found : value_at n old.conns ≡ Some v) (written : WritesThrough n old.conns w new.conns)
    (opened : w.open ≡ v.open) (rest : rest_of new ≡ rest_of old) (limit : v.outlet.write.limit ≡ old.config.limits.write_buffer)
    (frees : Frees n (v.outlet.write.above && not w.outlet.write.above) v.outlet.write w.outlet.write old.flows new.flows)
    (most k : ℕ) (many : k ≡ min most (length v.outlet.write.octets)) (e : w.outlet.write.octets ≡ drop k v.outlet.write.octets) where
  shorter : OutFits old.config.limits v.outlet.write.octets → OutFits old.config.limits w.outlet.write.octets
  shorter fits = less_out old.config.limits v.outlet.write.octets w.outlet.write.octets (subst (λ (xs : List ℕ). length xs ≤ length v.outlet.write.octets) (sym e) (fewer v.outlet.write.octets)) fits
    where
      fewer : (xs : List ℕ) → length (drop k xs) ≤ length xs
      fewer xs = omega (arith, length-drop k xs)

  abbrev out_step : WayStep
  out_step = Noted (note.Out n k)

  -- no more left than waited
  few : (h : WayHistory) → Stands old.config.limits old.conns old.flows old.links h → k ≤ length (out world_setup n h)
  few h s =
      let octets : octets_of n old.conns ≡ v.outlet.write.octets = ap (λ (o : Option Conn). option_map_or (λ conn. conn.outlet.write.octets) o []) found in
      subst (λ (xs : List ℕ). k ≤ length xs) (sym octets ∙ s.writes n) (omega (arith, many))

  out_stands : (h : WayHistory) → Stands old.config.limits old.conns old.flows old.links h → Stands old.config.limits new.conns new.flows new.links (out_step ∷ h)
  out_stands h s = links_kept old new rest (out_step ∷ h)
      (gates_stand old.flows new.flows frees.rest new.conns old.links (out_step ∷ h)
      (wrote (at_one n (drop k)) out_step h old.conns new.conns old.flows old.links (out_writes h n k (few h s)) (out_flows h n k) (out_shut h n k) (conns_written n old.conns new.conns v w found written (drop k) e opened) (one_room old.config.limits n old.conns new.conns v w found written shorter) s))

  less : (h : WayHistory) → length (out (tape_setup old.config.limits) n (out_step ∷ h)) ≤ length (out (tape_setup old.config.limits) n h)
  less h = omega (arith, length-drop (if n == n then k else 0) (out (tape_setup old.config.limits) n h))

  out_counts : (h : WayHistory) → Stands old.config.limits old.conns old.flows old.links h → Counts old.config.limits None None old.conns old.flows h → Counts old.config.limits (Some n) None new.conns new.flows (out_step ∷ h)
  out_counts h s c = counts_go old.config.limits None None (Some n) None old.conns new.conns old.flows new.flows out_step [] h old.links new.links
      (frees_go n old.conns new.conns v w found written (v.outlet.write.above && not w.outlet.write.above) old.flows new.flows frees limit h c old.links new.links out_step s (out_stands h s) (less h) refl
      (λ f. record { stages = refl; conn = refl; spared = refl }) refl tt (λ f. (refl, refl)) (λ f. refl)) s (out_stands h s) c

  -- it didn't drain: nobody is to be told
  module _ (calm : (v.outlet.write.above && not w.outlet.write.above) ≡ false) (h : WayHistory) (c : Counts old.config.limits None None old.conns old.flows h) where
    write_same_now : (d : ℕ) → write_at d new.flows ≡ write_at d old.flows
    write_same_now d = frees.writes.writes d ∙ by_case (n == d)
        (λ same. ap (λ b. if b then option_map (eased (v.outlet.write.above && not w.outlet.write.above) (watchers_on n old.flows)) (write_at n old.flows) else write_at d old.flows) same
        ∙ (ap (λ b. option_map (eased b (watchers_on n old.flows)) (write_at n old.flows)) calm ∙ (unchanged (write_at n old.flows) ∙ ap (λ q. write_at q old.flows) (is_number n d same))))
        (λ other. ap (λ b. if b then option_map (eased (v.outlet.write.above && not w.outlet.write.above) (watchers_on n old.flows)) (write_at n old.flows) else write_at d old.flows) other)
      where
        unchanged : (o : Option Write) → option_map (eased false (watchers_on n old.flows)) o ≡ o
        unchanged None = refl
        unchanged (Some x) = refl

    lows_same_now : (b : BufferId) → pending_on new.flows.gates b ≡ []
    lows_same_now b = by_case (same_buffer (buffer.Write n) b)
        (λ same. ap (pending_on new.flows.gates) (sym (same_buffer_exact (buffer.Write n) b same))
        ∙ (sym (lows_seen n new.flows (subst IsSome (sym (write_same_now n)) (c.known n (ap is_some found)))) ∙ (ap (λ (o : Option Write). option_map_or (λ x. x.lows) o []) (write_same_now n) ∙ (lows_seen n old.flows (c.known n (ap is_some found)) ∙ none_before (buffer.Write n)))))
        (λ other. frees.lows.lows b other ∙ none_before b)
      where
        none_before : (b : BufferId) → pending_on old.flows.gates b ≡ []
        none_before b = none_lags (pending_on old.flows.gates b) b (c.told b)

  -- none left
  module _ (zero_is : k ≡ 0) (h : WayHistory) (s : Stands old.config.limits old.conns old.flows old.links h) (c : Counts old.config.limits None None old.conns old.flows h) where
    same_octets_now : w.outlet.write.octets ≡ v.outlet.write.octets
    same_octets_now = e ∙ ap (λ j. drop j v.outlet.write.octets) zero_is

    settled_now : w.outlet.write.above ≡ v.outlet.write.above
    settled_now =
        let was : is_above_at n old.conns ≡ v.outlet.write.above = ap (λ (o : Option Conn). option_map_or (λ conn. conn.outlet.write.above) o false) found in
        let octets : octets_of n old.conns ≡ v.outlet.write.octets = ap (λ (o : Option Conn). option_map_or (λ conn. conn.outlet.write.octets) o []) found in
        let long : out (tape_setup old.config.limits) n h ≡ w.outlet.write.octets = same_out old.config.limits n h ∙ (sym (s.writes n) ∙ (octets ∙ sym same_octets_now)) in
        let over : above (tape_setup old.config.limits) (buffer.Write n) h ≡ v.outlet.write.above = sym (c.over n) ∙ was in
        frees.above ∙ ((λ i. above_after (limit i) (sym over i) (length (sym long i))) ∙ (flag_now (tape_setup old.config.limits) (buffer.Write n) h ∙ over))

    undrained : (v.outlet.write.above && not w.outlet.write.above) ≡ false
    undrained = (λ i. v.outlet.write.above && not (settled_now i)) ∙ but_not v.outlet.write.above
      where
        but_not : (a : Bool) → (a && not a) ≡ false
        but_not true = refl
        but_not false = refl

    zero_counts : Counts old.config.limits (Some n) None new.conns new.flows h
    zero_counts = counts_gates {t = None} {u = None} {t' = Some n} {u' = None} new.conns old.flows new.flows h (exchanges_keep old.flows new.flows frees.rest) (frees.sound c.sound) (record {
      low = λ f there. lows_same f old.flows.gates new.flows.gates (watched f) (λ b. lows_same_now undrained h c b ∙ sym (none_lags (pending_on old.flows.gates b) b (c.told b)));
      marks = λ d. ap (λ (o : Option Write). option_map_or (λ x. x.above) o false) (write_same_now undrained h c d) ∙ (c.marks d ∙ sym (stays.above_stays d));
      known = λ d there. subst IsSome (sym (write_same_now undrained h c d)) (c.known d (stays.came d there));
      told = λ b. inl (lows_same_now undrained h c b);
    }) (counts_conns old.conns new.conns old.flows h stays c)
      where
        stays : AboveStays old.conns new.conns
        stays = above_through n old.conns new.conns v w found written settled_now

        watched : (f : FlowId) → watched_by new.flows.gates f ≡ watched_by old.flows.gates f
        watched f = (frees.sound c.sound).watched f ∙ ((λ i. option_map_or (watches_of (target_of (frees.rest i) f)) (flow_at (frees.rest i) f) []) ∙ sym (c.sound.watched f))

  zero_stands : k ≡ 0 → (h : WayHistory) → Stands old.config.limits old.conns old.flows old.links h → Stands old.config.limits new.conns new.flows new.links h
  zero_stands z h s = links_kept old new rest h (gates_stand old.flows new.flows frees.rest new.conns old.links h (conns_go old.conns new.conns old.flows old.links h (stays (e ∙ ap (λ j. drop j v.outlet.write.octets) z)) s))
    where
      same_one : (b : Bool) (xs : List ℕ) → (if b then xs else xs) ≡ xs
      same_one true xs = refl
      same_one false xs = refl

      stays : w.outlet.write.octets ≡ v.outlet.write.octets → ConnsAre same_octets old.conns new.conns
      stays e =
          let c = conns_written n old.conns new.conns v w found written (λ xs. xs) e opened in
          record { octets = λ d. c.octets d ∙ same_one (n == d) (octets_of d old.conns); shut = c.shut; there = c.there }

  pub out_left : Leaves n most k (Some n) old new
  out_left = record { goes = at (k == 0) refl }
    where
      here : (c : ℕ) → (n == c) ≡ true → octets_of c old.conns ≡ v.outlet.write.octets
      here c same = ap (λ d. octets_of d old.conns) (sym (is_number n c same)) ∙ ap (λ (o : Option Conn). option_map_or (λ conn. conn.outlet.write.octets) o []) found

      front : (xs : List ℕ) → k ≡ min most (length xs) → take k xs ≡ take most xs
      front xs m = ap (λ j. take j xs) m ∙ take_min most xs

      took : (c : ℕ) → (if n == c then take k (octets_of c old.conns) else []) ≡ (if n == c then take most (octets_of c old.conns) else [])
      took c = by_test (n == c) refl
        where
          by_test : (b : Bool) → (n == c) ≡ b → (if b then take k (octets_of c old.conns) else []) ≡ (if b then take most (octets_of c old.conns) else [])
          by_test true same = front (octets_of c old.conns) (many ∙ ap (λ xs. min most (length xs)) (sym (here c same)))
          by_test false other = refl

      none : (b : Bool) (xs : List ℕ) → (if b then take 0 xs else []) ≡ []
      none true [] = refl
      none true (x ∷ xs) = refl
      none false xs = refl

      at : {m : Config} → (b : Bool) → (k == 0) ≡ b → (h : WayHistory) (g : ℕ → List ℕ) (start notes : List Note) → ToldBy m (footing_of old) None None h g start old.conns old.flows old.links notes
          → ToldBy m (footing_of new) (Some n) None h (left_after (event.Room n most) old.conns g) start new.conns new.flows new.links (notes ++ (if b then [] else note.Out n k ∷ []))
      at true z h g start notes t =
          let zero_is = is_number k 0 z in
          let past = after t.steps h in
          config_told old new (footing_kept old new rest) h (left_after (event.Room n most) old.conns g) start (notes ++ []) (record {
            steps = t.steps;
            is = append-nil notes ∙ t.is;
            stands = zero_stands zero_is past t.stands;
            counts = zero_counts zero_is past t.stands t.counts;
            under = t.under;
            ways = t.ways;
            rows = t.rows;
            since = t.since;
            left = λ c. t.left c ∙ (sym (append-nil (g c)) ∙ ap (λ xs. g c ++ xs)
                (sym (ap (λ j. if n == c then take j (octets_of c old.conns) else []) zero_is ∙ none (n == c) (octets_of c old.conns)) ∙ took c));
          })
      at false z h g start notes t = config_told old new (footing_kept old new rest) h (left_after (event.Room n most) old.conns g) start (notes ++ note.Out n k ∷ [])
          (told_as {l = footing_of old} (Noted (note.Out n k) ∷ []) (left_after (event.Room n most) old.conns) old.conns new.conns old.flows new.flows old.links new.links
          (λ j f s is c. (λ i. is c i ++ (if n == c then take k (sym (s.writes c) i) else [])) ∙ ap (λ xs. f c ++ xs) (took c))
          (record { ways = λ j i w. w; rows = refl }) out_stands out_counts h g start notes t)

  out_quiet : (v.outlet.write.above && not w.outlet.write.above) ≡ false → Leaves n most k None old new
  out_quiet calm = record {
    goes = λ h g start notes t. all_told n new.conns new.flows new.links (lows_same_now calm (after t.steps h) t.counts (buffer.Write n)) h (left_after (event.Room n most) old.conns g) start _ (out_left.goes h g start notes t);
  }

  -- where it drained, and perhaps else, somebody may still be to be told
  pub left_where : (drained other : Bool) (told : Option ℕ) → drained ≡ (v.outlet.write.above && not w.outlet.write.above) → told ≡ (if drained || other then Some n else None) → Leaves n most k told old new
  left_where drained other told is answer = subst (λ (o : Option ℕ). Leaves n most k o old new) (sym answer) (at drained other is)
    where
      at : (a b : Bool) → a ≡ (v.outlet.write.above && not w.outlet.write.above) → Leaves n most k (if a || b then Some n else None) old new
      at true b e = out_left
      at false true e = out_left
      at false false e = out_quiet (sym e)

-- somebody may be to be told, and nobody is
pub may_lag : {l : LimitKeys} {conns : PagedMap Conn} {flows : Flows} {h : WayHistory} → (n : ℕ) → Counts l None None conns flows h → Counts l (Some n) None conns flows h
may_lag {flows = flows} n c = record {
  sound = c.sound;
  each = c.each;
  unpaused = c.unpaused;
  living = c.living;
  over = c.over;
  marks = c.marks;
  known = c.known;
  told = λ b. inl (none_lags (pending_on flows.gates b) b (c.told b));
  turns = c.turns;
}

-- no connection is there, and none left
pub none_left : (n most : ℕ) (core : WireCore) → value_at n core.conns ≡ None → Leaves n most 0 None core core
none_left n most core gone_ = record {
  goes = λ h g start notes t. record {
    steps = t.steps;
    is = append-nil notes ∙ t.is;
    stands = t.stands;
    counts = t.counts;
    under = t.under;
    ways = t.ways;
    rows = t.rows;
    since = t.since;
    left = λ c. t.left c ∙ (sym (append-nil (g c)) ∙ ap (λ xs. g c ++ xs) (sym (nothing c (n == c) refl)));
  };
}
  where
    no_front : (xs : List ℕ) → xs ≡ [] → take most xs ≡ []
    no_front xs e = ap (take most) e ∙ of_none most
      where
        of_none : (j : ℕ) → take {A = ℕ} j [] ≡ []
        of_none zero = refl
        of_none (suc j) = refl

    nothing : (c : ℕ) (b : Bool) → (n == c) ≡ b → (if b then take most (octets_of c core.conns) else []) ≡ []
    nothing c true same = no_front (octets_of c core.conns) (ap (λ d. octets_of d core.conns) (sym (is_number n c same)) ∙ ap (λ (o : Option Conn). option_map_or (λ conn. conn.outlet.write.octets) o []) gone_)
    nothing c false other = refl
