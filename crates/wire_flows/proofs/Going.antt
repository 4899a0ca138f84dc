-- How much is still to do, where one exchange changed.
use Rattle.exchange_core.specs.Changes.{ChangesFlow}
use Rattle.exchange_core.specs.Exchange.{flow_changed, flow_id, flow_in as side_of}
use Rattle.exchange_core.specs.Exchanges.{Exchanges, IsSound as AreSoundExchanges, exchange_at, flow_at}
use Rattle.exchange_core.specs.Flow.{Flow}
use Rattle.exchange_core.specs.declared.exchange.Exchange.{Exchange}
use Rattle.flow_gate.specs.Board.{Board, pending_on, times}
use Rattle.flow_rules.specs.declared.ids.FlowId.{FlowId}
use Rattle.std.proofs.Common.{ap, arith, refl, sym, ◌∙◌}
use Rattle.std.proofs.lemmas.Option.{none-some, same_Some}
use Rattle.std.specs.Option.{option_and_then, option_map_or}
use Rattle.std.specs.Prelude.{Bool, List, None, Option, Some, false, option_map, true, ℕ, ◌*◌, ◌+◌, ◌==◌, ◌≡◌, ◌≤◌}
use Rattle.wire_flows.proofs.Cases.{same_number}
use Rattle.wire_flows.proofs.Found.{at_other, at_same, target_after}
use Rattle.wire_flows.proofs.Sums.{changed_sum}
use Rattle.wire_flows.specs.Flows.{Flows, flow_in, goes_to}
use Rattle.wire_flows.specs.Measure.{all_of, flow_way, low_of, lows_of, to_go, way}
use Rattle.wire_flows.specs.Writes.{lows_on}
use Rattle.flow_rules.specs.declared.ids.BufferId.TheVariants as buffer

-- what an exchange has to go, 0 where it isn't live
abbrev pub all_at : Flows → ℕ → ℕ
all_at flows x = option_map_or (all_of flows x) (exchange_at flows.exchanges x) 0

-- at all numbers but x the same is to go
pub go_changes : (x : ℕ) (old new : Flows) → AreSoundExchanges old.exchanges → AreSoundExchanges new.exchanges
    → ((y : ℕ) → (x == y) ≡ false → all_at new y ≡ all_at old y) → to_go new + all_at old x ≡ to_go old + all_at new x
unfolding to_go exchange_at
go_changes x old new s t same = changed_sum (all_of old) (all_of new) x old.exchanges.live new.exchanges.live s.order t.order same

-- ---- one flow changed, and nobody was told
pub lows_same : (old new : Flows) → ((f : FlowId) → goes_to new f ≡ goes_to old f) → ((c : ℕ) → lows_on c new ≡ lows_on c old) → (x : ℕ) → lows_of new x ≡ lows_of old x
lows_same old new goes lows x = λ i. one (flow_id x false) i + one (flow_id x true) i
  where
    one : (f : FlowId) → low_of new f ≡ low_of old f
    one f = ap (λ to. option_map_or (λ c. times f (lows_on c new)) to 0) (goes f) ∙ by_target (goes_to old f)
      where
        by_target : (to : Option ℕ) → option_map_or (λ c. times f (lows_on c new)) to 0 ≡ option_map_or (λ c. times f (lows_on c old)) to 0
        by_target None = refl
        by_target (Some c) = ap (times f) (lows c)

way_changed : (change : Flow → Flow) (a : Bool) (o : Option Exchange) (flow : Flow) → option_and_then (side_of a) o ≡ Some flow
    → option_map_or way (option_map (flow_changed change a) o) 0 + flow_way flow ≡ option_map_or way o 0 + flow_way (change flow)
way_changed change a None flow found = absurd (none-some flow found)
way_changed change false (Some e) flow found =
    let same : e.request ≡ flow = same_Some e.request flow found in
    sums (flow_way e.request) (flow_way (change e.request)) (flow_way flow) (flow_way (change flow)) (option_map_or flow_way e.response 0) (ap flow_way same) (ap (λ f. flow_way (change f)) same)
  where
    sums : (a b c d r : ℕ) → a ≡ c → b ≡ d → (64 + (b + r)) + c ≡ (64 + (a + r)) + d
    sums a b c d r e f = omega (arith, e, f)
way_changed change true (Some e) flow found = by_response e.response found
  where
    by_response : (o : Option Flow) → o ≡ Some flow → (64 + (flow_way e.request + option_map_or flow_way (option_map change o) 0)) + flow_way flow ≡ (64 + (flow_way e.request + option_map_or flow_way o 0)) + flow_way (change flow)
    by_response None is = absurd (none-some flow is)
    by_response (Some r) is = sums (flow_way e.request) (flow_way r) (flow_way (change r)) (flow_way flow) (flow_way (change flow)) (ap flow_way (same_Some r flow is)) (ap (λ f. flow_way (change f)) (same_Some r flow is))
      where
        sums : (q a b c d : ℕ) → a ≡ c → b ≡ d → (64 + (q + b)) + c ≡ (64 + (q + a)) + d
        sums q a b c d e f = omega (arith, e, f)

-- of an exchange that is live both parts count
all_parts : (flows : Flows) (x : ℕ) (o : Option Exchange) (flow : Flow) (a : Bool) → option_and_then (side_of a) o ≡ Some flow → option_map_or (all_of flows x) o 0 ≡ option_map_or way o 0 + 16 * lows_of flows x
all_parts flows x None flow a found = absurd (none-some flow found)
all_parts flows x (Some e) flow a found = refl

changed_parts : (flows : Flows) (x : ℕ) (change : Flow → Flow) (o : Option Exchange) (flow : Flow) (a : Bool) → option_and_then (side_of a) o ≡ Some flow
    → option_map_or (all_of flows x) (option_map (flow_changed change a) o) 0 ≡ option_map_or way (option_map (flow_changed change a) o) 0 + 16 * lows_of flows x
changed_parts flows x change None flow a found = absurd (none-some flow found)
changed_parts flows x change (Some e) flow a found = refl

module _ (f : FlowId) (change : Flow → Flow) (old new : Flows) (c : ChangesFlow f change old.exchanges new.exchanges)
    (s : AreSoundExchanges old.exchanges) (t : AreSoundExchanges new.exchanges) (lows : (d : ℕ) → lows_on d new ≡ lows_on d old) where
  lows_after : (x : ℕ) → lows_of new x ≡ lows_of old x
  lows_after = lows_same old new (target_after f change old.exchanges new.exchanges c) lows

  all_other : (y : ℕ) → (f.exchange == y) ≡ false → all_at new y ≡ all_at old y
  all_other y other = ap (λ o. option_map_or (all_of new y) o 0) (at_other f change old.exchanges new.exchanges c y other) ∙ by_found (exchange_at old.exchanges y)
    where
      by_found : (o : Option Exchange) → option_map_or (all_of new y) o 0 ≡ option_map_or (all_of old y) o 0
      by_found None = refl
      by_found (Some e) = ap (λ n. way e + 16 * n) (lows_after y)

  pub go_flow : (flow : Flow) → flow_in old f ≡ Some flow → to_go new + flow_way flow ≡ to_go old + flow_way (change flow)
  go_flow flow found =
      let x = f.exchange in
      let o = exchange_at old.exchanges x in
      let there = ap (λ e. option_map_or (all_of new x) e 0) (at_same f change old.exchanges new.exchanges c x (same_number x)) ∙ changed_parts new x change o flow f.back found in
      let was = all_parts old x o flow f.back found in
      let moved = way_changed change f.back o flow found in
      sums (to_go new) (to_go old) (all_at new x) (all_at old x) (option_map_or way (option_map (flow_changed change f.back) o) 0) (option_map_or way o 0) (lows_of new x) (lows_of old x) (flow_way flow) (flow_way (change flow))
      (go_changes x old new s t all_other) there was moved (lows_after x)
    where
      sums : (n o an ao wn wo ln lo a b : ℕ) → n + ao ≡ o + an → an ≡ wn + 16 * ln → ao ≡ wo + 16 * lo → wn + a ≡ wo + b → ln ≡ lo → n + a ≡ o + b
      sums n o an ao wn wo ln lo a b e1 e2 e3 e4 e5 = omega (arith, e1, e2, e3, e4, e5)

  -- where the change takes the flow's way down or up by so much
  pub go_more : (k : ℕ) (flow : Flow) → flow_in old f ≡ Some flow → flow_way (change flow) ≤ flow_way flow + k → to_go new ≤ to_go old + k
  go_more k flow found more = sums (to_go new) (to_go old) (flow_way flow) (flow_way (change flow)) k (go_flow flow found) more
    where
      sums : (n o a b k : ℕ) → n + a ≡ o + b → b ≤ a + k → n ≤ o + k
      sums n o a b k e l = omega (arith, e, l)

  pub go_less : (k : ℕ) (flow : Flow) → flow_in old f ≡ Some flow → flow_way (change flow) + k ≤ flow_way flow → to_go new + k ≤ to_go old
  go_less k flow found less = sums (to_go new) (to_go old) (flow_way flow) (flow_way (change flow)) k (go_flow flow found) less
    where
      sums : (n o a b k : ℕ) → n + a ≡ o + b → b + k ≤ a → n + k ≤ o
      sums n o a b k e l = omega (arith, e, l)
