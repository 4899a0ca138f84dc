-- Where nobody is still to be told of a drain, a flow's count is the number of its sources that are above.
use Rattle.exchange_core.specs.Exchange.{flow_in as side_of}
use Rattle.exchange_core.specs.Exchanges.{exchange_at}
use Rattle.exchange_core.specs.Flow.{Flow}
use Rattle.exchange_core.specs.declared.exchange.Exchange.{Exchange}
use Rattle.flow_gate.specs.Board.{lows, pending_on, times, watched_by}
use Rattle.flow_rules.specs.declared.ids.BufferId.{BufferId}
use Rattle.flow_rules.specs.declared.ids.BufferId.TheVariants as buffer
use Rattle.flow_rules.specs.declared.ids.FlowId.{FlowId}
use Rattle.paged_map.specs.PagedMap.{PagedMap}
use Rattle.proxy_config.specs.declared.config.LimitKeys.{LimitKeys}
use Rattle.std.proofs.Common.{ap, arith, inl, inr, refl, subst, sym, ◌∙◌}
use Rattle.std.proofs.lemmas.List.Sums.{sum_by-cons}
use Rattle.std.specs.List.{AllByRecursion}
use Rattle.std.specs.Option.{option_and_then}
use Rattle.std.specs.Prelude.{Bool, IfSome, List, None, Option, Some, [], false, flat_map, is_some, sum_by, true, ℕ, ◌+◌, ◌-◌, ◌==◌, ◌||◌, ◌∷◌, ◌≡◌, ◌⊎◌}
use Rattle.tape_laws.specs.Dispatches.{has, live}
use Rattle.tape_laws.specs.Flows.{request, response}
use Rattle.tape_laws.specs.Headline.{CountsItsSources, Headline}
use Rattle.tape_laws.specs.Pauses.{count as count_at, pauses, resumes}
use Rattle.tape_laws.specs.Sources.{disabled}
use Rattle.wire_flows.specs.Flows.{Flows, flow_in, is_live_in}
use Rattle.wire_flows.specs.Sound.{IsWhole}
use Rattle.wire_links.specs.Links.{Links}
use Rattle.wire_state.proofs.Held.{number_same}
use Rattle.wire_state.proofs.Promised.{headline_of, promised}
use Rattle.wire_state.specs.Counts.{Counts, IsCounted, MayLag}
use Rattle.wire_state.specs.Tapes.{tape_setup}
use Rattle.wire_state.specs.Ways.{WayHistory}
use Rattle.wire_state.specs.Worlds.{Rests}
use Rattle.wire_state.specs.declared.conn.Conn.{Conn}

none_pending : (f : FlowId) (told : BufferId → List FlowId) → ((b : BufferId) → told b ≡ []) → (bs : List BufferId) → sum_by (λ b. times f (told b)) bs ≡ 0
none_pending f told e [] = refl
none_pending f told e (b ∷ bs) = let now : times f (told b) ≡ 0 = ap (times f) (e b) in let rest = none_pending f told e bs in omega (arith, sum_by-cons (λ c. times f (told c)) b bs, now, rest)

-- nobody may lag
pub none_lags : (xs : List FlowId) (b : BufferId) → (xs ≡ []) ⊎ MayLag None None b → xs ≡ []
none_lags xs b (inl none) = none
none_lags xs (buffer.Write c) (inr may) = cc
none_lags xs (buffer.Stage f p) (inr may) = cc
none_lags xs (buffer.Send f) (inr may) = absurd may
none_lags xs (buffer.Recv f) (inr may) = absurd may

or_here : (x : ℕ) (xs : List ℕ) → has (x ∷ xs) x ≡ true
or_here x xs = ap (λ b. b || has xs x) (number_same x)

or_behind : (a b : Bool) → b ≡ true → (a || b) ≡ true
or_behind true b e = refl
or_behind false b e = e

each_live : (P : FlowId → Type 0) (xs : List ℕ) → ((x : ℕ) → has xs x ≡ true → P (request x) × P (response x)) → AllByRecursion P (flat_map (λ x. request x ∷ response x ∷ []) xs)
each_live P [] each = tt
each_live P (x ∷ xs) each = let now = each x (or_here x xs) in (now.0, (now.1, each_live P xs (λ y e. each y (or_behind (x == y) (has xs y) e))))

module _ (l : LimitKeys) (conns : PagedMap Conn) (flows : Flows) (h : WayHistory) (c : Counts l None None conns flows h) where
  flow_counted : (f : FlowId) (flow : Flow) → IsCounted l flows f h flow → count_at f h ≡ disabled (tape_setup l) f h
  flow_counted f flow counted =
      let none : lows flows.gates f ≡ 0 = none_pending f (pending_on flows.gates) (λ b. none_lags (pending_on flows.gates b) b (c.told b)) (watched_by flows.gates f) in
      left (pauses f h) (resumes f h) (disabled (tape_setup l) f h) (lows flows.gates f) counted.paused none
    where
      left : (a b d w : ℕ) → a ≡ b + (d + w) → w ≡ 0 → a - b ≡ d
      left a b d w e z = omega (arith, e, z)

  there : (x : ℕ) (back : Bool) → is_live_in flows x ≡ true → is_some (flow_in flows (record { exchange = x; back = back })) ≡ true
  there x back e = at back (exchange_at flows.exchanges x) refl e (c.sound.each x)
    where
      at : (back : Bool) (o : Option Exchange) → exchange_at flows.exchanges x ≡ o → is_some (exchange_at flows.exchanges x) ≡ true → IfSome (exchange_at flows.exchanges x) IsWhole → is_some (flow_in flows (record { exchange = x; back = back })) ≡ true
      at back None is e whole = cc (ap is_some is, e)
      at false (Some v) is e whole = ap (λ (o : Option Exchange). is_some (option_and_then (side_of false) o)) is
      at true (Some v) is e whole = ap (λ (o : Option Exchange). is_some (option_and_then (side_of true) o)) is ∙ (subst (λ (o : Option Exchange). IfSome o IsWhole) is whole).both

  found_counted : (f : FlowId) → is_some (flow_in flows f) ≡ true → count_at f h ≡ disabled (tape_setup l) f h
  found_counted f some = at (flow_in flows f) some (c.each f)
    where
      at : (o : Option Flow) → is_some o ≡ true → IfSome o (IsCounted l flows f h) → count_at f h ≡ disabled (tape_setup l) f h
      at None s k = cc
      at (Some flow) s k = flow_counted f flow k

  pub counts_sources : CountsItsSources (tape_setup l) h
  counts_sources = each_live (λ f. count_at f h ≡ disabled (tape_setup l) f h) (live h) (λ x alive.
      let lives = sym (c.living x) ∙ alive in
      (found_counted (request x) (there x false lives), found_counted (response x) (there x true lives)))

-- between two dispatches the tape has all that it promises, as that of a plain session has
pub rests_headline : {l : LimitKeys} → (conns : PagedMap Conn) (flows : Flows) (links : Links) (h : WayHistory) → Rests l conns flows links h → Headline (tape_setup l) h
rests_headline {l} conns flows links h r = headline_of h (promised conns flows links h r.stands) r.counts.turns (counts_sources l conns flows h r.counts)
