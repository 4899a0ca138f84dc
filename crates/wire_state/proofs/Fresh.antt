-- What the counts are of a core before its first event.
use Rattle.exchange_core.specs.Exchange.{flow_in as side_of}
use Rattle.exchange_core.specs.Exchanges.{exchange_at}
use Rattle.exchange_core.specs.Flow.{Flow}
use Rattle.exchange_core.specs.declared.exchange.Exchange.{Exchange}
use Rattle.flow_gate.specs.Board.{is_marked, pending_on, times, times_of_buffer}
use Rattle.flow_rules.specs.declared.ids.BufferId.{BufferId}
use Rattle.flow_rules.specs.declared.ids.BufferId.TheVariants as buffer
use Rattle.flow_rules.specs.declared.ids.FlowId.{FlowId}
use Rattle.paged_map.specs.PagedMap.{PagedMap, value_at}
use Rattle.proxy_config.specs.declared.config.LimitKeys.{LimitKeys}
use Rattle.std.proofs.Common.{ap, arith, inl, refl, subst, sym, ◌∙◌}
use Rattle.std.specs.BTreeMap.{is_at}
use Rattle.std.specs.Map.{lookup}
use Rattle.std.specs.Option.{option_and_then, option_map_or}
use Rattle.std.specs.Ordering.{nat_cmp}
use Rattle.std.specs.Prelude.{IfSome, List, None, Option, [], false, is_some, nat_eq, ℕ, ◌≡◌, ◌≤◌}
use Rattle.wire_flows.proofs.Boards.{write_of, write_seen}
use Rattle.wire_flows.specs.Flows.{Flows, flow_in, goes_to, is_live_in, watches_of}
use Rattle.wire_flows.specs.Sound.{IsEmpty, IsSound}
use Rattle.wire_flows.specs.Writes.{Write, write_at}
use Rattle.wire_state.proofs.Untold.{all_none}
use Rattle.wire_state.specs.Counts.{Counts, IsCounted, is_above_at}
use Rattle.wire_state.specs.declared.conn.Conn.{Conn}

nobody : (flows : Flows) → flows.exchanges.live ≡ [] → (f : FlowId) → flow_in flows f ≡ None
unfolding exchange_at
nobody flows e f = ap (λ (es : List (ℕ × Exchange)). option_and_then (side_of f.back) (lookup (nat_eq f.exchange) es)) e

none_live : (flows : Flows) → flows.exchanges.live ≡ [] → (x : ℕ) → is_live_in flows x ≡ false
unfolding exchange_at
none_live flows e x = ap (λ (es : List (ℕ × Exchange)). is_some (lookup (nat_eq x) es)) e

no_conn : (conns : PagedMap Conn) → conns.entries ≡ [] → (c : ℕ) → value_at c conns ≡ None
no_conn conns e c = ap (λ (es : List (ℕ × Conn)). lookup (is_at (nat_cmp c)) es) e

unknown : (flows : Flows) → IsEmpty flows → (c : ℕ) → write_at c flows ≡ None
unknown flows empty c = write_seen c flows ∙ ap (λ b. write_of b (is_marked flows.gates (buffer.Write c)) (pending_on flows.gates (buffer.Write c))) (empty.writes c)

untold : (flows : Flows) → IsEmpty flows → IsSound flows → (b : BufferId) → pending_on flows.gates b ≡ []
untold flows empty sound b = all_none (pending_on flows.gates b) few
  where
    least : (m n k : ℕ) → m ≤ n → n ≡ k → k ≡ 0 → m ≡ 0
    least m n k le e z = omega (arith, le, e, z)

    few : (f : FlowId) → times f (pending_on flows.gates b) ≡ 0
    few f = least _ _ _ (sound.gates.pending f b) (sound.gates.paired f b)
        (ap (times_of_buffer b) (sound.watched f ∙ ap (λ (o : Option Flow). option_map_or (watches_of (goes_to flows f)) o []) (nobody flows empty.live f)))

pub first_counts : (l : LimitKeys) (conns : PagedMap Conn) (flows : Flows) → conns.entries ≡ [] → IsEmpty flows → IsSound flows → Counts l None None conns flows []
first_counts l conns flows none empty sound = record {
  sound = sound;
  each = λ f. subst (λ (o : Option Flow). IfSome o (IsCounted l flows f [])) (sym (nobody flows empty.live f)) tt;
  unpaused = λ f lt. (refl, refl);
  living = λ x. sym (none_live flows empty.live x);
  over = not_above;
  marks = λ c. ap (λ (o : Option Write). option_map_or (λ w. w.above) o false) (unknown flows empty c) ∙ sym (not_above c);
  known = λ c there. absurd (cc (ap is_some (no_conn conns none c), there));
  told = λ b. inl (untold flows empty sound b);
  turns = tt;
}
  where
    not_above : (c : ℕ) → is_above_at c conns ≡ false
    not_above c = ap (λ (o : Option Conn). option_map_or (λ conn. conn.outlet.write.above) o false) (no_conn conns none c)
