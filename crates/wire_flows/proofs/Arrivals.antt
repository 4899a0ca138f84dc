-- What octets that came leave.
use Rattle.exchange_core.specs.Changes.{ChangesFlow}
use Rattle.exchange_core.specs.Effects.{arrived, received, received_by}
use Rattle.exchange_core.specs.Exchanges.{Exchanges, IsSound as AreSoundExchanges}
use Rattle.exchange_core.specs.Flow.{Flow}
use Rattle.exchange_core.specs.Message.{head_came}
use Rattle.exchange_core.specs.declared.step.Received.{Received}
use Rattle.exchange_core.specs.declared.step.Received.TheVariants as got
use Rattle.flow_gate.proofs.SameIds.{same_flow_exact}
use Rattle.flow_gate.specs.Board.{Board}
use Rattle.flow_gate.specs.Ids.{same_flow}
use Rattle.flow_rules.specs.declared.ids.FlowId.{FlowId}
use Rattle.std.proofs.Common.{ap, arith, refl, subst, sym, ◌∙◌}
use Rattle.std.proofs.lemmas.List.{length-append}
use Rattle.std.specs.Option.{option_map_or}
use Rattle.std.specs.Prelude.{Bool, IfSome, List, None, Option, Some, false, if◌then◌else◌, is_some, length, nat_le, option_map, true, ℕ, ◌*◌, ◌+◌, ◌++◌, ◌≡◌, ◌≤◌}
use Rattle.wire_flows.proofs.Answering.{keeps_same, sound_changed}
use Rattle.wire_flows.proofs.Boards.{keeps_writes, same_write}
use Rattle.wire_flows.proofs.Calls.{received_kept}
use Rattle.wire_flows.proofs.Cases.{by_case}
use Rattle.wire_flows.proofs.Found.{flow_after, flow_is}
use Rattle.wire_flows.proofs.Going.{go_more}
use Rattle.wire_flows.proofs.Kept.{gates_same, keeps_live}
use Rattle.wire_flows.proofs.Ways.{received_way}
use Rattle.wire_flows.specs.Flows.{ChangesLeft, Flows, IsThere, KeepsLive, flow_in, left_in, time_of}
use Rattle.wire_flows.specs.Measure.{to_go}
use Rattle.wire_flows.specs.Sound.{IsSound}
use Rattle.wire_flows.specs.Writes.{KeepsWrites}

-- how much the receive buffer of the flow holds then
pub changes_left : (f : FlowId) (change : Flow → Flow) (old : Flows) (ex : Exchanges) (board : Board) (flow : Flow) (n : ℕ) → ChangesFlow f change old.exchanges ex → flow_in old f ≡ Some flow
    → length (change flow).recv ≡ n → ChangesLeft f n old (record { exchanges = ex; gates = board })
changes_left f change old ex board flow n c found long = record {
  left = λ g. ap (λ o. option_map_or (λ flow. length flow.recv) o 0) (flow_after f change old.exchanges ex c g) ∙ by_case (same_flow f g)
      (λ is. ap (λ b. option_map_or (λ flow. length flow.recv) (if b then option_map change (flow_in old g) else flow_in old g) 0) is
      ∙ (ap (λ o. option_map_or (λ flow. length flow.recv) (option_map change o) 0) (ap (flow_in old) (sym (same_flow_exact f g is)) ∙ found)
      ∙ (long ∙ sym (ap (λ b. if b then n else left_in old g) is))))
      (λ other. ap (λ b. option_map_or (λ flow. length flow.recv) (if b then option_map change (flow_in old g) else flow_in old g) 0) other
      ∙ sym (ap (λ b. if b then n else left_in old g) other));
}

pub record Arrives (f : FlowId) (n : ℕ) (r : Received) (old new : Flows) : Type 0 where
  pub live : KeepsLive old new
  pub left : r ≡ got.Arrived → ChangesLeft f (left_in old f + n) old new
  pub time : time_of new ≡ time_of old
  pub writes : KeepsWrites old new
  pub go : to_go new ≤ to_go old + 220 * n
  pub sound : IsSound new

module _ (f : FlowId) (octets : List ℕ) (r : Received) (old : Flows) (ex : Exchanges) (s : IsSound old) (sound : AreSoundExchanges ex)
    (answer : r ≡ received_by (length octets) (flow_in old f)) (changed : IsThere old f → ChangesFlow f (received octets) old.exchanges ex) (same : (r ≡ got.Arrived → ⊥) → ex ≡ old.exchanges)
    (headed : IfSome (flow_in old f) (λ flow. head_came flow.message ≡ true)) where
  abbrev after : Flows
  after = record { exchanges = ex; gates = old.gates }

  pub arrives : Arrives f (length octets) r old after
  arrives = by_found (flow_in old f) refl
    where
      not_there : r ≡ got.NotLive → Arrives f (length octets) r old after
      not_there e =
          let stays = same (λ a. let bad : got.NotLive ≡ got.Arrived = sym e ∙ a in cc) in
          subst (λ x. Arrives f (length octets) r old (record { exchanges = x; gates = old.gates })) (sym stays) (record {
            live = (keeps_same old).live;
            left = λ a. let bad : got.NotLive ≡ got.Arrived = sym e ∙ a in cc;
            time = refl;
            writes = (keeps_same old).writes;
            go = omega arith;
            sound = s;
          })

      long : (flow : Flow) → flow_in old f ≡ Some flow → r ≡ got.Arrived → length (received octets flow).recv ≡ left_in old f + length octets
      long flow found a = by_case (nat_le (length flow.recv + length octets) flow.window)
          (λ fits. ap (λ b. length (if b then arrived octets flow else flow).recv) fits ∙ (length-append flow.recv octets ∙ ap (λ o. option_map_or (λ x. length x.recv) o 0 + length octets) (sym found)))
          (λ many.
          let bad : got.TooMany ≡ got.Arrived = sym (answer ∙ (ap (received_by (length octets)) found ∙ ap (λ b. if b then got.Arrived else got.TooMany) many)) ∙ a in cc)

      there : (flow : Flow) → flow_in old f ≡ Some flow → Arrives f (length octets) r old after
      there flow found =
          let is : IsThere old f = ap is_some found in
          let c = changed is in
          let came = subst (λ o. IfSome o (λ x. head_came x.message ≡ true)) found headed in
          let kept = λ (x : Flow) (e : flow_in old f ≡ Some x). received_kept octets old.gates x (subst (λ o. IfSome o (λ y. head_came y.message ≡ true)) e headed) in
          record {
            live = keeps_live f (received octets) old ex old.gates c (gates_same f old.gates) kept;
            left = λ a. changes_left f (received octets) old ex old.gates flow (left_in old f + length octets) c found (long flow found a);
            time = c.flow.time;
            writes = keeps_writes old after (λ d. same_write d old.gates);
            go = go_more f (received octets) old after c s.exchanges sound (λ d. refl) (220 * length octets) flow found (received_way octets flow (flow_is old.exchanges f flow s.exchanges found).sound.chain.few.1);
            sound = sound_changed f (received octets) old ex s is sound c kept;
          }

      by_found : (o : Option Flow) → flow_in old f ≡ o → Arrives f (length octets) r old after
      by_found None e = not_there (answer ∙ ap (received_by (length octets)) e)
      by_found (Some flow) e = there flow e
