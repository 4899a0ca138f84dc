-- What the calls that name a flow leave, where the gates stay.
use Rattle.exchange_core.proofs.Outcomes.{at_found, either, on_err}
use Rattle.exchange_core.specs.Changes.{ChangesFlow, KnowsFlows}
use Rattle.exchange_core.specs.Effects.{finished, headed, list_framed}
use Rattle.exchange_core.specs.Exchange.{flow_id, flow_in as side_of}
use Rattle.exchange_core.specs.Exchanges.{Exchanges, IsSound as AreSoundExchanges, exchange_at}
use Rattle.exchange_core.specs.Flow.{Flow, held_by}
use Rattle.exchange_core.specs.Message.{fields_of, head_came}
use Rattle.exchange_core.specs.Replies.{reckoning}
use Rattle.exchange_core.specs.Units.{IsFrameable, list_may_end}
use Rattle.exchange_core.specs.declared.exchange.Exchange.{Exchange}
use Rattle.exchange_core.specs.declared.causes.Doomed.{Doomed}
use Rattle.flow_rules.specs.declared.causes.Cause.{Cause}
use Rattle.flow_rules.specs.declared.unit.Unit.TheVariants.{Head}
use Rattle.hpack_codec.specs.declared.fields.Field.{Field}
use Rattle.flow_rules.specs.declared.ids.FlowId.{FlowId}
use Rattle.io_ports.specs.declared.octets.NoMemory.{NoMemory}
use Rattle.std.proofs.Common.{ap, arith, refl, subst, sym, ◌∙◌}
use Rattle.std.proofs.lemmas.Option.{none-some, same_Some}
use Rattle.std.specs.Option.{option_and_then, option_map_or}
use Rattle.std.specs.Prelude.{Bool, IfSome, IsSome, IsTrue, List, None, OnErr, OnOk, Option, Result, Some, false, is_some, length, option_map, option_to_list, suc, true, zero, ℕ, ◌+◌, ◌++◌, ◌<◌, ◌∷◌, ◌≡◌, ◌≤◌}
use Rattle.wire_flows.proofs.Boards.{keeps_writes, same_write}
use Rattle.wire_flows.proofs.Calls.{finished_kept, headed_kept, headed_left, listed_kept}
use Rattle.wire_flows.proofs.Cases.{if_found, not_both}
use Rattle.wire_flows.proofs.Going.{go_less, go_more}
use Rattle.wire_flows.proofs.Kept.{KeepsFlow, gates_same, keeps_left, keeps_live, sound_after}
use Rattle.wire_flows.proofs.Ways.{finished_way, headed_way, listed_way}
use Rattle.wire_flows.specs.Flows.{Flows, IsThere, flow_in, left_in}
use Rattle.wire_flows.specs.Measure.{flow_way, to_go}
use Rattle.wire_flows.specs.Sound.{AreBounded, IsBounded, IsSound, IsWhole, IsWireFlow}
use Rattle.wire_flows.specs.Writes.{Keeps}

-- all that callers look at is kept, with at most so much more to go
pub record Done (k : ℕ) (old new : Flows) : Type 0 where
  pub keeps : Keeps old new
  pub go : to_go new ≤ to_go old + k
  pub sound : IsSound new

pub keeps_same : (flows : Flows) → Keeps flows flows
keeps_same flows = record {
  live = record { live = λ x. refl; there = λ f. refl; goes = λ f. refl };
  left = record { left = λ f. refl };
  time = refl;
  writes = keeps_writes flows flows (λ c. same_write c flows.gates);
}

pub done_same : (k : ℕ) (old : Flows) (ex : Exchanges) → IsSound old → ex ≡ old.exchanges → Done k old (record { exchanges = ex; gates = old.gates })
done_same k old ex s e = subst (λ x. Done k old (record { exchanges = x; gates = old.gates })) (sym e) (record { keeps = keeps_same old; go = omega arith; sound = s })

pub there_found : (old : Flows) (f : FlowId) → IsThere old f → (flow : Flow) × (flow_in old f ≡ Some flow)
there_found old f there = by_found (flow_in old f) there
  where
    by_found : (o : Option Flow) → is_some o ≡ true → (flow : Flow) × (o ≡ Some flow)
    by_found None some = cc
    by_found (Some flow) some = (flow, refl)

module _ (f : FlowId) (change : Flow → Flow) (old : Flows) (ex : Exchanges) (s : IsSound old) (there : IsThere old f) (sound : AreSoundExchanges ex) (c : ChangesFlow f change old.exchanges ex)
    (kept : (flow : Flow) → flow_in old f ≡ Some flow → KeepsFlow old.gates old.gates flow (change flow)) where
  abbrev after : Flows
  after = record { exchanges = ex; gates = old.gates }

  pub sound_changed : IsSound after
  sound_changed = sound_after f change old ex old.gates c (gates_same f old.gates) kept s sound s.gates

  pub keeps_changed : ((flow : Flow) → flow_in old f ≡ Some flow → length (change flow).recv ≡ length flow.recv) → Keeps old after
  keeps_changed left = record {
    live = keeps_live f change old ex old.gates c (gates_same f old.gates) kept;
    left = keeps_left f change old ex old.gates c left;
    time = c.flow.time;
    writes = keeps_writes old after (λ d. same_write d old.gates);
  }

  pub done_changed : (k : ℕ) → ((flow : Flow) → length (change flow).recv ≡ length flow.recv) → ((flow : Flow) → flow_way (change flow) ≤ flow_way flow + k) → Done k old after
  done_changed k left more =
      let found = there_found old f there in
      record {
        keeps = keeps_changed (λ flow is. left flow);
        go = go_more f change old after c s.exchanges sound (λ d. refl) k found.0 found.1 (more found.0);
        sound = sound_changed;
      }

-- ---- each call
module _ (f : FlowId) (old : Flows) (ex : Exchanges) (s : IsSound old) (there : IsThere old f) (sound : AreSoundExchanges ex) where
  pub head_done : (fields : List Field) (last : Bool) (r : Result (Unit {0}) NoMemory) → OnOk r (ChangesFlow f (headed fields last) old.exchanges ex) → OnErr r (ex ≡ old.exchanges) → Done 40 old (record { exchanges = ex; gates = old.gates })
  head_done fields last r ok err = either _ _ _ r ok err
      (λ c. done_changed f (headed fields last) old ex s there sound c (λ flow found. headed_kept fields last old.gates flow) 40 (headed_left fields last) (headed_way fields last))
      (done_same 40 old ex s)

  pub finish_done : (trailers : Option (List Field)) (r : Result (Unit {0}) NoMemory) → OnOk r (ChangesFlow f (finished trailers) old.exchanges ex) → OnErr r (ex ≡ old.exchanges) → Done 40 old (record { exchanges = ex; gates = old.gates })
  finish_done trailers r ok err = either _ _ _ r ok err
      (λ c. done_changed f (finished trailers) old ex s there sound c (λ flow found. finished_kept trailers old.gates flow) 40 (λ flow. refl) (finished_way trailers))
      (done_same 40 old ex s)

  -- of a list that was framed forty less is to go
  module _ (last : Bool) (c : ChangesFlow f (list_framed last) old.exchanges ex) (waits : IfSome (flow_in old f) (λ flow. IsSome (fields_of flow.message))) where
    pub list_sound : IsSound (record { exchanges = ex; gates = old.gates })
    list_sound = sound_changed f (list_framed last) old ex s there sound c (λ flow found. listed_kept last old.gates flow)

    pub list_keeps : Keeps old (record { exchanges = ex; gates = old.gates })
    list_keeps = keeps_changed f (list_framed last) old ex s there sound c (λ flow found. listed_kept last old.gates flow) (λ flow found. refl)

    pub list_less : to_go (record { exchanges = ex; gates = old.gates }) + 40 ≤ to_go old
    list_less =
        let found = there_found old f there in
        go_less f (list_framed last) old (record { exchanges = ex; gates = old.gates }) c s.exchanges sound (λ d. refl) 40 found.0 found.1 (listed_way last found.0 (subst (λ o. IfSome o (λ flow. IsSome (fields_of flow.message))) found.1 waits))

-- ---- what is known of a flow that is there
side_wire : (b : Bool) (o : Option Exchange) (flow : Flow) → IfSome o IsWhole → option_and_then (side_of b) o ≡ Some flow → IsWireFlow flow
side_wire b None flow w found = absurd (none-some flow found)
side_wire false (Some e) flow w found = subst IsWireFlow (same_Some e.request flow found) w.request_is
side_wire true (Some e) flow w found = at_found IsWireFlow e.response flow found w.response_is

pub wire_found : (old : Flows) (f : FlowId) (flow : Flow) → IsSound old → flow_in old f ≡ Some flow → IsWireFlow flow
wire_found old f flow s found = side_wire f.back (exchange_at old.exchanges f.exchange) flow (s.each f.exchange) found

pub all_bounded : (old : Flows) → IsSound old → AreBounded old
all_bounded old s = record { each = λ f. by_found f (flow_in old f) refl }
  where
    by_found : (f : FlowId) (o : Option Flow) → flow_in old f ≡ o → IfSome o IsBounded
    by_found f None e = tt
    by_found f (Some flow) e = (wire_found old f flow s e).bounded

-- before the head nothing of a body is there
pub alone_of : (f : FlowId) (old : Flows) (last : Bool) → IsSound old → IfSome (flow_in old f) (λ flow. head_came flow.message ≡ false) → IfSome (flow_in old f) (λ flow. last ≡ true → held_by flow ≡ 0)
alone_of f old last s first = by_found (flow_in old f) refl first
  where
    by_found : (o : Option Flow) → flow_in old f ≡ o → IfSome o (λ flow. head_came flow.message ≡ false) → IfSome o (λ flow. last ≡ true → held_by flow ≡ 0)
    by_found None e first = tt
    by_found (Some flow) e first = λ is. none (held_by flow) (λ some. not_both (head_came flow.message) ((wire_found old f flow s e).headed some) first)
      where
        none : (n : ℕ) → (0 < n → ⊥) → n ≡ 0
        none zero k = refl
        none (suc n) k = absurd (k (omega arith))

-- ---- a list that may be framed
pub waits_of : (f : FlowId) (old : Flows) (last : Bool) → IfSome (flow_in old f) (IsFrameable (Head last)) → IfSome (flow_in old f) (λ flow. IsSome (fields_of flow.message))
waits_of f old last may = if_found (IsFrameable (Head last)) (λ flow. IsSome (fields_of flow.message)) (flow_in old f) (λ flow found is. is.0) may

pub may_end : (f : FlowId) (old : Flows) (last : Bool) → IfSome (flow_in old f) (IsFrameable (Head last)) → last ≡ true → IfSome (flow_in old f) (λ flow. IsTrue (list_may_end flow))
may_end f old last may is = if_found (IsFrameable (Head last)) (λ flow. IsTrue (list_may_end flow)) (flow_in old f) (λ flow found m. m.1 is) may

-- ---- out of memory
pub err_same : (old : Flows) (ex : Exchanges) (r : Result (Unit {0}) NoMemory) → OnErr r (ex ≡ old.exchanges) → OnErr r (◌≡◌ {A = Flows} (record { exchanges = ex; gates = old.gates }) old)
err_same old ex r err = on_err _ _ r err (λ e. ap (λ x. record { exchanges = x; gates = old.gates }) e)

-- ---- a sweep
pub one_fewer : (swept : Option ℕ) (old new : List ℕ) → old ≡ option_to_list swept ++ new → IfSome swept (λ x. length new < length old)
one_fewer None old new e = tt
one_fewer (Some x) old new e = let long : length old ≡ length (x ∷ new) = ap length e in omega (arith, long)

-- ---- a doom
known_in : (x : ℕ) (old : Flows) (o : Option Exchange) → IsSound old → exchange_at old.exchanges x ≡ o → IfSome o IsWhole → IfSome o (λ e. KnowsFlows x e old.gates)
known_in x old None s is w = tt
known_in x old (Some e) s is w = (
  s.there (flow_id x false) ∙ ap (λ o. is_some (option_and_then (side_of false) o)) is,
  λ some. s.there (flow_id x true) ∙ (ap (λ o. is_some (option_and_then (side_of true) o)) is ∙ some),
)

pub known_flows : (x : ℕ) (old : Flows) → IsSound old → IfSome (exchange_at old.exchanges x) (λ e. KnowsFlows x e old.gates)
known_flows x old s = known_in x old (exchange_at old.exchanges x) s refl (s.each x)

left_of : (x : ℕ) (cause : Cause) (back : Bool) (o : Option Exchange) (r : Doomed) → Some r ≡ option_map (reckoning cause back) o → (r.request_left ≡ option_map_or (λ flow. length flow.recv) (option_and_then (side_of false) o) 0)
    × (r.response_left ≡ option_map_or (λ flow. length flow.recv) (option_and_then (side_of true) o) 0)
left_of x cause back None r e = absurd (none-some r (sym e))
left_of x cause back (Some exchange) r e =
    let same : r ≡ reckoning cause back exchange = same_Some r (reckoning cause back exchange) e in
    (ap (λ (d : Doomed). d.request_left) same, ap (λ (d : Doomed). d.response_left) same)

pub request_left : (x : ℕ) (cause : Cause) (back : Bool) (old : Flows) (r : Doomed) → Some r ≡ option_map (reckoning cause back) (exchange_at old.exchanges x) → r.request_left ≡ left_in old (flow_id x false)
request_left x cause back old r e = (left_of x cause back (exchange_at old.exchanges x) r e).0

pub response_left : (x : ℕ) (cause : Cause) (back : Bool) (old : Flows) (r : Doomed) → Some r ≡ option_map (reckoning cause back) (exchange_at old.exchanges x) → r.response_left ≡ left_in old (flow_id x true)
response_left x cause back old r e = (left_of x cause back (exchange_at old.exchanges x) r e).1
