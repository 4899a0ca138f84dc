-- What is found of the flows after one of them was changed.
use Rattle.exchange_core.proofs.Outcomes.{at_found}
use Rattle.exchange_core.specs.Changes.{ChangesFlow}
use Rattle.exchange_core.specs.Exchange.{IsFlowOf, IsSoundExchange, flow_changed, flow_id, flow_in as side_of, goes_to as side_goes}
use Rattle.exchange_core.specs.Exchanges.{Exchanges, IsSound as AreSoundExchanges, exchange_at, flow_at, is_live, target_of}
use Rattle.exchange_core.specs.Flow.{Flow}
use Rattle.exchange_core.specs.declared.exchange.Exchange.{Exchange}
use Rattle.flow_gate.specs.Ids.{same_flow}
use Rattle.flow_rules.specs.declared.ids.FlowId.{FlowId}
use Rattle.std.proofs.Common.{ap, refl, subst, sym, ◌∙◌}
use Rattle.std.proofs.lemmas.Option.{none-some, same_Some}
use Rattle.std.specs.Option.{option_and_then}
use Rattle.std.specs.Prelude.{Bool, IfSome, None, Option, Some, false, if◌then◌else◌, is_some, not, option_map, true, ℕ, ◌&&◌, ◌==◌, ◌≡◌}
use Rattle.wire_flows.proofs.Cases.{by_case, number_is, same_branches, some_mapped}

abbrev same_side : Bool → Bool → Bool
same_side a b = if a then b else not b

-- ---- an exchange of which one flow was changed
side_changed : (change : Flow → Flow) (a b : Bool) (e : Exchange) → side_of b (flow_changed change a e) ≡ (if same_side a b then option_map change (side_of b e) else side_of b e)
side_changed change false false e = refl
side_changed change false true e = refl
side_changed change true false e = refl
side_changed change true true e = refl

found_changed : (change : Flow → Flow) (a b : Bool) (o : Option Exchange) →
    option_and_then (side_of b) (option_map (flow_changed change a) o) ≡ (if same_side a b then option_map change (option_and_then (side_of b) o) else option_and_then (side_of b) o)
found_changed change a b None = sym (same_branches {X = Option Flow} (same_side a b) None)
found_changed change a b (Some e) = side_changed change a b e

found_goes : (change : Flow → Flow) (a b : Bool) (o : Option Exchange) → option_and_then (side_goes b) (option_map (flow_changed change a) o) ≡ option_and_then (side_goes b) o
found_goes change a b None = refl
found_goes change false false (Some e) = refl
found_goes change false true (Some e) = refl
found_goes change true false (Some e) = refl
found_goes change true true (Some e) = refl

-- ---- all of them
module _ (f : FlowId) (change : Flow → Flow) (old new : Exchanges) (c : ChangesFlow f change old new) where
  pub at_same : (x : ℕ) → (f.exchange == x) ≡ true → exchange_at new x ≡ option_map (flow_changed change f.back) (exchange_at old x)
  at_same x same = c.flow.live x
      ∙ (ap (λ b. if b then option_map (flow_changed change f.back) (exchange_at old f.exchange) else exchange_at old x) same
      ∙ ap (λ y. option_map (flow_changed change f.back) (exchange_at old y)) (number_is f.exchange x same))

  pub at_other : (x : ℕ) → (f.exchange == x) ≡ false → exchange_at new x ≡ exchange_at old x
  at_other x other = c.flow.live x ∙ ap (λ b. if b then option_map (flow_changed change f.back) (exchange_at old f.exchange) else exchange_at old x) other

  pub flow_after : (g : FlowId) → flow_at new g ≡ (if same_flow f g then option_map change (flow_at old g) else flow_at old g)
  flow_after g = by_case (f.exchange == g.exchange)
      (λ same. ap (option_and_then (side_of g.back)) (at_same g.exchange same)
      ∙ (found_changed change f.back g.back (exchange_at old g.exchange)
      ∙ sym (ap (λ b. if b && same_side f.back g.back then option_map change (flow_at old g) else flow_at old g) same)))
      (λ other. ap (option_and_then (side_of g.back)) (at_other g.exchange other)
      ∙ sym (ap (λ b. if b && same_side f.back g.back then option_map change (flow_at old g) else flow_at old g) other))

  pub target_after : (g : FlowId) → target_of new g ≡ target_of old g
  target_after g = by_case (f.exchange == g.exchange)
      (λ same. ap (option_and_then (side_goes g.back)) (at_same g.exchange same) ∙ found_goes change f.back g.back (exchange_at old g.exchange))
      (λ other. ap (option_and_then (side_goes g.back)) (at_other g.exchange other))

  pub live_after : (x : ℕ) → is_live new x ≡ is_live old x
  live_after x = by_case (f.exchange == x)
      (λ same. ap is_some (at_same x same) ∙ some_mapped (flow_changed change f.back) (exchange_at old x))
      (λ other. ap is_some (at_other x other))

  pub there_after : (g : FlowId) → is_some (flow_at new g) ≡ is_some (flow_at old g)
  there_after g = ap is_some (flow_after g) ∙ either (same_flow f g) (flow_at old g)
    where
      either : (b : Bool) (o : Option Flow) → is_some (if b then option_map change o else o) ≡ is_some o
      either true o = some_mapped change o
      either false o = refl

-- ---- a flow that is found is its own
own_of : (x time : ℕ) (b : Bool) (o : Option Exchange) (flow : Flow) → IfSome o (IsSoundExchange x time) → option_and_then (side_of b) o ≡ Some flow → IsFlowOf x b time flow
own_of x time b None flow is found = absurd (none-some flow found)
own_of x time false (Some e) flow is found = subst (IsFlowOf x false time) (same_Some e.request flow found) is.request_is
own_of x time true (Some e) flow is found = at_found (IsFlowOf x true time) e.response flow found is.response_is

pub flow_is : (exchanges : Exchanges) (g : FlowId) (flow : Flow) → AreSoundExchanges exchanges → flow_at exchanges g ≡ Some flow → IsFlowOf g.exchange g.back exchanges.time flow
flow_is exchanges g flow sound found = own_of g.exchange exchanges.time g.back (exchange_at exchanges g.exchange) flow (sound.each g.exchange) found

pub name_is : (exchanges : Exchanges) (g : FlowId) (flow : Flow) → AreSoundExchanges exchanges → flow_at exchanges g ≡ Some flow → flow.chain.flow ≡ g
name_is exchanges g flow sound found = (flow_is exchanges g flow sound found).own
