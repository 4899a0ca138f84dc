-- What the map finds is what is seen.
use Rattle.exchange_core.proofs.Maps.{lookup_number, seen_of}
use Rattle.exchange_core.proofs.Untouched.{flow_seen, target_seen}
use Rattle.exchange_core.specs.Exchange.{at_moment, flow_in, goes_to, seen_at}
use Rattle.exchange_core.specs.Exchanges.{Exchanges, IsLiveFlow, exchange_at, flow_at, is_live, target_of}
use Rattle.exchange_core.specs.Flow.{Flow}
use Rattle.exchange_core.specs.View.{exchanges_of}
use Rattle.exchange_core.specs.declared.exchange.Exchange.{Exchange}
use Rattle.exchange_core.specs.declared.exchanges.Exchanges.TheInside.{Inside}
use Rattle.flow_rules.specs.declared.ids.FlowId.{FlowId}
use Rattle.std.proofs.Common.{ap, refl, sym, ◌∙◌}
use Rattle.std.proofs.lemmas.Bool.{false≢true}
use Rattle.std.specs.BTreeMap.{is_at}
use Rattle.std.specs.Map.{lookup}
use Rattle.std.specs.Option.{is_some, option_and_then}
use Rattle.std.specs.Ordering.{nat_cmp}
use Rattle.std.specs.Prelude.{IsSome, None, Option, Some, option_map, true, ℕ, ◌≡◌}

pub some_mapped : {A B : Type 0} (f : A → B) (o : Option A) → is_some (option_map f o) ≡ is_some o
some_mapped f None = refl
some_mapped f (Some x) = refl

module _ (c : Inside) (x : ℕ) where
  -- an exchange
  pub exchange_found : (found : Option Exchange) → found ≡ lookup (is_at (nat_cmp x)) c.live.entries → exchange_at (exchanges_of c) x ≡ option_map (seen_at c.ticked) found
  exchange_found found is = cc (seen_of c x, lookup_number c.live.entries x)

  pub live_found : (found : Option Exchange) → found ≡ lookup (is_at (nat_cmp x)) c.live.entries → is_live (exchanges_of c) x ≡ is_some found
  live_found found is = ap is_some (exchange_found found is) ∙ some_mapped (seen_at c.ticked) found

  pub not_live : None ≡ lookup (is_at (nat_cmp x)) c.live.entries → is_live (exchanges_of c) x ≡ true → ⊥
  not_live none live = false≢true (sym (live_found None none) ∙ live)

module _ (c : Inside) (f : FlowId) where
  -- a flow of it
  pub flow_found : (found : Exchange) (flow : Option Flow) → Some found ≡ lookup (is_at (nat_cmp f.exchange)) c.live.entries → flow ≡ flow_in f.back (seen_at c.ticked found) →
      flow_at (exchanges_of c) f ≡ flow
  flow_found found flow is there = cc (exchange_found c f.exchange (Some found) is)

  pub target_found : (found : Exchange) (to : Option ℕ) → Some found ≡ lookup (is_at (nat_cmp f.exchange)) c.live.entries → to ≡ goes_to f.back found →
      target_of (exchanges_of c) f ≡ to
  target_found found to is there = cc (exchange_found c f.exchange (Some found) is, target_seen c.ticked f.back found)

  pub flow_there : (found : Exchange) → Some found ≡ lookup (is_at (nat_cmp f.exchange)) c.live.entries → is_some (flow_at (exchanges_of c) f) ≡ is_some (flow_in f.back found)
  flow_there found is = cc (flow_found found (flow_in f.back (seen_at c.ticked found)) is refl, flow_seen c.ticked f.back found, by_flow (flow_in f.back found))
    where
      by_flow : (o : Option Flow) → is_some (option_map (at_moment c.ticked) o) ≡ is_some o
      by_flow None = refl
      by_flow (Some flow) = refl

  pub no_exchange : None ≡ lookup (is_at (nat_cmp f.exchange)) c.live.entries → IsLiveFlow (exchanges_of c) f → ⊥
  no_exchange none live = false≢true (cc (exchange_found c f.exchange None none))

  pub no_flow : (found : Exchange) → Some found ≡ lookup (is_at (nat_cmp f.exchange)) c.live.entries → None ≡ flow_in f.back (seen_at c.ticked found) →
      IsLiveFlow (exchanges_of c) f → ⊥
  no_flow found is none live = false≢true (cc (flow_found found None is none))

-- ---- by what is seen
pub live_of : (exchanges : Exchanges) (f : FlowId) → IsLiveFlow exchanges f → is_live exchanges f.exchange ≡ true
live_of exchanges f live = by_found (exchange_at exchanges f.exchange) live
  where
    by_found : (o : Option Exchange) → is_some (option_and_then (flow_in f.back) o) ≡ true → is_some o ≡ true
    by_found None none = none
    by_found (Some exchange) some = refl

module _ (exchanges : Exchanges) (f : FlowId) (now : ℕ) (found : Exchange) (same : exchange_at exchanges f.exchange ≡ Some (seen_at now found)) where
  seen_there : flow_at exchanges f ≡ option_map (at_moment now) (flow_in f.back found)
  seen_there = cc (flow_seen now f.back found)

  pub has_there : IsLiveFlow exchanges f → IsSome (flow_in f.back found)
  has_there live = by_flow (flow_in f.back found) (cc seen_there)
    where
      by_flow : (o : Option Flow) → is_some (option_map (at_moment now) o) ≡ true → is_some o ≡ true
      by_flow None none = none
      by_flow (Some flow) some = refl

  pub seen_flow : (flow : Flow) → Some flow ≡ flow_in f.back found → flow_at exchanges f ≡ Some (at_moment now flow)
  seen_flow flow is = cc seen_there
