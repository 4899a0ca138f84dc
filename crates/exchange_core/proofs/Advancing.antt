-- What a step of a flow leaves, and what goes next after it.
use Rattle.exchange_core.proofs.Finding.{exchange_found, flow_there}
use Rattle.exchange_core.proofs.Writing.{open_there}
use Rattle.exchange_core.specs.Changes.{ChangesFlow}
use Rattle.exchange_core.specs.Exchange.{flow_changed, flow_in}
use Rattle.exchange_core.specs.Exchanges.{Exchanges, IsLiveFlow, exchange_at, flow_at}
use Rattle.exchange_core.specs.Flow.{Flow}
use Rattle.exchange_core.specs.View.{IsKept, exchanges_of}
use Rattle.exchange_core.specs.declared.exchange.Exchange.{Exchange}
use Rattle.exchange_core.specs.declared.exchanges.Exchanges.TheInside.{Inside}
use Rattle.flow_gate.specs.Board.{Board, is_open}
use Rattle.flow_rules.specs.declared.ids.FlowId.{FlowId}
use Rattle.std.proofs.Common.{ap, inl, inr, refl, sym, ◌∙◌}
use Rattle.std.proofs.lemmas.Bool.{cases_Bool, eqb-true, false≢true}
use Rattle.std.proofs.lemmas.Option.{none-some}
use Rattle.paged_map.specs.PagedMap.{PagedMap}
use Rattle.std.specs.BTreeMap.{is_at}
use Rattle.std.specs.Map.{lookup}
use Rattle.std.specs.Option.{option_and_then}
use Rattle.std.specs.Ordering.{nat_cmp}
use Rattle.std.specs.Prelude.{Bool, IfSome, None, Option, Some, false, is_some, nat_eq, option_map, true, ◌≡◌}

-- a change of a flow that isn't there
pub absent_changed : (back : Bool) (change : Flow → Flow) (exchange : Exchange) → flow_in back exchange ≡ None → flow_changed change back exchange ≡ exchange
absent_changed false change exchange none = absurd (none-some exchange.request (sym none))
absent_changed true change exchange none = ap (λ response. record exchange { response = response }) (ap (option_map change) none ∙ sym none)

absent_at : (back : Bool) (change : Flow → Flow) (o : Option Exchange) → option_and_then (flow_in back) o ≡ None → option_map (flow_changed change back) o ≡ o
absent_at back change None none = refl
absent_at back change (Some exchange) none = cc (absent_changed back change exchange none)

pub absent_flow : (f : FlowId) (change : Flow → Flow) (old new : Exchanges) → flow_at old f ≡ None → new ≡ old → ChangesFlow f change old new
absent_flow f change old new none same = record {
  flow = record {
    live = λ y. ap (λ e. exchange_at e y) same ∙ elim (cases_Bool (nat_eq f.exchange y)) [
      | inl itself ↦ ap (exchange_at old) (sym (eqb-true f.exchange y itself)) ∙ sym (absent_at f.back change (exchange_at old f.exchange) none)
          ∙ (cc)
      | inr other ↦ (cc)
    ];
    last = cc;
    time = cc;
  };
  doomed = cc;
}

-- ---- what the map doesn't find
pub left_alone : (c : Inside) (lent : PagedMap Exchange) → lent ≡ c.live → exchanges_of (record c { live = lent }) ≡ exchanges_of c
left_alone c lent same = λ i. exchanges_of (record c { live = same i })

pub not_there : (c : Inside) (f : FlowId) → None ≡ lookup (is_at (nat_cmp f.exchange)) c.live.entries → flow_at (exchanges_of c) f ≡ None
not_there c f none = cc (exchange_found c f.exchange None none)

-- ---- whether there is a flow
some_mapped : {A C : Type 0} (g : A → C) (o : Option A) → is_some (option_map g o) ≡ is_some o
some_mapped g None = refl
some_mapped g (Some x) = refl

pub same_there : {A B C : Type 0} (g : A → C) (h : B → C) (a : Option A) (b : Option B) → option_map g a ≡ option_map h b → is_some a ≡ is_some b
same_there g h a b is = cc (some_mapped g a, some_mapped h b)

pub none_of : {A : Type 0} (o : Option A) → is_some o ≡ false → o ≡ None
none_of None none = refl
none_of (Some x) none = absurd (false≢true (sym none))

-- the gates know it, if it is there
pub open_if_there : (c : Inside) (f : FlowId) (board : Board) (found : Exchange) → IsKept c → Some found ≡ lookup (is_at (nat_cmp f.exchange)) c.live.entries →
    (IsLiveFlow (exchanges_of c) f → is_open board f ≡ true) → IfSome (flow_in f.back found) (λ g. is_open board g.chain.flow ≡ true)
open_if_there c f board found kept found_is known = elim (cases_Bool (is_some (flow_in f.back found))) [
  | inl there ↦ open_there c f board found kept found_is (known (flow_there c f found found_is ∙ there))
  | inr gone ↦ by_none (flow_in f.back found) gone
]
  where
    by_none : (o : Option Flow) → is_some o ≡ false → IfSome o (λ g. is_open board g.chain.flow ≡ true)
    by_none None gone = tt
    by_none (Some flow) gone = absurd (false≢true (sym gone))
