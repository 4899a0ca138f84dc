-- What holds at all times is kept where one flow changed, and its places stay in their kinds.
use Rattle.exchange_core.specs.Changes.{ChangesFlow}
use Rattle.exchange_core.specs.Exchange.{flow_changed, flow_in as side_of}
use Rattle.exchange_core.specs.Exchanges.{Exchanges, IsSound as AreSoundExchanges, exchange_at, flow_at, target_of}
use Rattle.exchange_core.specs.Flow.{Flow}
use Rattle.exchange_core.specs.declared.exchange.Exchange.{Exchange}
use Rattle.filter_chain.specs.Chain.{place_at}
use Rattle.filter_chain.specs.Place.{Place, is_source, kind_of}
use Rattle.flow_gate.proofs.SameIds.{same_flow-refl, same_flow_exact}
use Rattle.flow_gate.specs.Board.{Board, IsSound as AreSoundGates, is_known, is_marked, is_open, pending_on, watched_by, watchers_of}
use Rattle.flow_gate.specs.Changes.{Same}
use Rattle.flow_gate.specs.Ids.{is_own, same_flow}
use Rattle.flow_rules.specs.declared.ids.BufferId.{BufferId}
use Rattle.flow_rules.specs.declared.ids.FlowId.{FlowId}
use Rattle.flow_rules.specs.Kinds.{Hold, Kind, Meter, Send}
use Rattle.flow_rules.specs.Sources.{sources_from as in_order, write_source}
use Rattle.std.proofs.Common.{ap, refl, subst, sym, ◌∙◌}
use Rattle.std.specs.Option.{option_and_then, option_map_or}
use Rattle.std.specs.Prelude.{Bool, IfSome, IsSome, List, None, Option, Some, [], false, if◌then◌else◌, is_some, length, map, option_map, true, ℕ, ◌+◌, ◌++◌, ◌==◌, ◌≡◌}
use Rattle.wire_flows.proofs.Cases.{by_case, if_found, if_mapped, number_is, some_mapped}
use Rattle.wire_flows.proofs.Found.{at_other, at_same, flow_after, live_after, name_is, target_after, there_after}
use Rattle.wire_flows.specs.Flows.{Flows, KeepsLeft, KeepsLive, flow_in, goes_to, left_in, watches_in, watches_of}
use Rattle.wire_flows.specs.Sound.{AreInOrder, IsSound, IsWhole, IsWireFlow, MarksAre, buffer_of}
use Rattle.flow_rules.specs.declared.ids.BufferId.TheVariants as buffer

abbrev pub kinds_of : Flow → List Kind
kinds_of flow = map (λ place. kind_of place.kind) flow.chain.places

-- the flow's name and the kinds of its places stay
pub record KeepsWay (old new : Flow) : Type 0 where
  pub own : new.chain.flow ≡ old.chain.flow
  pub kinds : kinds_of new ≡ kinds_of old
  pub last : length new.chain.places ≡ length old.chain.places

-- and what is said of a flow at all times
pub record KeepsFlow (board board' : Board) (old new : Flow) : Type 0 where
  pub way : KeepsWay old new
  pub wire : IsWireFlow old → IsWireFlow new
  pub marks : MarksAre board old → MarksAre board' new

-- who is known and who watches stay, and so do the marks of all buffers that aren't this flow's
pub record KeepsGates (f : FlowId) (old new : Board) : Type 0 where
  pub flows : Same is_open old new
  pub watched : Same watched_by old new
  pub buffers : Same is_known old new
  pub watchers : (c : ℕ) → watchers_of new (buffer.Write c) ≡ watchers_of old (buffer.Write c)
  pub sends : (g : FlowId) → pending_on new (buffer.Send g) ≡ pending_on old (buffer.Send g)
  pub marks : (g : FlowId) (b : BufferId) → same_flow f g ≡ false → is_own g b ≡ true → is_marked new b ≡ is_marked old b

pub gates_same : (f : FlowId) (board : Board) → KeepsGates f board board
gates_same f board = record { flows = λ g. refl; watched = λ g. refl; buffers = λ b. refl; watchers = λ c. refl; sends = λ g. refl; marks = λ g b apart own. refl }

-- ---- what a flow watches
pub watches_same : (to : Option ℕ) (old new : Flow) → KeepsWay old new → watches_of to new ≡ watches_of to old
watches_same to old new k = λ i. map (λ s. s.buffer) (in_order (k.own i) 1 (k.kinds i) ++ write_source (k.last i + 1) to)

pub watches_found : (to : Option ℕ) (change : Flow → Flow) (o : Option Flow) → ((flow : Flow) → o ≡ Some flow → watches_of to (change flow) ≡ watches_of to flow)
    → option_map_or (watches_of to) (option_map change o) [] ≡ option_map_or (watches_of to) o []
watches_found to change None k = refl
watches_found to change (Some flow) k = k flow refl

-- ---- an exchange
whole_changed : (change : Flow → Flow) (a : Bool) (e : Exchange) → ((flow : Flow) → side_of a e ≡ Some flow → IsWireFlow flow → IsWireFlow (change flow)) → IsWhole e → IsWhole (flow_changed change a e)
whole_changed change false e k w = record { request_is = k e.request refl w.request_is; response_is = w.response_is; both = w.both }
whole_changed change true e k w = record {
  request_is = w.request_is;
  response_is = if_mapped IsWireFlow IsWireFlow change e.response k w.response_is;
  both = some_mapped change e.response ∙ w.both;
}

whole_found : (change : Flow → Flow) (a : Bool) (o : Option Exchange) → ((flow : Flow) → option_and_then (side_of a) o ≡ Some flow → IsWireFlow flow → IsWireFlow (change flow))
    → IfSome o IsWhole → IfSome (option_map (flow_changed change a) o) IsWhole
whole_found change a None k w = tt
whole_found change a (Some e) k w = whole_changed change a e k w

-- ---- a buffer of its own
pub own_is : (f g : FlowId) (p : ℕ) (kind : Kind) → is_own f (buffer_of g p kind) ≡ same_flow f g
own_is f g p Hold = refl
own_is f g p Meter = refl
own_is f g p Send = refl

-- of another flow the marks stay
pub marks_other : (f g : FlowId) (board board' : Board) (flow : Flow) → flow.chain.flow ≡ g → ((b : BufferId) → is_own g b ≡ true → is_marked board' b ≡ is_marked board b)
    → MarksAre board flow → MarksAre board' flow
marks_other f g board board' flow name same m = record {
  each = λ p place at source.
      same (buffer_of flow.chain.flow p (kind_of place.kind)) (own_is g flow.chain.flow p (kind_of place.kind) ∙ (ap (same_flow g) name ∙ same_flow-refl g))
      ∙ m.each p place at source;
}

-- ---- all of it
module _ (f : FlowId) (change : Flow → Flow) (old : Flows) (ex : Exchanges) (board : Board)
    (c : ChangesFlow f change old.exchanges ex) (k : KeepsGates f old.gates board)
    (kept : (flow : Flow) → flow_in old f ≡ Some flow → KeepsFlow old.gates board flow (change flow)) where
  abbrev after : Flows
  after = record { exchanges = ex; gates = board }

  kept_at : (g : FlowId) → same_flow f g ≡ true → (flow : Flow) → flow_in old g ≡ Some flow → KeepsFlow old.gates board flow (change flow)
  kept_at g same flow found = kept flow (ap (λ h. flow_in old h) (same_flow_exact f g same) ∙ found)

  watches_after : (g : FlowId) → watches_in after g ≡ watches_in old g
  watches_after g =
      ap (λ to. option_map_or (watches_of to) (flow_at ex g) []) (target_after f change old.exchanges ex c g)
      ∙ (ap (λ o. option_map_or (watches_of (goes_to old g)) o []) (flow_after f change old.exchanges ex c g)
      ∙ by_case (same_flow f g)
      (λ same. ap (λ b. option_map_or (watches_of (goes_to old g)) (if b then option_map change (flow_in old g) else flow_in old g) []) same
      ∙ watches_found (goes_to old g) change (flow_in old g) (λ flow found. watches_same (goes_to old g) flow (change flow) (kept_at g same flow found).way))
      (λ other. ap (λ b. option_map_or (watches_of (goes_to old g)) (if b then option_map change (flow_in old g) else flow_in old g) []) other))

  each_after : ((x : ℕ) → IfSome (exchange_at old.exchanges x) IsWhole) → (x : ℕ) → IfSome (exchange_at ex x) IsWhole
  each_after s x = by_case (f.exchange == x)
      (λ same. subst (λ o. IfSome o IsWhole) (sym (at_same f change old.exchanges ex c x same))
      (whole_found change f.back (exchange_at old.exchanges x)
      (λ flow found. (kept flow (ap (λ y. option_and_then (side_of f.back) (exchange_at old.exchanges y)) (number_is f.exchange x same) ∙ found)).wire) (s x)))
      (λ other. subst (λ o. IfSome o IsWhole) (sym (at_other f change old.exchanges ex c x other)) (s x))

  marks_after : IsSound old → (g : FlowId) → IfSome (flow_at ex g) (MarksAre board)
  marks_after s g = subst (λ o. IfSome o (MarksAre board)) (sym (flow_after f change old.exchanges ex c g)) (by_case (same_flow f g)
      (λ same. subst (λ b. IfSome (if b then option_map change (flow_in old g) else flow_in old g) (MarksAre board)) (sym same)
      (if_mapped (MarksAre old.gates) (MarksAre board) change (flow_in old g) (λ flow found m. (kept_at g same flow found).marks m) (s.marks g)))
      (λ other. subst (λ b. IfSome (if b then option_map change (flow_in old g) else flow_in old g) (MarksAre board)) (sym other)
      (if_found (MarksAre old.gates) (MarksAre board) (flow_in old g)
      (λ flow found m. marks_other f g old.gates board flow (name_is old.exchanges g flow s.exchanges found) (λ b own. k.marks g b other own) m) (s.marks g))))

  pub sound_after : IsSound old → AreSoundExchanges ex → AreSoundGates board → IsSound after
  sound_after s sound gates = record {
    exchanges = sound;
    gates = gates;
    each = each_after s.each;
    there = λ g. k.flows g ∙ (s.there g ∙ sym (there_after f change old.exchanges ex c g));
    watched = λ g. k.watched g ∙ (s.watched g ∙ sym (watches_after g));
    own = λ g b own known. there_after f change old.exchanges ex c g ∙ s.own g b own (sym (k.buffers b) ∙ known);
    marks = marks_after s;
    told = λ g. k.sends g ∙ s.told g;
    order = λ w. subst AreInOrder (sym (k.watchers w)) (s.order w);
  }

  -- ---- what callers look at
  pub keeps_live : KeepsLive old after
  keeps_live = record {
    live = live_after f change old.exchanges ex c;
    there = there_after f change old.exchanges ex c;
    goes = target_after f change old.exchanges ex c;
  }

-- how much the receive buffer holds, where the change says so
left_found : (change : Flow → Flow) (o : Option Flow) → ((flow : Flow) → o ≡ Some flow → length (change flow).recv ≡ length flow.recv)
    → option_map_or (λ flow. length flow.recv) (option_map change o) 0 ≡ option_map_or (λ flow. length flow.recv) o 0
left_found change None k = refl
left_found change (Some flow) k = k flow refl

pub keeps_left : (f : FlowId) (change : Flow → Flow) (old : Flows) (ex : Exchanges) (board : Board) → ChangesFlow f change old.exchanges ex
    → ((flow : Flow) → flow_in old f ≡ Some flow → length (change flow).recv ≡ length flow.recv) → KeepsLeft old (record { exchanges = ex; gates = board })
keeps_left f change old ex board c same = record {
  left = λ g. ap (λ o. option_map_or (λ flow. length flow.recv) o 0) (flow_after f change old.exchanges ex c g) ∙ by_case (same_flow f g)
      (λ is. ap (λ b. option_map_or (λ flow. length flow.recv) (if b then option_map change (flow_in old g) else flow_in old g) 0) is
      ∙ left_found change (flow_in old g) (λ flow found. same flow (ap (λ h. flow_in old h) (same_flow_exact f g is) ∙ found)))
      (λ other. ap (λ b. option_map_or (λ flow. length flow.recv) (if b then option_map change (flow_in old g) else flow_in old g) 0) other);
}
