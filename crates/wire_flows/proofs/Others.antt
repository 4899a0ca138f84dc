-- What holds at all times is kept where the gates alone changed, or where the exchanges are seen as before.
use Rattle.exchange_core.specs.Exchange.{flow_in as side_of, goes_to as side_goes}
use Rattle.exchange_core.specs.Exchanges.{Exchanges, IsSound as AreSoundExchanges, exchange_at, flow_at, target_of}
use Rattle.exchange_core.specs.Flow.{Flow}
use Rattle.exchange_core.specs.declared.exchange.Exchange.{Exchange}
use Rattle.flow_gate.specs.Board.{Board, IsSound as AreSoundGates, is_known, is_marked, is_open, pending_on, watched_by, watchers_of}
use Rattle.flow_gate.specs.Changes.{Same}
use Rattle.flow_gate.specs.Ids.{is_own, same_buffer, same_flow}
use Rattle.flow_rules.specs.declared.ids.BufferId.{BufferId}
use Rattle.flow_rules.specs.declared.ids.FlowId.{FlowId}
use Rattle.filter_chain.specs.Place.{kind_of}
use Rattle.flow_gate.proofs.SameIds.{same_flow-refl}
use Rattle.std.proofs.Common.{ap, arith, refl, subst, sym, ◌∙◌}
use Rattle.std.specs.List.{sum_by}
use Rattle.std.specs.Option.{option_and_then, option_map_or}
use Rattle.std.specs.Prelude.{Bool, IfSome, List, None, Option, Some, [], false, is_some, length, true, ℕ, ◌*◌, ◌+◌, ◌==◌, ◌≡◌}
use Rattle.wire_flows.proofs.Cases.{if_found}
use Rattle.wire_flows.proofs.Found.{name_is}
use Rattle.wire_flows.proofs.Kept.{own_is}
use Rattle.wire_flows.specs.Flows.{Flows, KeepsLeft, KeepsLive, flow_in, goes_to, watches_in, watches_of}
use Rattle.wire_flows.specs.Measure.{lows_of, to_go, way}
use Rattle.wire_flows.specs.Sound.{AreInOrder, IsSound, IsWhole, MarksAre, buffer_of}
use Rattle.flow_rules.specs.declared.ids.BufferId.TheVariants as buffer

-- ---- the gates alone
-- a write buffer is no flow's own
pub own_apart : (f : FlowId) (b : BufferId) (c : ℕ) → is_own f b ≡ true → same_buffer (buffer.Write c) b ≡ false
own_apart f (buffer.Recv g) c own = refl
own_apart f (buffer.Stage g i) c own = refl
own_apart f (buffer.Send g) c own = refl
own_apart f (buffer.Write d) c own = cc

-- nobody was told, and nobody is to be
pub go_same : (old new : Flows) → new.exchanges ≡ old.exchanges → ((x : ℕ) → lows_of new x ≡ lows_of old x) → to_go new ≡ to_go old
unfolding to_go
go_same old new same lows = (λ i. sum_by (λ e. way e.1 + 16 * lows e.0 i) new.exchanges.live) ∙ ap (λ ex. sum_by (λ e. way e.1 + 16 * lows_of old e.0) ex.live) same

-- ---- the exchanges, seen as before
module _ (old : Flows) (ex : Exchanges) (seen : (x : ℕ) → exchange_at ex x ≡ exchange_at old.exchanges x) where
  abbrev after : Flows
  after = record { exchanges = ex; gates = old.gates }

  flow_seen : (f : FlowId) → flow_at ex f ≡ flow_in old f
  flow_seen f = ap (option_and_then (side_of f.back)) (seen f.exchange)

  goes_seen : (f : FlowId) → target_of ex f ≡ goes_to old f
  goes_seen f = ap (option_and_then (side_goes f.back)) (seen f.exchange)

  pub sound_seen : AreSoundExchanges ex → IsSound old → IsSound after
  sound_seen sound s = record {
    exchanges = sound;
    gates = s.gates;
    each = λ x. subst (λ o. IfSome o IsWhole) (sym (seen x)) (s.each x);
    there = λ f. s.there f ∙ sym (ap is_some (flow_seen f));
    watched = λ f. s.watched f ∙ sym (λ i. option_map_or (watches_of (goes_seen f i)) (flow_seen f i) []);
    own = λ f b own known. ap is_some (flow_seen f) ∙ s.own f b own known;
    marks = λ f. subst (λ o. IfSome o (MarksAre old.gates)) (sym (flow_seen f)) (s.marks f);
    told = s.told;
    order = s.order;
  }

  pub seen_live : KeepsLive old after
  seen_live = record { live = λ x. ap is_some (seen x); there = λ f. ap is_some (flow_seen f); goes = goes_seen }

  pub seen_left : KeepsLeft old after
  seen_left = record { left = λ f. ap (λ o. option_map_or (λ flow. length flow.recv) o 0) (flow_seen f) }
