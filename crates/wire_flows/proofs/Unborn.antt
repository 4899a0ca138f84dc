-- Before an exchange begins, and where it is refused.
use Rattle.exchange_core.specs.Exchange.{flow_id, flow_in as side_of}
use Rattle.exchange_core.specs.Exchanges.{Exchanges, exchange_at}
use Rattle.exchange_core.specs.declared.exchange.Exchange.{Exchange}
use Rattle.flow_gate.proofs.SameIds.{same_flow-refl}
use Rattle.flow_gate.specs.Board.{Board, IsSound as AreSoundGates, is_known, is_marked, is_open, pending_on, watched_by, watchers_of}
use Rattle.flow_gate.specs.Changes.{Forgets}
use Rattle.flow_gate.specs.Ids.{same_flow}
use Rattle.flow_rules.specs.declared.ids.BufferId.{BufferId}
use Rattle.flow_rules.specs.declared.ids.FlowId.{FlowId}
use Rattle.io_ports.specs.declared.octets.NoMemory.{NoMemory}
use Rattle.std.proofs.Common.{ap, arith, refl, subst, sym, ◌∙◌}
use Rattle.std.specs.Option.{option_and_then}
use Rattle.std.specs.Prelude.{Bool, Err, IfSome, IsSome, List, None, Ok, OnErr, Option, Result, Some, false, is_some, true, ℕ, ◌+◌, ◌<◌, ◌||◌, ◌≡◌, ◌≤◌}
use Rattle.wire_flows.proofs.Answering.{keeps_same}
use Rattle.wire_flows.proofs.Boards.{keeps_writes, write_known}
use Rattle.wire_flows.proofs.Cases.{by_case, if_found, not_both}
use Rattle.wire_flows.proofs.Opening.{request_back, request_open, response_fresh, response_shut}
use Rattle.wire_flows.proofs.Restored.{restored, wholly_begun}
use Rattle.wire_flows.specs.Begins.{BeginsBoth, BeginsFlow, IsFresh, IsSame}
use Rattle.wire_flows.specs.Flows.{Flows, KeepsLeft, flow_in, is_there}
use Rattle.wire_flows.specs.Sound.{AreInOrder, IsSound, MarksAre}
use Rattle.wire_flows.specs.Writes.{KeepsLows, KeepsWrites, write_at}
use Rattle.flow_rules.specs.declared.ids.BufferId.TheVariants as buffer

module _ (x : ℕ) (old : Flows) (s : IsSound old) (greater : old.exchanges.last < x) where
  pub unborn : exchange_at old.exchanges x ≡ None
  unborn = by_found (exchange_at old.exchanges x) refl
    where
      by_found : (o : Option Exchange) → exchange_at old.exchanges x ≡ o → o ≡ None
      by_found None e = refl
      by_found (Some e) is = absurd (too_great old.exchanges.last x greater (s.exchanges.below x (ap is_some is)))
        where
          too_great : (l x : ℕ) → l < x → x ≤ l → ⊥
          too_great l x a c = omega (arith, a, c)

  no_flow : (side : Bool) → flow_in old (flow_id x side) ≡ None
  no_flow side = ap (option_and_then (side_of side)) unborn

  pub unborn_shut : (side : Bool) → is_open old.gates (flow_id x side) ≡ false
  unborn_shut side = s.there (flow_id x side) ∙ ap is_some (no_flow side)

  pub unborn_fresh : (side : Bool) → IsFresh (flow_id x side) old.gates
  unborn_fresh side = record {
    unknown = λ c own. by_case (is_known old.gates c)
        (λ known. not_both (is_there old (flow_id x side)) (s.own (flow_id x side) c own known) (ap is_some (no_flow side)))
        (λ none. none);
  }

-- ---- the gates are seen as before
pub record Refused (old new : Flows) : Type 0 where
  pub left : KeepsLeft old new
  pub writes : KeepsWrites old new
  pub lows : KeepsLows old new
  pub sound : IsSound new

pub refused_same : (old : Flows) (ex : Exchanges) (board : Board) → IsSound old → ex ≡ old.exchanges → IsSame old.gates board → AreSoundGates board → Refused old (record { exchanges = ex; gates = board })
refused_same old ex board s e k gates = subst (λ x. Refused old (record { exchanges = x; gates = board })) (sym e) (record {
  left = record { left = λ f. refl };
  writes = keeps_writes old (record { exchanges = old.exchanges; gates = board }) (λ c. record { known = k.buffers (buffer.Write c); above = k.marks (buffer.Write c); lows = k.pending (buffer.Write c) });
  lows = record { lows = k.pending };
  sound = record {
    exchanges = s.exchanges;
    gates = gates;
    each = s.each;
    there = λ f. k.flows f ∙ s.there f;
    watched = λ f. k.watched f ∙ s.watched f;
    own = λ f b own known. s.own f b own (sym (k.buffers b) ∙ known);
    marks = λ f. if_found (MarksAre old.gates) (MarksAre board) (flow_in old f) (λ flow found m. record { each = λ p place at source. k.marks _ ∙ m.each p place at source }) (s.marks f);
    told = λ f. k.pending (buffer.Send f) ∙ s.told f;
    order = λ c. subst AreInOrder (sym (k.watchers (buffer.Write c))) (s.order c);
  };
})

-- ---- both flows began, and are forgotten
module _ (x : ℕ) (rs bs : List BufferId) (to : Option ℕ) (from : ℕ) (old board : Board) (b : BeginsBoth x rs bs to from old board) where
  same : (c : Board) → IsSame c c
  same c = record { flows = λ f. refl; watched = λ f. refl; buffers = λ d. refl; marks = λ d. refl; watchers = λ d. refl; pending = λ d. refl }

  pub response_open : is_open board (flow_id x true) ≡ true
  response_open = b.response_begins.flows (flow_id x true) ∙ ap (λ t. t || is_open b.between (flow_id x true)) (same_flow-refl (flow_id x true))

  between_shut : is_open old (flow_id x true) ≡ false → is_open b.between (flow_id x true) ≡ false
  between_shut shut = response_shut x rs to old b.between b.request_begins shut

  -- the response is forgotten first
  pub back_between : (first : Board) → Forgets (flow_id x true) board first → is_open old (flow_id x true) ≡ false → IsFresh (flow_id x true) old → IsSame b.between first
  back_between first k shut fresh = restored (flow_id x true) b.between board first (wholly_begun (flow_id x true) bs (Some from) b.between board board b.response_begins (same board)) k (between_shut shut) (response_fresh x rs to old b.between b.request_begins fresh) b.sound

  pub request_there : (first : Board) → IsSame b.between first → is_open first (flow_id x false) ≡ true
  request_there first s = request_open x rs to old b.between b.request_begins first s

  pub back_both : (first new : Board) → IsSame b.between first → Forgets (flow_id x false) first new → is_open old (flow_id x false) ≡ false → IsFresh (flow_id x false) old → AreSoundGates old → IsSame old new
  back_both first new s k shut fresh gates = request_back x rs to old b.between b.request_begins first new s k shut fresh gates

-- a connection that it goes to is known
pub known_if : (o : Option ℕ) (flows : Flows) → IfSome o (λ c. IsSome (write_at c flows)) → IfSome o (λ c. is_known flows.gates (buffer.Write c) ≡ true)
known_if None flows k = tt
known_if (Some c) flows k = sym (write_known c flows) ∙ k

-- where nothing begins the gates are seen as before
pub same_refused : {T : Type 0} (r : Result T NoMemory) (old new : Board) → IsSame old new → OnErr r (IsSame old new)
same_refused (Ok x) old new k = tt
same_refused (Err e) old new k = k
