-- What the calls that begin a flow need of each other.
use Rattle.exchange_core.specs.Exchange.{flow_id}
use Rattle.flow_gate.proofs.SameIds.{same_flow-refl}
use Rattle.flow_gate.specs.Board.{Board, IsSound as AreSoundGates, is_known, is_marked, is_open, times, watchers_of}
use Rattle.flow_gate.specs.Changes.{Begins, Forgets, IsSeenAs, Opens, Watches}
use Rattle.flow_gate.specs.Ids.{is_own, same_flow}
use Rattle.flow_rules.specs.declared.ids.BufferId.{BufferId}
use Rattle.flow_rules.specs.declared.ids.FlowId.{FlowId}
use Rattle.proxy_config.specs.declared.routes.Filter.{Filter}
use Rattle.io_ports.specs.declared.octets.NoMemory.{NoMemory}
use Rattle.std.proofs.Common.{ap, arith, refl, subst, sym, ◌∙◌}
use Rattle.std.proofs.lemmas.Bool.{eqb-true}
use Rattle.std.specs.Option.{option_map_or}
use Rattle.std.specs.Prelude.{Bool, Err, IfOk, IfSome, List, None, Ok, OnErr, OnOk, Option, Result, Some, [], false, if◌then◌else◌, length, true, ℕ, ◌&&◌, ◌++◌, ◌==◌, ◌||◌, ◌∷◌, ◌≡◌}
use Rattle.wire_flows.proofs.Begun.{all_watched, begins_flow, grows_more, grows_none, watch_grows, watch_own, watch_write_grows, watches_none, write_watched}
use Rattle.wire_flows.proofs.Cases.{by_case, not_both}
use Rattle.wire_flows.proofs.Owners.{own_exact}
use Rattle.wire_flows.proofs.Restored.{Partial, closed_none, closed_watches, partly_begun, restored, same_board, wholly_begun}
use Rattle.wire_flows.specs.Begins.{BeginsBoth, BeginsFlow, Grows, IsFresh, IsSame, WatchesAll, WatchesOwn, is_held_by, meters, watches_from}
use Rattle.flow_rules.specs.declared.ids.BufferId.TheVariants as buffer

-- ---- what a flow that grows keeps
pub grown_open : (f : FlowId) (old new : Board) → Grows f old new → is_open old f ≡ true → is_open new f ≡ true
grown_open f old new g there = g.flows f ∙ there

-- ---- the write buffer, after its Meters and its send buffer
module _ (f : FlowId) (filters : List Filter) (old mid sent : Board) (g : Grows f old mid) (w : WatchesOwn f (meters f 1 filters) old mid) (h : Grows f mid sent) (v : WatchesOwn f (buffer.Send f ∷ []) mid sent) where
  pub write_known : (to : Option ℕ) → IfSome to (λ c. is_known old (buffer.Write c) ≡ true) → IfSome to (λ c. is_known sent (buffer.Write c) ≡ true)
  write_known None known = tt
  write_known (Some c) known = h.buffers (buffer.Write c) refl ∙ (g.buffers (buffer.Write c) refl ∙ known)

  pub write_apart : (to : Option ℕ) → IfSome to (λ c. times f (watchers_of old (buffer.Write c)) ≡ 0) → IfSome to (λ c. times f (watchers_of sent (buffer.Write c)) ≡ 0)
  write_apart None none = tt
  write_apart (Some c) none = ap (times f) (v.writes c ∙ w.writes c) ∙ none

  pub write_held : (to : Option ℕ) → is_held_by to sent ≡ is_held_by to old
  write_held None = refl
  write_held (Some c) = h.marks (buffer.Write c) ∙ g.marks (buffer.Write c)

  pub all_grow : (new : Board) → Grows f sent new → Grows f old new
  all_grow new k = grows_more f old sent new (grows_more f old mid sent g h) k

-- what a watch of the write buffer leaves, or refuses
pub either_grow : (f : FlowId) (c : ℕ) (old new : Board) (r : Result Bool NoMemory) → OnOk r (Watches f (buffer.Write c) old new) → OnErr r (new ≡ old) → Grows f old new
either_grow f c old new (Ok b) w e = watch_write_grows f c old new w
either_grow f c old new (Err x) w e = subst (λ b. Grows f old b) (sym e) (grows_none f old)

pub either_watched : (r : Result Bool NoMemory) (P Q : Type 0) → (P → Q) → OnOk r P → OnOk r Q
either_watched (Ok b) P Q k p = k p
either_watched (Err x) P Q k p = tt

-- ---- a flow that begins
module _ (f : FlowId) (old mid : Board) (b : Begins f old mid) where
  pub begun_open : is_open mid f ≡ true
  begun_open = b.flows f ∙ ap (λ t. t || is_open old f) (same_flow-refl f)

  pub begun_fresh : IsFresh f old → IsFresh f mid
  begun_fresh fresh = record { unknown = λ c own. b.buffers c ∙ fresh.unknown c own }

  pub begun_known : (to : Option ℕ) → IfSome to (λ c. is_known old (buffer.Write c) ≡ true) → IfSome to (λ c. is_known mid (buffer.Write c) ≡ true)
  begun_known None k = tt
  begun_known (Some c) k = b.buffers (buffer.Write c) ∙ k

  pub begun_apart : (to : Option ℕ) → AreSoundGates old → is_open old f ≡ false → IfSome to (λ c. times f (watchers_of mid (buffer.Write c)) ≡ 0)
  begun_apart None s shut = tt
  begun_apart (Some c) s shut = ap (times f) (b.watchers (buffer.Write c)) ∙ closed_none old f (buffer.Write c) s shut

  pub begun_held : (to : Option ℕ) → is_held_by to mid ≡ is_held_by to old
  begun_held None = refl
  begun_held (Some c) = b.marks (buffer.Write c)

  pub begun_all : (bs : List BufferId) (to : Option ℕ) (new : Board) → is_open old f ≡ false → Grows f mid new → WatchesAll f bs to mid new → BeginsFlow f bs to old new
  begun_all bs to new shut g w = begins_flow f bs to old mid new (closed_watches old f shut) b g w

  pub begun_back : (part new : Board) → Grows f mid part → Forgets f part new → is_open old f ≡ false → IsFresh f old → AreSoundGates old → IsSame old new
  begun_back part new g k shut fresh s = restored f old part new (partly_begun f old mid part b g) k shut fresh s

-- ---- a flow that begins without Meters, in one call
module _ (f : FlowId) (c : ℕ) (old new : Board) where
  pub sender_begins : Opens f c old new → is_open old f ≡ false → BeginsFlow f (buffer.Send f ∷ buffer.Write c ∷ []) (Some c) old new
  sender_begins o shut = begun_all f old o.begun o.begins (buffer.Send f ∷ buffer.Write c ∷ []) (Some c) new shut
      (grows_more f o.begun o.watching new (watch_grows f (buffer.Send f) o.begun o.known (same_flow-refl f) o.knows o.watching o.watches_send) (watch_write_grows f c o.watching new o.watches_write))
      (all_watched f [] o.begun o.begun o.watching (watches_none f o.begun) (watch_own f (buffer.Send f) o.begun o.known (same_flow-refl f) o.knows o.watching o.watches_send)
      (Some c) new (write_watched f c o.watching new o.watches_write))

  pub sender_all : (filters : List Filter) (to : Option ℕ) (r : Result Bool NoMemory) → (length filters == 0) ≡ true → to ≡ Some c → is_open old f ≡ false →
      OnOk r (Opens f c old new) → OnOk r (BeginsFlow f (watches_from f filters to) to old new)
  sender_all (x ∷ xs) to r none is shut o = absurd (let zero = eqb-true (length (x ∷ xs)) 0 none in omega (arith, zero))
  sender_all [] to r none is shut o = subst (λ t. OnOk r (BeginsFlow f (watches_from f [] t) t old new)) (sym is)
      (either_watched r (Opens f c old new) (BeginsFlow f (watches_from f [] (Some c)) (Some c) old new) (λ h. sender_begins h shut) o)

  pub seen_same : IsSeenAs old new → IsSame old new
  seen_same s = record { flows = s.flows; watched = s.watched; buffers = s.buffers; marks = s.marks; watchers = s.watchers; pending = s.pending }

-- ---- the response after the request
apart_sides : (x : ℕ) → same_flow (flow_id x false) (flow_id x true) ≡ false
apart_sides x = by_b (x == x)
  where
    by_b : (b : Bool) → (b && false) ≡ false
    by_b true = refl
    by_b false = refl

module _ (x : ℕ) (bs : List BufferId) (to : Option ℕ) (old mid : Board) (b : BeginsFlow (flow_id x false) bs to old mid) where
  pub response_shut : is_open old (flow_id x true) ≡ false → is_open mid (flow_id x true) ≡ false
  response_shut shut = b.flows (flow_id x true) ∙ (λ i. apart_sides x i || shut i)

  pub response_fresh : IsFresh (flow_id x true) old → IsFresh (flow_id x true) mid
  response_fresh fresh = record {
    unknown = λ c own. b.buffers c (by_case (is_own (flow_id x false) c)
        (λ mine. not_both (same_flow (flow_id x false) (flow_id x true)) (own_exact (flow_id x false) (flow_id x true) c mine own) (apart_sides x))
        (λ other. other)) ∙ fresh.unknown c own;
  }

  pub response_known : (c : ℕ) → is_known old (buffer.Write c) ≡ true → is_known mid (buffer.Write c) ≡ true
  response_known c known = b.buffers (buffer.Write c) refl ∙ known

  pub response_held : (c : ℕ) → is_marked mid (buffer.Write c) ≡ is_marked old (buffer.Write c)
  response_held c = b.marks (buffer.Write c)

  pub request_open : (late : Board) → IsSame mid late → is_open late (flow_id x false) ≡ true
  request_open late s = s.flows (flow_id x false) ∙ (b.flows (flow_id x false) ∙ ap (λ t. t || is_open old (flow_id x false)) (same_flow-refl (flow_id x false)))

  pub both_begin : (bs' : List BufferId) (from : ℕ) (new : Board) → AreSoundGates mid → BeginsFlow (flow_id x true) bs' (Some from) mid new → BeginsBoth x bs bs' to from old new
  both_begin bs' from new s k = record { between = mid; sound = s; request_begins = b; response_begins = k }

  pub request_back : (late new : Board) → IsSame mid late → Forgets (flow_id x false) late new → is_open old (flow_id x false) ≡ false → IsFresh (flow_id x false) old → AreSoundGates old → IsSame old new
  request_back late new s k shut fresh gates = restored (flow_id x false) old late new (wholly_begun (flow_id x false) bs to old mid late b s) k shut fresh gates
