-- Who watches what, by the way of each flow.
use Rattle.exchange_core.specs.Flow.{Flow, last_place}
use Rattle.exchange_core.specs.State.{sources}
use Rattle.filter_chain.specs.Place.{Place, is_source, kind_of}
use Rattle.filter_chain.specs.declared.stage.StageKind.{StageKind}
use Rattle.filter_chain.specs.declared.stage.StageKind.TheVariants as stage
use Rattle.flow_gate.proofs.Counting.{count-append, count-cons}
use Rattle.flow_gate.proofs.SameIds.{same_buffer-refl, same_flow-comm, same_flow-refl, same_flow_exact}
use Rattle.flow_gate.specs.Board.{Board, is_known, pending_on, times, times_of_buffer, watched_by, watchers_of}
use Rattle.flow_gate.specs.Ids.{is_own, same_buffer, same_flow}
use Rattle.flow_rules.specs.declared.ids.BufferId.{BufferId}
use Rattle.flow_rules.specs.declared.ids.FlowId.{FlowId}
use Rattle.flow_rules.specs.Kinds.{Hold, Kind, Meter, Send}
use Rattle.flow_rules.specs.Sources.{SourceAt, source_of, sources_from as in_order, write_source}
use Rattle.std.proofs.Common.{ap, arith, refl, subst, sym, ◌∙◌}
use Rattle.std.proofs.lemmas.Bool.{false≢true}
use Rattle.std.proofs.lemmas.Option.{none-some, same_Some}
use Rattle.std.specs.Option.{option_map_or}
use Rattle.std.specs.Prelude.{Bool, IsSome, List, None, Option, Some, [], cond, false, if◌then◌else◌, is_some, length, map, slice_get, suc, true, zero, ℕ, ◌&&◌, ◌+◌, ◌++◌, ◌<◌, ◌==◌, ◌∷◌, ◌≡◌, ◌≤◌}
use Rattle.wire_flows.proofs.Boards.{unknown_unwatched}
use Rattle.wire_flows.proofs.Cases.{by_case, not_both, number_is, same_number}
use Rattle.wire_flows.proofs.Found.{name_is}
use Rattle.wire_flows.proofs.Kept.{kinds_of, own_is}
use Rattle.wire_flows.proofs.Owners.{few_times, only_one, own_differs}
use Rattle.wire_flows.specs.Flows.{Flows, flow_in, goes_to, watches_in, watches_of}
use Rattle.wire_flows.specs.Sound.{IsSound, buffer_of}
use Rattle.wire_flows.specs.Writes.{lows_on, watchers_on}
use Rattle.flow_rules.specs.declared.ids.BufferId.TheVariants as buffer

abbrev pub buffers_of : List SourceAt → List BufferId
buffers_of xs = map (λ s. s.buffer) xs

pub buffers_append : (xs ys : List SourceAt) → buffers_of (xs ++ ys) ≡ buffers_of xs ++ buffers_of ys
buffers_append [] ys = refl
buffers_append (x ∷ xs) ys = ap (λ bs. x.buffer ∷ bs) (buffers_append xs ys)

one_in : (b c : BufferId) → times_of_buffer b (c ∷ []) ≡ cond (same_buffer b c) 1 0 + 0
one_in b c = count-cons (same_buffer b) c []

-- ---- a buffer that is of no kind of the flow's own
source_apart : (b : BufferId) (f : FlowId) (p : ℕ) (kind : Kind) → same_buffer b (buffer.Stage f p) ≡ false → same_buffer b (buffer.Send f) ≡ false → times_of_buffer b (buffers_of (source_of f p kind)) ≡ 0
source_apart b f p Hold stage send = refl
source_apart b f p Meter stage send = let none : cond (same_buffer b (buffer.Stage f p)) 1 0 ≡ 0 = ap {B = ℕ} (λ t. cond t 1 0) stage in omega (arith, one_in b (buffer.Stage f p), none)
source_apart b f p Send stage send = let none : cond (same_buffer b (buffer.Send f)) 1 0 ≡ 0 = ap {B = ℕ} (λ t. cond t 1 0) send in omega (arith, one_in b (buffer.Send f), none)

order_cons : (b : BufferId) (f : FlowId) (p : ℕ) (kind : Kind) (kinds : List Kind) → times_of_buffer b (buffers_of (in_order f p (kind ∷ kinds))) ≡ times_of_buffer b (buffers_of (source_of f p kind)) + times_of_buffer b (buffers_of (in_order f (p + 1) kinds))
order_cons b f p kind kinds =
    ap (times_of_buffer b) (buffers_append (source_of f p kind) (in_order f (p + 1) kinds))
    ∙ count-append (same_buffer b) (buffers_of (source_of f p kind)) (buffers_of (in_order f (p + 1) kinds))

order_apart : (b : BufferId) (f : FlowId) (p : ℕ) (kinds : List Kind) → ((q : ℕ) → same_buffer b (buffer.Stage f q) ≡ false) → same_buffer b (buffer.Send f) ≡ false
    → times_of_buffer b (buffers_of (in_order f p kinds)) ≡ 0
order_apart b f p [] stages send = refl
order_apart b f p (kind ∷ kinds) stages send =
    omega (arith, order_cons b f p kind kinds, source_apart b f p kind (stages p) send, order_apart b f (p + 1) kinds stages send)

-- ---- all that a flow watches
watches_parts : (b : BufferId) (to : Option ℕ) (flow : Flow) → times_of_buffer b (watches_of to flow)
    ≡ times_of_buffer b (buffers_of (in_order flow.chain.flow 1 (kinds_of flow))) + times_of_buffer b (buffers_of (write_source (last_place flow + 1) to))
watches_parts b to flow =
    ap (times_of_buffer b) (buffers_append (in_order flow.chain.flow 1 (kinds_of flow)) (write_source (last_place flow + 1) to))
    ∙ count-append (same_buffer b) (buffers_of (in_order flow.chain.flow 1 (kinds_of flow))) (buffers_of (write_source (last_place flow + 1) to))

-- of a write buffer: whether the flow goes there
abbrev pub is_to : ℕ → Option ℕ → Bool
is_to c None = false
is_to c (Some d) = c == d

write_times : (c p : ℕ) (to : Option ℕ) → times_of_buffer (buffer.Write c) (buffers_of (write_source p to)) ≡ cond (is_to c to) 1 0
write_times c p None = refl
write_times c p (Some d) = sum (cond (c == d) 1 0) _ (one_in (buffer.Write c) (buffer.Write d))
  where
    sum : (a b : ℕ) → b ≡ a + 0 → b ≡ a
    sum a b e = omega (arith, e)

pub watches_write : (c : ℕ) (to : Option ℕ) (flow : Flow) → times_of_buffer (buffer.Write c) (watches_of to flow) ≡ cond (is_to c to) 1 0
watches_write c to flow = omega (
  arith,
  watches_parts (buffer.Write c) to flow,
  order_apart (buffer.Write c) flow.chain.flow 1 (kinds_of flow) (λ q. refl) refl,
  write_times c (last_place flow + 1) to,
)

own_write : (f : FlowId) (b : BufferId) (p : ℕ) (to : Option ℕ) → is_own f b ≡ true → times_of_buffer b (buffers_of (write_source p to)) ≡ 0
own_write f b p None own = refl
own_write f (buffer.Recv g) p (Some d) own = refl
own_write f (buffer.Stage g i) p (Some d) own = refl
own_write f (buffer.Send g) p (Some d) own = refl
own_write f (buffer.Write c) p (Some d) own = cc

-- another flow doesn't watch it
pub watches_apart : (f : FlowId) (b : BufferId) (to : Option ℕ) (flow : Flow) → is_own f b ≡ true → same_flow f flow.chain.flow ≡ false → times_of_buffer b (watches_of to flow) ≡ 0
watches_apart f b to flow own apart = omega (
  arith,
  watches_parts b to flow,
  order_apart b flow.chain.flow 1 (kinds_of flow)
      (λ q. own_differs f flow.chain.flow b (buffer.Stage flow.chain.flow q) apart own (same_flow-refl flow.chain.flow))
      (own_differs f flow.chain.flow b (buffer.Send flow.chain.flow) apart own (same_flow-refl flow.chain.flow)),
  own_write f b (last_place flow + 1) to own,
)

-- ---- a source of its own is there
abbrev is_source_kind : Kind → Bool
is_source_kind Hold = false
is_source_kind Meter = true
is_source_kind Send = true

source_here : (f : FlowId) (p : ℕ) (kind : Kind) → is_source_kind kind ≡ true → 1 ≤ times_of_buffer (buffer_of f p kind) (buffers_of (source_of f p kind))
source_here f p Hold source = absurd (false≢true source)
source_here f p Meter source = let one : cond (same_buffer (buffer.Stage f p) (buffer.Stage f p)) 1 0 ≡ 1 = ap {B = ℕ} (λ t. cond t 1 0) (same_buffer-refl (buffer.Stage f p)) in omega (arith, one_in (buffer.Stage f p) (buffer.Stage f p), one)
source_here f p Send source = let one : cond (same_buffer (buffer.Send f) (buffer.Send f)) 1 0 ≡ 1 = ap {B = ℕ} (λ t. cond t 1 0) (same_buffer-refl (buffer.Send f)) in omega (arith, one_in (buffer.Send f) (buffer.Send f), one)

order_has : (f : FlowId) (p i q : ℕ) (kinds : List Kind) (kind : Kind) → q ≡ p + i → slice_get kinds i ≡ Some kind → is_source_kind kind ≡ true → 1 ≤ times_of_buffer (buffer_of f q kind) (buffers_of (in_order f p kinds))
order_has f p i q [] kind e at source = absurd (none-some kind at)
order_has f p zero q (k ∷ kinds) kind e at source =
    let same : k ≡ kind = same_Some k kind at in
    let place : p ≡ q = omega (arith, e) in
    let here : 1 ≤ times_of_buffer (buffer_of f q kind) (buffers_of (source_of f p k)) = subst (λ x. 1 ≤ times_of_buffer (buffer_of f q kind) (buffers_of (source_of f x k))) (sym place)
    (subst (λ x. 1 ≤ times_of_buffer (buffer_of f q kind) (buffers_of (source_of f q x))) (sym same) (source_here f q kind source)) in
    omega (arith, order_cons (buffer_of f q kind) f p k kinds, here)
order_has f p (suc i) q (k ∷ kinds) kind e at source =
    omega (arith, order_cons (buffer_of f q kind) f p k kinds, order_has f (p + 1) i q kinds kind (omega (arith, e)) at source)

kind_at : (places : List Place) (i : ℕ) (place : Place) → slice_get places i ≡ Some place → slice_get (map {B = Kind} (λ x. kind_of x.kind) places) i ≡ Some (kind_of place.kind)
kind_at [] i place at = absurd (none-some place at)
kind_at (x ∷ places) zero place at = ap (λ (p : Place). Some (kind_of p.kind)) (same_Some x place at)
kind_at (x ∷ places) (suc i) place at = kind_at places i place at

source_is : (kind : StageKind) → is_source kind ≡ true → is_source_kind (kind_of kind) ≡ true
source_is stage.Hold source = source
source_is (stage.Meter rate) source = source
source_is stage.Send source = source

pub watches_own : (to : Option ℕ) (flow : Flow) (i : ℕ) (place : Place) → slice_get flow.chain.places i ≡ Some place → is_source place.kind ≡ true
    → 1 ≤ times_of_buffer (buffer_of flow.chain.flow (suc i) (kind_of place.kind)) (watches_of to flow)
watches_own to flow i place at source =
    let b = buffer_of flow.chain.flow (suc i) (kind_of place.kind) in
    omega (arith, watches_parts b to flow, order_has flow.chain.flow 1 i (suc i) (kinds_of flow) (kind_of place.kind) (omega arith) (kind_at flow.chain.places i place at) (source_is place.kind source))

-- ---- of the gates
module _ (flows : Flows) (s : IsSound flows) where
  pub times_is : (f : FlowId) (b : BufferId) → times f (watchers_of flows.gates b) ≡ times_of_buffer b (watches_in flows f)
  times_is f b = s.gates.paired f b ∙ ap (times_of_buffer b) (s.watched f)

  in_found : (f : FlowId) (flow : Flow) → flow_in flows f ≡ Some flow → watches_in flows f ≡ watches_of (goes_to flows f) flow
  in_found f flow found = ap (λ o. option_map_or (watches_of (goes_to flows f)) o []) found

  -- of a buffer of a flow nobody else is a watcher
  pub others_none : (f : FlowId) (b : BufferId) → is_own f b ≡ true → (g : FlowId) → same_flow f g ≡ false → times g (watchers_of flows.gates b) ≡ 0
  others_none f b own g apart = times_is g b ∙ by_found (flow_in flows g) refl
    where
      by_found : (o : Option Flow) → flow_in flows g ≡ o → times_of_buffer b (watches_in flows g) ≡ 0
      by_found None e = ap (λ o. times_of_buffer b (option_map_or (watches_of (goes_to flows g)) o [])) e
      by_found (Some flow) e = ap (times_of_buffer b) (in_found g flow e) ∙ watches_apart f b (goes_to flows g) flow own (ap (same_flow f) (name_is flows.exchanges g flow s.exchanges e) ∙ apart)

  -- a source of its own is watched by the flow alone
  module _ (f : FlowId) (flow : Flow) (found : flow_in flows f ≡ Some flow) (i : ℕ) (place : Place) (at : slice_get flow.chain.places i ≡ Some place) (source : is_source place.kind ≡ true) where
    abbrev pub own_buffer : BufferId
    own_buffer = buffer_of f (suc i) (kind_of place.kind)

    own_there : 1 ≤ times f (watchers_of flows.gates own_buffer)
    own_there =
        let name = name_is flows.exchanges f flow s.exchanges found in
        let some = subst (λ g. 1 ≤ times_of_buffer (buffer_of g (suc i) (kind_of place.kind)) (watches_of (goes_to flows f) flow)) name (watches_own (goes_to flows f) flow i place at source) in
        subst (λ n. 1 ≤ n) (sym (times_is f own_buffer ∙ ap (times_of_buffer own_buffer) (in_found f flow found))) some

    pub own_watchers : watchers_of flows.gates own_buffer ≡ f ∷ []
    own_watchers = only_one f (watchers_of flows.gates own_buffer) (others_none f own_buffer (own_is f f (suc i) (kind_of place.kind) ∙ same_flow-refl f)) (one (times f (watchers_of flows.gates own_buffer)) own_there (s.gates.once f own_buffer))
      where
        one : (n : ℕ) → 1 ≤ n → n ≤ 1 → n ≡ 1
        one n a b = omega (arith, a, b)

    pub own_known : is_known flows.gates own_buffer ≡ true
    own_known = by_case (is_known flows.gates own_buffer) (λ known. known)
        (λ none. absurd (nothing (times f (watchers_of flows.gates own_buffer)) own_there (ap (times f) (unknown_unwatched flows.gates own_buffer none))))
      where
        nothing : (n : ℕ) → 1 ≤ n → n ≡ 0 → ⊥
        nothing n a e = omega (arith, a, e)

  -- at most one low of its own is pending
  pub own_few : (f : FlowId) (b : BufferId) → is_own f b ≡ true → length (pending_on flows.gates b) ≤ 1
  own_few f b own = few_times f (pending_on flows.gates b)
      (λ g apart. none (times g (pending_on flows.gates b)) (times g (watchers_of flows.gates b)) (s.gates.pending g b) (others_none f b own g apart))
      (least (times f (pending_on flows.gates b)) (times f (watchers_of flows.gates b)) (s.gates.pending f b) (s.gates.once f b))
    where
      none : (a b : ℕ) → a ≤ b → b ≡ 0 → a ≡ 0
      none a b l e = omega (arith, l, e)

      least : (a b : ℕ) → a ≤ b → b ≤ 1 → a ≤ 1
      least a b l m = omega (arith, l, m)

  -- who watches a write buffer goes there, and is live
  pub watcher_goes : (c : ℕ) (f : FlowId) → 1 ≤ times f (watchers_on c flows) → goes_to flows f ≡ Some c
  watcher_goes c f some = by_found (flow_in flows f) refl
    where
      is_there : (to : Option ℕ) (n : ℕ) → 1 ≤ n → n ≡ cond (is_to c to) 1 0 → to ≡ Some c
      is_there None n l e = absurd (omega (arith, l, e))
      is_there (Some d) n l e = by_case (c == d)
          (λ same. ap (λ x. Some x) (sym (number_is c d same)))
          (λ apart. let none : cond (c == d) 1 0 ≡ 0 = ap {B = ℕ} (λ b. cond b 1 0) apart in absurd (omega (arith, l, e, none)))

      by_found : (o : Option Flow) → flow_in flows f ≡ o → goes_to flows f ≡ Some c
      by_found None e = absurd (nothing (times f (watchers_on c flows)) some (times_is f (buffer.Write c) ∙ ap (λ o. times_of_buffer (buffer.Write c) (option_map_or (watches_of (goes_to flows f)) o [])) e))
        where
          nothing : (n : ℕ) → 1 ≤ n → n ≡ 0 → ⊥
          nothing n a e = omega (arith, a, e)
      by_found (Some flow) e = is_there (goes_to flows f) (times f (watchers_on c flows)) some (times_is f (buffer.Write c) ∙ (ap (times_of_buffer (buffer.Write c)) (in_found f flow e) ∙ watches_write c (goes_to flows f) flow))
