-- The sources of a flow are the buffers that it watches, each once, and who is still to be told of their drains.
use Rattle.exchange_core.specs.Exchange.{IsFlowOf}
use Rattle.exchange_core.specs.Flow.{Flow}
use Rattle.filter_chain.specs.Place.{Place, is_source, kind_of}
use Rattle.filter_chain.specs.declared.stage.StageKind.{StageKind as PlaceKind}
use Rattle.filter_chain.specs.declared.stage.StageKind.TheVariants as kind
use Rattle.flow_gate.specs.Board.{Board, lows, pending_on, times, times_of_buffer, watched_by, watchers_of}
use Rattle.flow_gate.specs.Ids.{same_buffer, same_flow}
use Rattle.flow_rules.specs.declared.ids.BufferId.{BufferId}
use Rattle.flow_rules.specs.declared.ids.BufferId.TheVariants as buffer
use Rattle.flow_rules.specs.declared.ids.FlowId.{FlowId}
use Rattle.flow_laws.proofs.Lists.{buffer_is, count_cons, one_if, same_number}
use Rattle.flow_laws.proofs.Sources.{behind}
use Rattle.flow_rules.specs.Kinds.{Kind, Send}
use Rattle.flow_rules.specs.Sources.{sources_from, write_source}
use Rattle.proxy_config.specs.declared.config.LimitKeys.{LimitKeys}
use Rattle.std.proofs.Common.{ap, arith, refl, sym, ◌∙◌}
use Rattle.std.proofs.lemmas.Bool.Decides.{nat_tests}
use Rattle.std.proofs.lemmas.List.Sums.{sum_by-cons}
use Rattle.std.proofs.lemmas.Option.{same_Some}
use Rattle.std.specs.Option.{option_map_or}
use Rattle.std.specs.Prelude.{Bool, List, None, Option, Some, [], drop, false, if◌then◌else◌, map, slice_get, suc, sum_by, true, zero, ℕ, ◌&&◌, ◌++◌, ◌+◌, ◌<◌, ◌==◌, ◌∷◌, ◌≡◌}
use Rattle.tape_laws.specs.Sources.{source_buffers}
use Rattle.tape_laws.specs.Units.{Hold, Meter, StageKind, kind_of as stage_kind}
use Rattle.wire_flows.proofs.Found.{flow_is}
use Rattle.wire_flows.specs.Flows.{Flows, flow_in, goes_to, watches_of}
use Rattle.wire_flows.specs.Sound.{IsSound, buffer_of}
use Rattle.wire_state.specs.Limits.{shape_of, stage_shape}
use Rattle.wire_state.specs.Tapes.{conn_to, tape_setup}
use Rattle.wire_state.specs.Ways.{WayHistory, stages_passed}
use Rattle.wire_state.specs.Worlds.{FlowIs}

-- ---- the kinds of a flow's places are those of its stages, and a send buffer behind them
abbrev Shape : Type 0
Shape = PlaceKind × ℕ

abbrev first_kind : List Shape → PlaceKind
first_kind [] = kind.Send
first_kind (x ∷ xs) = x.0

stage_same : (s : StageKind) → kind_of (stage_shape s).0 ≡ stage_kind s
stage_same (Hold limit) = refl
stage_same (Meter limit rate) = refl

kinds_same : (limit : ℕ) (ss : List StageKind) (xs : List Place) → map shape_of xs ≡ map stage_shape ss ++ (kind.Send, limit) ∷ [] → map {B = Kind} (λ x. kind_of x.kind) xs ≡ map stage_kind ss ++ Send ∷ []
kinds_same limit [] [] e = cc
kinds_same limit [] (x ∷ []) e = ap (λ (k : PlaceKind). kind_of k ∷ []) (ap first_kind e)
kinds_same limit [] (x ∷ y ∷ xs) e = cc
kinds_same limit (s ∷ ss) [] e = cc
kinds_same limit (s ∷ ss) (x ∷ xs) e =
    (λ i. (ap (λ (k : PlaceKind). kind_of k) (ap first_kind e) ∙ stage_same s) i ∷ kinds_same limit ss xs (ap (λ (ks : List Shape). drop 1 ks) e) i)

-- a flow watches the buffers of its sources
pub watches : (l : LimitKeys) (flows : Flows) (h : WayHistory) → IsSound flows → (f : FlowId) (flow : Flow) → flow_in flows f ≡ Some flow → FlowIs l f h flow → goes_to flows f ≡ conn_to f h
    → watched_by flows.gates f ≡ source_buffers (tape_setup l) f h
watches l flows h sound f flow found is goes =
    let own : IsFlowOf f.exchange f.back flows.exchanges.time flow = flow_is flows.exchanges f flow sound.exchanges found in
    sound.watched f ∙ (ap (λ (o : Option Flow). option_map_or (watches_of (goes_to flows f)) o []) found
    ∙ (λ i. map (λ s. s.buffer) (sources_from (own.own i) 1 (kinds_same l.send_buffer (stages_passed f h) flow.chain.places is.shape.places i) ++ write_source (is.last i + 1) (goes i))))

-- so it is among the watchers of a buffer as often as that is among its sources
pub watchers_count : (l : LimitKeys) (flows : Flows) (h : WayHistory) → IsSound flows → (f : FlowId) (flow : Flow) → flow_in flows f ≡ Some flow → FlowIs l f h flow → goes_to flows f ≡ conn_to f h
    → (b : BufferId) → times f (watchers_of flows.gates b) ≡ times_of_buffer b (source_buffers (tape_setup l) f h)
watchers_count l flows h sound f flow found is goes b = sound.gates.paired f b ∙ ap (times_of_buffer b) (watches l flows h sound f flow found is goes)

-- ---- buffers of its own among its sources
zero_first : (x : Bool) (n m : ℕ) → x ≡ false → n ≡ m → one_if x + n ≡ m
zero_first true n m e i = cc
zero_first false n m e i = omega (arith, i)

pub last_one : (x : Bool) → one_if x + 0 ≡ one_if x
last_one true = refl
last_one false = refl

none_and : (x : Bool) → one_if (x && false) ≡ 0
none_and true = refl
none_and false = refl

one_and : (x : Bool) → one_if (x && true) ≡ one_if x
one_and true = refl
one_and false = refl

module _ (g f : FlowId) (w : ℕ) (to : Option ℕ) where
  -- what is behind the send buffer is a write buffer
  send_last : (o : Option ℕ) (b : BufferId) → ((c : ℕ) → same_buffer b (buffer.Write c) ≡ false) → times_of_buffer b (map (λ s. s.buffer) (write_source w o)) ≡ 0
  send_last None b e = refl
  send_last (Some c) b e = count_cons (same_buffer b) (buffer.Write c) [] ∙ zero_first (same_buffer b (buffer.Write c)) 0 0 (e c) refl

  pub send_times : (q : ℕ) (ss : List StageKind) → times_of_buffer (buffer.Send g) (behind f q ss w to) ≡ one_if (same_flow g f)
  send_times q [] = count_cons (same_buffer (buffer.Send g)) (buffer.Send f) (map (λ s. s.buffer) (write_source w to)) ∙ (ap (λ n. one_if (same_flow g f) + n) (send_last to (buffer.Send g) (λ c. refl)) ∙ last_one (same_flow g f))
  send_times q (Hold limit ∷ ss) = send_times (q + 1) ss
  send_times q (Meter limit rate ∷ ss) = count_cons (same_buffer (buffer.Send g)) (buffer.Stage f q) (behind f (q + 1) ss w to) ∙ zero_first (same_buffer (buffer.Send g) (buffer.Stage f q)) _ _ refl (send_times (q + 1) ss)

  pub recv_times : (q : ℕ) (ss : List StageKind) → times_of_buffer (buffer.Recv g) (behind f q ss w to) ≡ 0
  recv_times q [] = count_cons (same_buffer (buffer.Recv g)) (buffer.Send f) (map (λ s. s.buffer) (write_source w to)) ∙ zero_first (same_buffer (buffer.Recv g) (buffer.Send f)) _ _ refl (send_last to (buffer.Recv g) (λ c. refl))
  recv_times q (Hold limit ∷ ss) = recv_times (q + 1) ss
  recv_times q (Meter limit rate ∷ ss) = count_cons (same_buffer (buffer.Recv g)) (buffer.Stage f q) (behind f (q + 1) ss w to) ∙ zero_first (same_buffer (buffer.Recv g) (buffer.Stage f q)) _ _ refl (recv_times (q + 1) ss)

  -- a stage before these
  apart_first : (a b : ℕ) → a < b → (a == b) ≡ false
  apart_first a b lt = grind (arith, nat_tests)

  other_place : (x y : Bool) → y ≡ false → (x && y) ≡ false
  other_place true y e = e
  other_place false y e = refl

  stage_none : (i q : ℕ) (ss : List StageKind) → i < q → times_of_buffer (buffer.Stage g i) (behind f q ss w to) ≡ 0
  stage_none i q [] lt = count_cons (same_buffer (buffer.Stage g i)) (buffer.Send f) (map (λ s. s.buffer) (write_source w to)) ∙ zero_first (same_buffer (buffer.Stage g i) (buffer.Send f)) _ _ refl (send_last to (buffer.Stage g i) (λ c. refl))
  stage_none i q (Hold limit ∷ ss) lt = stage_none i (q + 1) ss (omega (arith, lt))
  stage_none i q (Meter limit rate ∷ ss) lt = count_cons (same_buffer (buffer.Stage g i)) (buffer.Stage f q) (behind f (q + 1) ss w to)
      ∙ zero_first (same_buffer (buffer.Stage g i) (buffer.Stage f q)) _ _ (other_place (same_flow g f) (i == q) (apart_first i q lt)) (stage_none i (q + 1) ss (omega (arith, lt)))

  -- no stage of another flow is there
  pub stage_away : (i q : ℕ) (ss : List StageKind) → same_flow g f ≡ false → times_of_buffer (buffer.Stage g i) (behind f q ss w to) ≡ 0
  stage_away i q [] e = count_cons (same_buffer (buffer.Stage g i)) (buffer.Send f) (map (λ s. s.buffer) (write_source w to)) ∙ zero_first (same_buffer (buffer.Stage g i) (buffer.Send f)) _ _ refl (send_last to (buffer.Stage g i) (λ c. refl))
  stage_away i q (Hold limit ∷ ss) e = stage_away i (q + 1) ss e
  stage_away i q (Meter limit rate ∷ ss) e = count_cons (same_buffer (buffer.Stage g i)) (buffer.Stage f q) (behind f (q + 1) ss w to)
      ∙ zero_first (same_buffer (buffer.Stage g i) (buffer.Stage f q)) _ _ (ap (λ (b : Bool). b && (i == q)) e) (stage_away i (q + 1) ss e)

  -- the stage with this number, counted from 0, is a Meter
  abbrev pub meters : List StageKind → ℕ → Bool
  meters [] i = false
  meters (Hold limit ∷ ss) zero = false
  meters (Meter limit rate ∷ ss) zero = true
  meters (s ∷ ss) (suc i) = meters ss i

  nothing : (q : ℕ) → q + 0 ≡ q
  nothing q = omega arith

  later : (q i : ℕ) → q + suc i ≡ (q + 1) + i
  later q i = omega arith

  first_place : (q : ℕ) → q < q + 1
  first_place q = omega arith

  pub stage_times : (i q : ℕ) (ss : List StageKind) → times_of_buffer (buffer.Stage g (q + i)) (behind f q ss w to) ≡ one_if (same_flow g f && meters ss i)
  stage_times i q [] = count_cons (same_buffer (buffer.Stage g (q + i))) (buffer.Send f) (map (λ s. s.buffer) (write_source w to))
      ∙ (zero_first (same_buffer (buffer.Stage g (q + i)) (buffer.Send f)) _ _ refl (send_last to (buffer.Stage g (q + i)) (λ c. refl)) ∙ sym (none_and (same_flow g f)))
  stage_times zero q (Hold limit ∷ ss) = ap (λ (p : ℕ). times_of_buffer (buffer.Stage g p) (behind f (q + 1) ss w to)) (nothing q) ∙ (stage_none q (q + 1) ss (first_place q) ∙ sym (none_and (same_flow g f)))
  stage_times zero q (Meter limit rate ∷ ss) = ap (λ (p : ℕ). times_of_buffer (buffer.Stage g p) (behind f q (Meter limit rate ∷ ss) w to)) (nothing q)
      ∙ (count_cons (same_buffer (buffer.Stage g q)) (buffer.Stage f q) (behind f (q + 1) ss w to)
      ∙ (ap (λ (n : ℕ). one_if (same_flow g f && (q == q)) + n) (stage_none q (q + 1) ss (first_place q)) ∙ (last_one (same_flow g f && (q == q)) ∙ ap (λ (b : Bool). one_if (same_flow g f && b)) (same_number q))))
  stage_times (suc i) q (Hold limit ∷ ss) = ap (λ (p : ℕ). times_of_buffer (buffer.Stage g p) (behind f (q + 1) ss w to)) (later q i) ∙ stage_times i (q + 1) ss
  stage_times (suc i) q (Meter limit rate ∷ ss) = count_cons (same_buffer (buffer.Stage g (q + suc i))) (buffer.Stage f q) (behind f (q + 1) ss w to)
      ∙ zero_first (same_buffer (buffer.Stage g (q + suc i)) (buffer.Stage f q)) _ _ (other_place (same_flow g f) (q + suc i == q) (behind_it q i))
      (ap (λ (p : ℕ). times_of_buffer (buffer.Stage g p) (behind f (q + 1) ss w to)) (later q i) ∙ stage_times i (q + 1) ss)
    where
      behind_it : (q i : ℕ) → (q + suc i == q) ≡ false
      behind_it q i = grind (arith, nat_tests)

  abbrev is_meter : PlaceKind → Bool
  is_meter kind.Hold = false
  is_meter (kind.Meter rate) = true
  is_meter kind.Send = false

  module _ (most : ℕ) where
    abbrev AreShaped : List StageKind → List Place → Type 0
    AreShaped ss xs = map shape_of xs ≡ map stage_shape ss ++ (kind.Send, most) ∷ []

    meters_at : (ss : List StageKind) (xs : List Place) (i : ℕ) (y : Place) → AreShaped ss xs → slice_get xs i ≡ Some y → meters ss i ≡ is_meter y.kind
    meters_at [] [] i y e at = cc
    meters_at [] (z ∷ []) zero y e at = sym (ap (λ (v : Place). is_meter v.kind) (sym (same_Some z y at)) ∙ ap (λ (k : PlaceKind). is_meter k) (ap first_kind e))
    meters_at [] (z ∷ []) (suc i) y e at = cc
    meters_at [] (z ∷ v ∷ xs) i y e at = cc
    meters_at (s ∷ ss) [] i y e at = cc
    meters_at (Hold limit ∷ ss) (z ∷ zs) zero y e at = sym (ap (λ (v : Place). is_meter v.kind) (sym (same_Some z y at)) ∙ ap (λ (k : PlaceKind). is_meter k) (ap first_kind e))
    meters_at (Meter limit rate ∷ ss) (z ∷ zs) zero y e at = sym (ap (λ (v : Place). is_meter v.kind) (sym (same_Some z y at)) ∙ ap (λ (k : PlaceKind). is_meter k) (ap first_kind e))
    meters_at (Hold limit ∷ ss) (z ∷ zs) (suc i) y e at = meters_at ss zs i y (ap (λ (ks : List Shape). drop 1 ks) e) at
    meters_at (Meter limit rate ∷ ss) (z ∷ zs) (suc i) y e at = meters_at ss zs i y (ap (λ (ks : List Shape). drop 1 ks) e) at

    -- the buffer of a place of a flow is once among that flow's sources, where it is a source, and never among another's
    pub place_times : (ss : List StageKind) (xs : List Place) (i : ℕ) (y : Place) → AreShaped ss xs → slice_get xs i ≡ Some y
        → times_of_buffer (buffer_of g (suc i) (kind_of y.kind)) (behind f 1 ss w to) ≡ one_if (same_flow g f && is_source y.kind)
    place_times ss xs i y e found = at y.kind refl
      where
        next : (i : ℕ) → suc i ≡ 1 + i
        next i = omega arith

        staged : (k : PlaceKind) → y.kind ≡ k → times_of_buffer (buffer.Stage g (suc i)) (behind f 1 ss w to) ≡ one_if (same_flow g f && is_meter k)
        staged k is = ap (λ (p : ℕ). times_of_buffer (buffer.Stage g p) (behind f 1 ss w to)) (next i)
            ∙ (stage_times i 1 ss ∙ ap (λ (b : Bool). one_if (same_flow g f && b)) (meters_at ss xs i y e found ∙ ap (λ (v : PlaceKind). is_meter v) is))

        at : (k : PlaceKind) → y.kind ≡ k → times_of_buffer (buffer_of g (suc i) (kind_of k)) (behind f 1 ss w to) ≡ one_if (same_flow g f && is_source k)
        at kind.Hold is = staged kind.Hold is
        at (kind.Meter rate) is = staged (kind.Meter rate) is
        at kind.Send is = send_times 1 ss ∙ sym (one_and (same_flow g f))

-- ---- who is still to be told
pub lows_same : (f : FlowId) (old new : Board) → watched_by new f ≡ watched_by old f → ((b : BufferId) → pending_on new b ≡ pending_on old b) → lows new f ≡ lows old f
lows_same f old new w p = λ i. sum_by (λ b. times f (p b i)) (w i)

module _ (f : FlowId) (c : BufferId) (more : List FlowId) (told : BufferId → List FlowId) (x : Bool) (many : times f more ≡ one_if x) (none : told c ≡ []) where
  abbrev now : BufferId → List FlowId
  now b = if same_buffer c b then more else told b

  pub lows_more : (bs : List BufferId) → sum_by (λ b. times f (now b)) bs ≡ sum_by (λ b. times f (told b)) bs + (if x then times_of_buffer c bs else 0)
  lows_more [] = at x
    where
      at : (y : Bool) → 0 ≡ 0 + (if y then 0 else 0)
      at true = refl
      at false = refl
  lows_more (b ∷ bs) = at (same_buffer c b) refl (lows_more bs)
    where
      sums : (y : Bool) (s0 s1 t0 t1 a k m : ℕ) → s1 ≡ a + s0 → t1 ≡ 0 + t0 → a ≡ one_if y → k ≡ 1 + m → s0 ≡ t0 + (if y then m else 0) → s1 ≡ t1 + (if y then k else 0)
      sums true s0 s1 t0 t1 a k m e1 e2 e3 e4 e5 = omega (arith, e1, e2, e3, e4, e5)
      sums false s0 s1 t0 t1 a k m e1 e2 e3 e4 e5 = omega (arith, e1, e2, e3, e5)

      skips : (y : Bool) (s0 s1 t0 t1 a k m : ℕ) → s1 ≡ a + s0 → t1 ≡ a + t0 → k ≡ 0 + m → s0 ≡ t0 + (if y then m else 0) → s1 ≡ t1 + (if y then k else 0)
      skips true s0 s1 t0 t1 a k m e1 e2 e4 e5 = omega (arith, e1, e2, e4, e5)
      skips false s0 s1 t0 t1 a k m e1 e2 e4 e5 = omega (arith, e1, e2, e5)

      at : (s : Bool) → same_buffer c b ≡ s → sum_by (λ d. times f (now d)) bs ≡ sum_by (λ d. times f (told d)) bs + (if x then times_of_buffer c bs else 0) → sum_by (λ d. times f (now d)) (b ∷ bs) ≡ sum_by (λ d. times f (told d)) (b ∷ bs) + (if x then times_of_buffer c (b ∷ bs) else 0)
      at true e ih =
          let empty : times f (told b) ≡ 0 = ap (times f) (ap told (sym (buffer_is c b e)) ∙ none) in
          sums x _ _ _ _ (times f (now b)) _ _ (sum_by-cons (λ d. times f (now d)) b bs) (sum_by-cons (λ d. times f (told d)) b bs ∙ ap (λ (n : ℕ). n + sum_by (λ d. times f (told d)) bs) empty)
          (ap (λ (v : Bool). times f (if v then more else told b)) e ∙ many) (count_cons (same_buffer c) b bs ∙ ap (λ (v : Bool). one_if v + times_of_buffer c bs) e) ih
      at false e ih =
          skips x _ _ _ _ (times f (told b)) _ _ (sum_by-cons (λ d. times f (now d)) b bs ∙ ap (λ (v : Bool). times f (if v then more else told b) + sum_by (λ d. times f (now d)) bs) e) (sum_by-cons (λ d. times f (told d)) b bs)
          (count_cons (same_buffer c) b bs ∙ ap (λ (v : Bool). one_if v + times_of_buffer c bs) e) ih
