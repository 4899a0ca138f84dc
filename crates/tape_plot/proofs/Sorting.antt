-- The buffers of what is kept stand in order: by exchanges, a request before its response, place by place, and then by connections.
use Rattle.flow_gate.proofs.Places.{less_cmp}
use Rattle.flow_rules.specs.declared.ids.FlowId.{FlowId}
use Rattle.std.proofs.Common.{ap, arith, refl, sym, ◌∙◌}
use Rattle.std.proofs.lemmas.List.Elements.{All-append, All-cons, All-head, All-nil, All-tail, All-weaker}
use Rattle.std.proofs.lemmas.Map.Keys.{sorted_head, sorted_tail}
use Rattle.std.specs.List.{AllByRecursion}
use Rattle.std.specs.List.Sorted.{IsStrictlySortedBy}
use Rattle.std.specs.Map.{keys_of}
use Rattle.std.specs.Ordering.{nat_cmp}
use Rattle.std.specs.Prelude.{All, Bool, List, Option, [], false, if◌then◌else◌, length, true, ℕ, ◌+◌, ◌++◌, ◌<◌, ◌==◌, ◌∷◌, ◌≡◌, ◌≤◌}
use Rattle.std.specs.declared.cmp.Ordering.TheVariants.{Less}
use Rattle.tape_plot.proofs.Heights.{exchange_before, place_before, request_before, write_before}
use Rattle.tape_plot.proofs.Ranks.{comes_first}
use Rattle.tape_plot.specs.Filled.{of_connection, of_connections, of_exchange, of_exchanges, of_flow, of_lane, of_places}
use Rattle.tape_plot.specs.Highest.{AreInOrder, against, is_before}
use Rattle.tape_plot.specs.Lanes.{most_of}
use Rattle.tape_plot.specs.Limits.{known, limit_at, place_limit_at}
use Rattle.tape_plot.specs.Subjects.{flow_id}
use Rattle.tape_plot.specs.declared.highest.Buffer.{Buffer}
use Rattle.tape_plot.specs.declared.connection.Connection.{Connection}
use Rattle.tape_plot.specs.declared.exchange.Exchange.{Exchange}
use Rattle.tape_plot.specs.declared.flow.Place.{Place}
use Rattle.tape_plot.specs.declared.highest.Ranked.{Ranked}
use Rattle.tape_plot.specs.declared.limits.Limits.{Limits}
use Rattle.flow_rules.specs.declared.ids.BufferId.TheVariants as ids
use Rattle.tape_plot.specs.declared.highest.Buffer.TheVariants as buffer

-- two lists in order, of which the one comes before the other
order_append : {X : Type 0} (comes : X → X → Bool) (xs ys : List X) → AreInOrder comes xs → AreInOrder comes ys → All (λ x. All (λ y. comes x y ≡ true) ys) xs → AreInOrder comes (xs ++ ys)
order_append comes [] ys a b all = b
order_append comes (x ∷ xs) ys a b all = (
  All-append (λ y. comes x y ≡ true) xs ys a.0 (All-head (λ v. All (λ y. comes v y ≡ true) ys) x xs all),
  order_append comes xs ys a.1 b (All-tail (λ v. All (λ y. comes v y ≡ true) ys) x xs all),
)

-- where each of the one comes before each of the other
all_before : (P Q : Buffer → Type 0) (xs ys : List Ranked) → ((a b : Buffer) → P a → Q b → is_before a b ≡ true) → All (λ r. P r.buffer) xs → All (λ r. Q r.buffer) ys → All (λ r. All (λ s. comes_first r s ≡ true) ys) xs
all_before P Q xs ys before ps qs =
    All-weaker (λ r. P r.buffer) (λ r. All (λ s. comes_first r s ≡ true) ys) (λ r p. All-weaker (λ s. Q s.buffer) (λ s. comes_first r s ≡ true) (λ s q. before r.buffer s.buffer p q) ys qs) xs ps

-- ---- one buffer

lane_all : (P : Buffer → Type 0) (b : Buffer) (limit : Option ℕ) (place : Place) → P b → All (λ r. P r.buffer) (of_lane b limit place)
lane_all P b limit place p = by (most == 0)
  where
    most : ℕ
    most = most_of place.lane.base place.lane.points.items

    one : Ranked
    one = record { buffer = b; height = against (known limit) most }

    by : (c : Bool) → All (λ r. P r.buffer) (if c then [] else one ∷ [])
    by true = All-nil (λ r. P r.buffer)
    by false = All-cons (λ r. P r.buffer) one [] p (All-nil (λ r. P r.buffer))

lane_order : (b : Buffer) (limit : Option ℕ) (place : Place) → AreInOrder comes_first (of_lane b limit place)
lane_order b limit place = by (most == 0)
  where
    most : ℕ
    most = most_of place.lane.base place.lane.points.items

    one : Ranked
    one = record { buffer = b; height = against (known limit) most }

    by : (c : Bool) → AreInOrder comes_first (if c then [] else one ∷ [])
    by true = tt
    by false = (All-nil (λ r. comes_first one r ≡ true), tt)

-- ---- a flow

-- a place of the flow, from the p-th on
abbrev IsPlaceFrom : FlowId → ℕ → Buffer → Type 0
IsPlaceFrom f p (buffer.Place g q) = (g ≡ f) × (p ≤ q)
IsPlaceFrom f p (buffer.Write c) = ⊥

place_itself : (f : FlowId) (p : ℕ) → IsPlaceFrom f p (buffer.Place f p)
place_itself f p = (refl, omega arith)

later_place : (f : FlowId) (p : ℕ) (b : Buffer) → IsPlaceFrom f (p + 1) b → IsPlaceFrom f p b
later_place f p (buffer.Place g q) k = (k.0, omega (arith, k.1))
later_place f p (buffer.Write c) k = absurd k

next_place : (f : FlowId) (p : ℕ) (a b : Buffer) → a ≡ buffer.Place f p → IsPlaceFrom f (p + 1) b → is_before a b ≡ true
next_place f p a (buffer.Place g q) e k = ap (λ (v : Buffer). is_before v (buffer.Place g q)) e ∙ place_before f g p q (sym k.0) (omega (arith, k.1))
next_place f p a (buffer.Write c) e k = absurd k

places_from : (limits : Limits) (f : FlowId) (count p : ℕ) (ps : List Place) → All (λ r. IsPlaceFrom f p r.buffer) (of_places limits f count p ps)
places_from limits f count p [] = All-nil (λ r. IsPlaceFrom f p r.buffer)
places_from limits f count p (x ∷ xs) =
    All-append (λ r. IsPlaceFrom f p r.buffer) (of_lane (buffer.Place f p) (place_limit_at limits f count p) x) (of_places limits f count (p + 1) xs)
    (lane_all (IsPlaceFrom f p) (buffer.Place f p) (place_limit_at limits f count p) x (place_itself f p))
    (All-weaker (λ r. IsPlaceFrom f (p + 1) r.buffer) (λ r. IsPlaceFrom f p r.buffer) (λ r k. later_place f p r.buffer k) (of_places limits f count (p + 1) xs) (places_from limits f count (p + 1) xs))

places_order : (limits : Limits) (f : FlowId) (count p : ℕ) (ps : List Place) → AreInOrder comes_first (of_places limits f count p ps)
places_order limits f count p [] = tt
places_order limits f count p (x ∷ xs) =
    let one = of_lane (buffer.Place f p) (place_limit_at limits f count p) x in
    let rest = of_places limits f count (p + 1) xs in
    order_append comes_first one rest (lane_order (buffer.Place f p) (place_limit_at limits f count p) x) (places_order limits f count (p + 1) xs)
    (all_before (λ b. b ≡ buffer.Place f p) (IsPlaceFrom f (p + 1)) one rest (next_place f p) (lane_all (λ b. b ≡ buffer.Place f p) (buffer.Place f p) (place_limit_at limits f count p) x refl) (places_from limits f count (p + 1) xs))

-- ---- exchanges

-- a place of one of its flows
abbrev IsOf : ℕ → Buffer → Type 0
IsOf x (buffer.Place f p) = f.exchange ≡ x
IsOf x (buffer.Write c) = ⊥

flow_of_it : (x : ℕ) (back : Bool) (b : Buffer) → IsPlaceFrom (flow_id x back) 0 b → IsOf x b
flow_of_it x back (buffer.Place f p) k = ap (λ (v : FlowId). v.exchange) k.0
flow_of_it x back (buffer.Write c) k = absurd k

request_first : (x : ℕ) (a b : Buffer) → IsPlaceFrom (flow_id x false) 0 a → IsPlaceFrom (flow_id x true) 0 b → is_before a b ≡ true
request_first x (buffer.Place f p) (buffer.Place g q) k l =
    request_before f g p q (ap (λ (v : FlowId). v.exchange) k.0 ∙ sym (ap (λ (v : FlowId). v.exchange) l.0)) (ap (λ (v : FlowId). v.back) k.0) (ap (λ (v : FlowId). v.back) l.0)
request_first x (buffer.Place f p) (buffer.Write d) k l = absurd l
request_first x (buffer.Write c) b k l = absurd k

exchange_of : (limits : Limits) (x : ℕ) (e : Exchange) → All (λ r. IsOf x r.buffer) (of_exchange limits x e)
exchange_of limits x e =
    let q = of_flow limits (flow_id x false) e.request in
    let r = of_flow limits (flow_id x true) e.response in
    All-append (λ r. IsOf x r.buffer) q r
    (All-weaker (λ r. IsPlaceFrom (flow_id x false) 0 r.buffer) (λ r. IsOf x r.buffer) (λ r k. flow_of_it x false r.buffer k) q
    (places_from limits (flow_id x false) (length e.request.places.items) 0 e.request.places.items))
    (All-weaker (λ r. IsPlaceFrom (flow_id x true) 0 r.buffer) (λ r. IsOf x r.buffer) (λ r k. flow_of_it x true r.buffer k) r
    (places_from limits (flow_id x true) (length e.response.places.items) 0 e.response.places.items))

exchange_order : (limits : Limits) (x : ℕ) (e : Exchange) → AreInOrder comes_first (of_exchange limits x e)
exchange_order limits x e =
    let qs = e.request.places.items in
    let rs = e.response.places.items in
    order_append comes_first (of_flow limits (flow_id x false) e.request) (of_flow limits (flow_id x true) e.response)
    (places_order limits (flow_id x false) (length qs) 0 qs) (places_order limits (flow_id x true) (length rs) 0 rs)
    (all_before (IsPlaceFrom (flow_id x false) 0) (IsPlaceFrom (flow_id x true) 0) (of_flow limits (flow_id x false) e.request) (of_flow limits (flow_id x true) e.response) (request_first x)
    (places_from limits (flow_id x false) (length qs) 0 qs) (places_from limits (flow_id x true) (length rs) 0 rs))

-- the numbers of a map rise
rise_from : {A : Type 0} (n : ℕ) (es : List (ℕ × A)) → AllByRecursion (λ y. nat_cmp n y ≡ Less) (keys_of es) → All (λ d. n < d.0) es
rise_from n [] a = All-nil (λ d. n < d.0)
rise_from n (d ∷ ds) a = All-cons (λ e. n < e.0) d ds (less_cmp n d.0 a.0) (rise_from n ds a.1)

-- a place of an exchange with a greater number
abbrev IsAbove : ℕ → Buffer → Type 0
IsAbove n (buffer.Place f p) = n < f.exchange
IsAbove n (buffer.Write c) = ⊥

above_of : (n x : ℕ) (b : Buffer) → n < x → IsOf x b → IsAbove n b
above_of n x (buffer.Place f p) less e = omega (arith, less, e)
above_of n x (buffer.Write c) less e = absurd e

exchange_first : (x : ℕ) (a b : Buffer) → IsOf x a → IsAbove x b → is_before a b ≡ true
exchange_first x (buffer.Place f p) (buffer.Place g q) e less = exchange_before f g p q (omega (arith, e, less))
exchange_first x (buffer.Place f p) (buffer.Write d) e less = absurd less
exchange_first x (buffer.Write c) b e less = absurd e

exchanges_above : (limits : Limits) (n : ℕ) (es : List (ℕ × Exchange)) → All (λ d. n < d.0) es → All (λ r. IsAbove n r.buffer) (of_exchanges limits es)
exchanges_above limits n [] all = All-nil (λ r. IsAbove n r.buffer)
exchanges_above limits n (e ∷ es) all =
    All-append (λ r. IsAbove n r.buffer) (of_exchange limits e.0 e.1) (of_exchanges limits es)
    (All-weaker (λ r. IsOf e.0 r.buffer) (λ r. IsAbove n r.buffer) (λ r k. above_of n e.0 r.buffer (All-head (λ d. n < d.0) e es all) k) (of_exchange limits e.0 e.1) (exchange_of limits e.0 e.1))
    (exchanges_above limits n es (All-tail (λ d. n < d.0) e es all))

exchanges_order : (limits : Limits) (es : List (ℕ × Exchange)) → IsStrictlySortedBy nat_cmp (keys_of es) → AreInOrder comes_first (of_exchanges limits es)
exchanges_order limits [] sorted = tt
exchanges_order limits (e ∷ es) sorted =
    order_append comes_first (of_exchange limits e.0 e.1) (of_exchanges limits es) (exchange_order limits e.0 e.1) (exchanges_order limits es (sorted_tail nat_cmp e.0 (keys_of es) sorted))
    (all_before (IsOf e.0) (IsAbove e.0) (of_exchange limits e.0 e.1) (of_exchanges limits es) (exchange_first e.0) (exchange_of limits e.0 e.1)
    (exchanges_above limits e.0 es (rise_from e.0 es (sorted_head nat_cmp e.0 (keys_of es) sorted))))

-- ---- connections

-- the write buffer of a connection with a greater number
abbrev IsLater : ℕ → Buffer → Type 0
IsLater n (buffer.Place f p) = ⊥
IsLater n (buffer.Write c) = n < c

connection_first : (c : ℕ) (a b : Buffer) → a ≡ buffer.Write c → IsLater c b → is_before a b ≡ true
connection_first c a (buffer.Place g q) e less = absurd less
connection_first c a (buffer.Write d) e less = ap (λ (v : Buffer). is_before v (buffer.Write d)) e ∙ write_before c d less

connections_later : (limits : Limits) (n : ℕ) (ks : List (ℕ × Connection)) → All (λ d. n < d.0) ks → All (λ r. IsLater n r.buffer) (of_connections limits ks)
connections_later limits n [] all = All-nil (λ r. IsLater n r.buffer)
connections_later limits n (k ∷ ks) all =
    All-append (λ r. IsLater n r.buffer) (of_connection limits k.0 k.1) (of_connections limits ks)
    (lane_all (IsLater n) (buffer.Write k.0) (limit_at limits (ids.Write k.0)) k.1.write (All-head (λ d. n < d.0) k ks all)) (connections_later limits n ks (All-tail (λ d. n < d.0) k ks all))

connections_order : (limits : Limits) (ks : List (ℕ × Connection)) → IsStrictlySortedBy nat_cmp (keys_of ks) → AreInOrder comes_first (of_connections limits ks)
connections_order limits [] sorted = tt
connections_order limits (k ∷ ks) sorted =
    order_append comes_first (of_connection limits k.0 k.1) (of_connections limits ks) (lane_order (buffer.Write k.0) (limit_at limits (ids.Write k.0)) k.1.write)
    (connections_order limits ks (sorted_tail nat_cmp k.0 (keys_of ks) sorted))
    (all_before (λ b. b ≡ buffer.Write k.0) (IsLater k.0) (of_connection limits k.0 k.1) (of_connections limits ks) (connection_first k.0)
    (lane_all (λ b. b ≡ buffer.Write k.0) (buffer.Write k.0) (limit_at limits (ids.Write k.0)) k.1.write refl) (connections_later limits k.0 ks (rise_from k.0 ks (sorted_head nat_cmp k.0 (keys_of ks) sorted))))

-- ---- all of them

abbrev IsInFlow : Buffer → Type 0
IsInFlow (buffer.Place f p) = Unit {0}
IsInFlow (buffer.Write c) = ⊥

abbrev IsWritten : Buffer → Type 0
IsWritten (buffer.Place f p) = ⊥
IsWritten (buffer.Write c) = Unit {0}

places_first : (a b : Buffer) → IsInFlow a → IsWritten b → is_before a b ≡ true
places_first (buffer.Place f p) (buffer.Place g q) k l = absurd l
places_first (buffer.Place f p) (buffer.Write d) k l = refl
places_first (buffer.Write c) b k l = absurd k

in_flow : (x : ℕ) (b : Buffer) → IsOf x b → IsInFlow b
in_flow x (buffer.Place f p) k = tt
in_flow x (buffer.Write c) k = absurd k

exchanges_in_flow : (limits : Limits) (es : List (ℕ × Exchange)) → All (λ r. IsInFlow r.buffer) (of_exchanges limits es)
exchanges_in_flow limits [] = All-nil (λ r. IsInFlow r.buffer)
exchanges_in_flow limits (e ∷ es) =
    All-append (λ r. IsInFlow r.buffer) (of_exchange limits e.0 e.1) (of_exchanges limits es)
    (All-weaker (λ r. IsOf e.0 r.buffer) (λ r. IsInFlow r.buffer) (λ r k. in_flow e.0 r.buffer k) (of_exchange limits e.0 e.1) (exchange_of limits e.0 e.1)) (exchanges_in_flow limits es)

connections_written : (limits : Limits) (ks : List (ℕ × Connection)) → All (λ r. IsWritten r.buffer) (of_connections limits ks)
connections_written limits [] = All-nil (λ r. IsWritten r.buffer)
connections_written limits (k ∷ ks) =
    All-append (λ r. IsWritten r.buffer) (of_connection limits k.0 k.1) (of_connections limits ks) (lane_all IsWritten (buffer.Write k.0) (limit_at limits (ids.Write k.0)) k.1.write tt) (connections_written limits ks)

pub all_order : (limits : Limits) (es : List (ℕ × Exchange)) (ks : List (ℕ × Connection)) → IsStrictlySortedBy nat_cmp (keys_of es) → IsStrictlySortedBy nat_cmp (keys_of ks)
    → AreInOrder comes_first (of_exchanges limits es ++ of_connections limits ks)
all_order limits es ks se sk =
    order_append comes_first (of_exchanges limits es) (of_connections limits ks) (exchanges_order limits es se) (connections_order limits ks sk)
    (all_before IsInFlow IsWritten (of_exchanges limits es) (of_connections limits ks) places_first (exchanges_in_flow limits es) (connections_written limits ks))
