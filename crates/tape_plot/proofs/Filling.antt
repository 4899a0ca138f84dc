-- Each buffer of what is kept that ever held an octet is one of those that are put, with its height.
use Rattle.flow_rules.specs.declared.ids.FlowId.{FlowId}
use Rattle.std.proofs.Common.{ap, append_assoc, arith, length-append, refl, subst, sym, ◌∙◌}
use Rattle.std.proofs.Math.ListN.{get_or-eq_default}
use Rattle.std.proofs.Math.Seq.{get_or-append_seam}
use Rattle.std.proofs.lemmas.Bool.{eqb-false, eqb-true}
use Rattle.std.proofs.lemmas.List.Elements.{All-append, All-cons, All-nil, All-head, All-tail, Contains-append_left, Contains-append_right}
use Rattle.std.proofs.lemmas.List.{get_or-map, map-append}
use Rattle.std.proofs.lemmas.Map.Entries.{place_from_lookup}
use Rattle.std.specs.BTreeMap.{BTreeMap, get, is_at}
use Rattle.std.specs.List.{Contains}
use Rattle.std.specs.Ordering.{nat_cmp}
use Rattle.std.specs.Prelude.{All, Bool, List, None, Option, Some, [], false, if◌then◌else◌, length, slice_get, suc, true, zero, ℕ, ◌+◌, ◌++◌, ◌<◌, ◌==◌, ◌∷◌, ◌≡◌}
use Rattle.tape_plot.proofs.Choosing.{in_head}
use Rattle.tape_plot.proofs.Mapping.{at_number}
use Rattle.tape_plot.proofs.Ranks.{buffers_in}
use Rattle.tape_plot.proofs.Standing.{none_is_not, same_some}
use Rattle.tape_plot.specs.Filled.{IsRead, of_connection, of_connections, of_exchange, of_exchanges, of_flow, of_lane, of_places}
use Rattle.tape_plot.specs.Flows.{lane_at, lanes_of}
use Rattle.tape_plot.specs.Highest.{against}
use Rattle.tape_plot.specs.Lanes.{Drawn, drawn_of, fresh, most_of}
use Rattle.tape_plot.specs.Limits.{known, limit_at, place_limit_at}
use Rattle.tape_plot.specs.Picks.{height_kept, top_in}
use Rattle.tape_plot.specs.Standing.{flow_of, place_lane, places_in, write_lane}
use Rattle.tape_plot.specs.Subjects.{flow_id}
use Rattle.tape_plot.specs.declared.highest.Buffer.{Buffer}
use Rattle.tape_plot.specs.declared.connection.Connection.{Connection}
use Rattle.tape_plot.specs.declared.exchange.Exchange.{Exchange}
use Rattle.tape_plot.specs.declared.flow.Flow.{Flow}
use Rattle.tape_plot.specs.declared.flow.Place.{Place}
use Rattle.tape_plot.specs.declared.height.Height.{Height}
use Rattle.tape_plot.specs.declared.highest.Ranked.{Ranked}
use Rattle.tape_plot.specs.declared.levels.Levels.{Levels}
use Rattle.tape_plot.specs.declared.limits.Limits.{Limits}
use Rattle.flow_rules.specs.declared.ids.BufferId.TheVariants as ids
use Rattle.tape_plot.specs.declared.highest.Buffer.TheVariants as buffer

-- the most that a lane was
abbrev top_of : Drawn → ℕ
top_of d = most_of d.base d.points

-- its height is the buffer's, and the buffer held an octet
abbrev pub IsKept : Levels → Limits → Ranked → Type 0
IsKept levels limits r = (r.height ≡ height_kept levels limits r.buffer) × (0 < top_in r.buffer levels)

filled_not : (n : ℕ) → (n == 0) ≡ false → 0 < n
filled_not n e = omega (arith, eqb-false n 0 e)

-- ---- one buffer

lane_kept : (levels : Levels) (limits : Limits) (b : Buffer) (limit : Option ℕ) (place : Place) → against (known limit) (top_of (drawn_of place.lane)) ≡ height_kept levels limits b → top_of (drawn_of place.lane) ≡ top_in b levels
    → All (IsKept levels limits) (of_lane b limit place)
lane_kept levels limits b limit place eh et = by (most == 0) refl
  where
    most : ℕ
    most = top_of (drawn_of place.lane)

    one : Ranked
    one = record { buffer = b; height = against (known limit) most }

    by : (c : Bool) → (most == 0) ≡ c → All (IsKept levels limits) (if c then [] else one ∷ [])
    by true e = All-nil (IsKept levels limits)
    by false e = All-cons (IsKept levels limits) one [] (eh, subst (λ (v : ℕ). 0 < v) et (filled_not most e)) (All-nil (IsKept levels limits))

lane_has : (b : Buffer) (limit : Option ℕ) (place : Place) → 0 < top_of (drawn_of place.lane) → Contains (buffers_in (of_lane b limit place)) b
lane_has b limit place filled = by (most == 0) refl
  where
    most : ℕ
    most = top_of (drawn_of place.lane)

    one : Ranked
    one = record { buffer = b; height = against (known limit) most }

    by : (c : Bool) → (most == 0) ≡ c → Contains (buffers_in (if c then [] else one ∷ [])) b
    by true e = absurd (omega (arith, filled, eqb-true most 0 e))
    by false e = in_head b []

first_has : (xs ys : List Ranked) (b : Buffer) → Contains (buffers_in xs) b → Contains (buffers_in (xs ++ ys)) b
first_has xs ys b there = subst (λ (v : List Buffer). Contains v b) (sym (map-append (λ (r : Ranked). r.buffer) xs ys)) (Contains-append_left (buffers_in xs) (buffers_in ys) b there)

second_has : (xs ys : List Ranked) (b : Buffer) → Contains (buffers_in ys) b → Contains (buffers_in (xs ++ ys)) b
second_has xs ys b there = subst (λ (v : List Buffer). Contains v b) (sym (map-append (λ (r : Ranked). r.buffer) xs ys)) (Contains-append_right (buffers_in xs) (buffers_in ys) b there)

-- ---- the places of a flow

none_filled : (d : Drawn) → d ≡ fresh → 0 < top_of d → ⊥
none_filled d e filled = omega (arith, ap top_of e, filled)

places_have : (limits : Limits) (f : FlowId) (count p q : ℕ) (ps : List Place) → 0 < top_of (lane_at (lanes_of ps) q) → Contains (buffers_in (of_places limits f count p ps)) (buffer.Place f (p + q))
places_have limits f count p q [] filled = absurd (none_filled (lane_at [] q) (get_or-eq_default [] fresh {n = q} (omega arith)) filled)
places_have limits f count p zero (x ∷ xs) filled =
    first_has (of_lane (buffer.Place f p) (place_limit_at limits f count p) x) (of_places limits f count (p + 1) xs) (buffer.Place f (p + 0))
    (subst (λ (v : ℕ). Contains (buffers_in (of_lane (buffer.Place f p) (place_limit_at limits f count p) x)) (buffer.Place f v)) here (lane_has (buffer.Place f p) (place_limit_at limits f count p) x filled))
  where
    here : p ≡ p + 0
    here = omega arith
places_have limits f count p (suc q) (x ∷ xs) filled =
    second_has (of_lane (buffer.Place f p) (place_limit_at limits f count p) x) (of_places limits f count (p + 1) xs) (buffer.Place f (p + suc q))
    (subst (λ (v : ℕ). Contains (buffers_in (of_places limits f count (p + 1) xs)) (buffer.Place f v)) further (places_have limits f count (p + 1) q xs filled))
  where
    further : p + 1 + q ≡ p + suc q
    further = omega arith

flow_has : (limits : Limits) (f : FlowId) (flow : Flow) (p : ℕ) → 0 < top_of (lane_at (lanes_of flow.places.items) p) → Contains (buffers_in (of_flow limits f flow)) (buffer.Place f p)
flow_has limits f flow p filled =
    subst (λ (v : ℕ). Contains (buffers_in (of_flow limits f flow)) (buffer.Place f v)) from_none (places_have limits f (length flow.places.items) 0 p flow.places.items filled)
  where
    from_none : 0 + p ≡ p
    from_none = omega arith

-- what stands at a place of a list
its_lane : (front rest all : List Place) (p : ℕ) (x : Place) → p ≡ length front → all ≡ front ++ x ∷ rest → lane_at (lanes_of all) p ≡ drawn_of x.lane
its_lane front rest all p x ep e =
    ap (λ (v : List Place). lane_at (lanes_of v) p) e
    ∙ ap (lane_at (lanes_of (front ++ x ∷ rest))) ep
    ∙ get_or-map (λ (v : Place). drawn_of v.lane) (front ++ x ∷ rest) (length front) x fresh (omega (arith, length-append front (x ∷ rest)))
    ∙ ap (λ (v : Place). drawn_of v.lane) (get_or-append_seam front x rest x)

-- the height and the most of a place, by what is found of its exchange
abbrev height_found : Option Exchange → Limits → FlowId → ℕ → Height
height_found o limits f p = against (known (place_limit_at limits f (places_in o f.back) p)) (top_of (place_lane o f.back p))

places_kept : (levels : Levels) (limits : Limits) (f : FlowId) (e : Exchange) (p : ℕ) (front rest : List Place) → get nat_cmp levels.exchanges.items f.exchange ≡ Some e → p ≡ length front
    → (flow_of e f.back).places.items ≡ front ++ rest → All (IsKept levels limits) (of_places limits f (length (flow_of e f.back).places.items) p rest)
places_kept levels limits f e p front [] there ep is = All-nil (IsKept levels limits)
places_kept levels limits f e p front (x ∷ rest) there ep is =
    All-append (IsKept levels limits) (of_lane (buffer.Place f p) (place_limit_at limits f (length all) p) x) (of_places limits f (length all) (p + 1) rest)
    (lane_kept levels limits (buffer.Place f p) (place_limit_at limits f (length all) p) x its_height its_top)
    (places_kept levels limits f e (p + 1) (front ++ x ∷ []) rest there (omega (arith, ep, length-append front (x ∷ []))) (is ∙ sym (append_assoc front (x ∷ []) rest)))
  where
    all : List Place
    all = (flow_of e f.back).places.items

    at : lane_at (lanes_of all) p ≡ drawn_of x.lane
    at = its_lane front rest all p x ep is

    its_height : against (known (place_limit_at limits f (length all) p)) (top_of (drawn_of x.lane)) ≡ height_kept levels limits (buffer.Place f p)
    its_height = ap (λ (d : Drawn). against (known (place_limit_at limits f (length all) p)) (top_of d)) (sym at) ∙ ap (λ (o : Option Exchange). height_found o limits f p) (sym there)

    its_top : top_of (drawn_of x.lane) ≡ top_in (buffer.Place f p) levels
    its_top = ap top_of (sym at) ∙ ap (λ (o : Option Exchange). top_of (place_lane o f.back p)) (sym there)

-- ---- exchanges

exchange_kept : (levels : Levels) (limits : Limits) (x : ℕ) (e : Exchange) → get nat_cmp levels.exchanges.items x ≡ Some e → All (IsKept levels limits) (of_exchange limits x e)
exchange_kept levels limits x e there =
    All-append (IsKept levels limits) (of_flow limits (flow_id x false) e.request) (of_flow limits (flow_id x true) e.response)
    (places_kept levels limits (flow_id x false) e 0 [] e.request.places.items there refl refl) (places_kept levels limits (flow_id x true) e 0 [] e.response.places.items there refl refl)

exchanges_kept : (levels : Levels) (limits : Limits) (es : List (ℕ × Exchange)) → All (λ d. get nat_cmp levels.exchanges.items d.0 ≡ Some d.1) es → All (IsKept levels limits) (of_exchanges limits es)
exchanges_kept levels limits [] all = All-nil (IsKept levels limits)
exchanges_kept levels limits (e ∷ es) all =
    All-append (IsKept levels limits) (of_exchange limits e.0 e.1) (of_exchanges limits es) (exchange_kept levels limits e.0 e.1 (All-head (λ d. get nat_cmp levels.exchanges.items d.0 ≡ Some d.1) e es all))
    (exchanges_kept levels limits es (All-tail (λ d. get nat_cmp levels.exchanges.items d.0 ≡ Some d.1) e es all))

exchange_has : (limits : Limits) (x : ℕ) (e : Exchange) (back : Bool) (p : ℕ) → 0 < top_of (place_lane (Some e) back p) → Contains (buffers_in (of_exchange limits x e)) (buffer.Place (flow_id x back) p)
exchange_has limits x e false p filled =
    first_has (of_flow limits (flow_id x false) e.request) (of_flow limits (flow_id x true) e.response) (buffer.Place (flow_id x false) p) (flow_has limits (flow_id x false) e.request p filled)
exchange_has limits x e true p filled =
    second_has (of_flow limits (flow_id x false) e.request) (of_flow limits (flow_id x true) e.response) (buffer.Place (flow_id x true) p) (flow_has limits (flow_id x true) e.response p filled)

exchanges_have : (limits : Limits) (x i : ℕ) (e : Exchange) (es : List (ℕ × Exchange)) (b : Buffer) → slice_get es i ≡ Some (x, e) → Contains (buffers_in (of_exchange limits x e)) b → Contains (buffers_in (of_exchanges limits es)) b
exchanges_have limits x i e [] b at there = absurd (none_is_not (x, e) at)
exchanges_have limits x zero e (d ∷ ds) b at there =
    first_has (of_exchange limits d.0 d.1) (of_exchanges limits ds) b (subst (λ (v : ℕ × Exchange). Contains (buffers_in (of_exchange limits v.0 v.1)) b) (sym (same_some d (x, e) at)) there)
exchanges_have limits x (suc i) e (d ∷ ds) b at there = second_has (of_exchange limits d.0 d.1) (of_exchanges limits ds) b (exchanges_have limits x i e ds b at there)

-- ---- connections

connection_kept : (levels : Levels) (limits : Limits) (c : ℕ) (k : Connection) → get nat_cmp levels.connections.items c ≡ Some k → All (IsKept levels limits) (of_connection limits c k)
connection_kept levels limits c k there =
    lane_kept levels limits (buffer.Write c) (limit_at limits (ids.Write c)) k.write (ap (λ (o : Option Connection). against (known (limit_at limits (ids.Write c))) (top_of (write_lane o))) (sym there))
    (ap (λ (o : Option Connection). top_of (write_lane o)) (sym there))

connections_kept : (levels : Levels) (limits : Limits) (ks : List (ℕ × Connection)) → All (λ d. get nat_cmp levels.connections.items d.0 ≡ Some d.1) ks → All (IsKept levels limits) (of_connections limits ks)
connections_kept levels limits [] all = All-nil (IsKept levels limits)
connections_kept levels limits (k ∷ ks) all =
    All-append (IsKept levels limits) (of_connection limits k.0 k.1) (of_connections limits ks) (connection_kept levels limits k.0 k.1 (All-head (λ d. get nat_cmp levels.connections.items d.0 ≡ Some d.1) k ks all))
    (connections_kept levels limits ks (All-tail (λ d. get nat_cmp levels.connections.items d.0 ≡ Some d.1) k ks all))

connections_have : (limits : Limits) (c i : ℕ) (k : Connection) (ks : List (ℕ × Connection)) (b : Buffer) → slice_get ks i ≡ Some (c, k) → Contains (buffers_in (of_connection limits c k)) b → Contains (buffers_in (of_connections limits ks)) b
connections_have limits c i k [] b at there = absurd (none_is_not (c, k) at)
connections_have limits c zero k (d ∷ ds) b at there =
    first_has (of_connection limits d.0 d.1) (of_connections limits ds) b (subst (λ (v : ℕ × Connection). Contains (buffers_in (of_connection limits v.0 v.1)) b) (sym (same_some d (c, k) at)) there)
connections_have limits c (suc i) k (d ∷ ds) b at there = second_has (of_connection limits d.0 d.1) (of_connections limits ds) b (connections_have limits c i k ds b at there)

-- ---- all of them

abbrev pub all_of : Levels → Limits → List Ranked
all_of levels limits = of_exchanges limits levels.exchanges.items.entries ++ of_connections limits levels.connections.items.entries

pub all_kept : (levels : Levels) (limits : Limits) → IsRead levels.exchanges.items → IsRead levels.connections.items → All (IsKept levels limits) (all_of levels limits)
all_kept levels limits es ks =
    All-append (IsKept levels limits) (of_exchanges limits levels.exchanges.items.entries) (of_connections limits levels.connections.items.entries) (exchanges_kept levels limits levels.exchanges.items.entries es.1)
    (connections_kept levels limits levels.connections.items.entries ks.1)

-- where an entry of a map is that is found
at_entry : {A : Type 0} (m : BTreeMap ℕ A) (x : ℕ) (a : A) → get nat_cmp m x ≡ Some a → (i : ℕ) × (slice_get m.entries i ≡ Some (x, a))
at_entry {A} m x a e =
    let q = place_from_lookup (is_at (nat_cmp x)) m.entries a e in
    let same : x ≡ q.1 = eqb-true x q.1 (sym (at_number x q.1) ∙ q.3) in
    (q.0, subst (λ (v : ℕ). slice_get m.entries q.0 ≡ Some (v, a)) (sym same) q.2)

placed_has : (levels : Levels) (limits : Limits) (f : FlowId) (p : ℕ) (o : Option Exchange) → get nat_cmp levels.exchanges.items f.exchange ≡ o → 0 < top_of (place_lane o f.back p)
    → Contains (buffers_in (of_exchanges limits levels.exchanges.items.entries)) (buffer.Place f p)
placed_has levels limits f p None at filled = absurd (none_filled fresh refl filled)
placed_has levels limits f p (Some e) at filled =
    let i = at_entry levels.exchanges.items f.exchange e at in
    exchanges_have limits f.exchange i.0 e levels.exchanges.items.entries (buffer.Place f p) i.1 (exchange_has limits f.exchange e f.back p filled)

written_has : (levels : Levels) (limits : Limits) (c : ℕ) (o : Option Connection) → get nat_cmp levels.connections.items c ≡ o → 0 < top_of (write_lane o)
    → Contains (buffers_in (of_connections limits levels.connections.items.entries)) (buffer.Write c)
written_has levels limits c None at filled = absurd (none_filled fresh refl filled)
written_has levels limits c (Some k) at filled =
    let i = at_entry levels.connections.items c k at in
    connections_have limits c i.0 k levels.connections.items.entries (buffer.Write c) i.1 (lane_has (buffer.Write c) (limit_at limits (ids.Write c)) k.write filled)

pub all_have : (levels : Levels) (limits : Limits) (b : Buffer) → 0 < top_in b levels → Contains (buffers_in (all_of levels limits)) b
all_have levels limits (buffer.Place f p) filled =
    first_has (of_exchanges limits levels.exchanges.items.entries) (of_connections limits levels.connections.items.entries) (buffer.Place f p)
    (placed_has levels limits f p (get nat_cmp levels.exchanges.items f.exchange) refl filled)
all_have levels limits (buffer.Write c) filled =
    second_has (of_exchanges limits levels.exchanges.items.entries) (of_connections limits levels.connections.items.entries) (buffer.Write c)
    (written_has levels limits c (get nat_cmp levels.connections.items c) refl filled)
