-- The buffers of what is kept are put one after the other, and the highest are picked.
use Rattle.flow_rules.specs.declared.ids.FlowId.{FlowId}
use Rattle.std.proofs.Common.{Bor, ap, append_assoc, arith, refl, subst, sym, ◌∙◌}
use Rattle.std.proofs.Math.Seq.{drop-cons}
use Rattle.std.proofs.lemmas.List.Elements.{All-map, All-weaker}
use Rattle.std.proofs.lemmas.List.{append-nil, drop_all, map-append}
use Rattle.std.specs.Map.Iter.{deref_pair}
use Rattle.std.specs.Prelude.{All, Bool, List, Option, [], drop, if◌then◌else◌, length, map, slice_index_or, suc, take, ℕ, ◌+◌, ◌++◌, ◌<◌, ◌∷◌, ◌≡◌, ◌≤◌}
use Rattle.tape_plot.proofs.Columns.{eq_false, eq_true}
use Rattle.tape_plot.proofs.Filling.{IsKept, all_have, all_kept, all_of}
use Rattle.tape_plot.proofs.Ranks.{ArePut, IsRight, all_put, buffers_in, picked_of}
use Rattle.tape_plot.proofs.Sorting.{all_order}
use Rattle.tape_plot.specs.Filled.{IsRead, of_connection, of_connections, of_exchange, of_exchanges, of_lane, of_places}
use Rattle.tape_plot.specs.Highest.{against}
use Rattle.tape_plot.specs.Lanes.{most_of}
use Rattle.tape_plot.specs.Limits.{known, limit_at, place_limit_at}
use Rattle.tape_plot.specs.Picks.{RankedIn, height_kept, top_in}
use Rattle.tape_plot.specs.Ranking.{kept_of, puts, ranked_in}
use Rattle.tape_plot.specs.declared.highest.Buffer.{Buffer}
use Rattle.tape_plot.specs.declared.connection.Connection.{Connection}
use Rattle.tape_plot.specs.declared.draw.pick.Pick.{Pick}
use Rattle.tape_plot.specs.declared.exchange.Exchange.{Exchange}
use Rattle.tape_plot.specs.declared.flow.Place.{Place}
use Rattle.tape_plot.specs.declared.height.Height.{Height}
use Rattle.tape_plot.specs.declared.highest.Ranked.{Ranked}
use Rattle.tape_plot.specs.declared.levels.Levels.{Levels}
use Rattle.tape_plot.specs.declared.limits.Limits.{Limits}
use Rattle.flow_rules.specs.declared.ids.BufferId.TheVariants as ids
use Rattle.tape_plot.specs.declared.highest.Buffer.TheVariants as buffer

kept_more : (xs ys kept : List Ranked) → kept_of (xs ++ ys) kept ≡ kept_of ys (kept_of xs kept)
kept_more [] ys kept = refl
kept_more (x ∷ xs) ys kept = kept_more xs ys (take 40 (puts x kept))

pub kept_both : (xs ys old mid new : List Ranked) → mid ≡ kept_of xs old → new ≡ kept_of ys mid → new ≡ kept_of (xs ++ ys) old
kept_both xs ys old mid new e f = f ∙ ap (kept_of ys) e ∙ sym (kept_more xs ys old)

-- ---- one buffer

-- one that never held an octet isn't put
pub none_kept : (b : Buffer) (limit : Option ℕ) (place : Place) (most : ℕ) (kept : List Ranked) → most ≡ most_of place.lane.base place.lane.points.items → most ≡ 0 → kept ≡ kept_of (of_lane b limit place) kept
none_kept b limit place most kept e z =
    let m = most_of place.lane.base place.lane.points.items in
    let one : Ranked = record { buffer = b; height = against (known limit) m } in
    sym (ap (λ (c : Bool). kept_of (if c then [] else one ∷ []) kept) (eq_true m 0 _ refl (sym e ∙ z)))

pub one_kept : (b : Buffer) (limit : Option ℕ) (place : Place) (most level : ℕ) (height : Height) (old new : List Ranked) → most ≡ most_of place.lane.base place.lane.points.items → (most ≡ 0 → ⊥) → level ≡ known limit
    → height ≡ against level most → new ≡ take 40 (puts (record { buffer = b; height = height }) old) → new ≡ kept_of (of_lane b limit place) old
one_kept b limit place most level height old new e some el eh is =
    let m = most_of place.lane.base place.lane.points.items in
    let one : Ranked = record { buffer = b; height = against (known limit) m } in
    is
    ∙ ap (λ (v : Height). take 40 (puts (record { buffer = b; height = v }) old)) (eh ∙ ap (λ (v : ℕ). against v most) el ∙ ap (against (known limit)) e)
    ∙ sym (ap (λ (c : Bool). kept_of (if c then [] else one ∷ []) old) (eq_false m 0 _ refl (λ z. some (e ∙ z))))

-- ---- the places of a flow

-- what is still to be put of a flow comes to the same as all of it
pub place_put : (limits : Limits) (f : FlowId) (ps : List Place) (i n : ℕ) (x : Place) (limit : Option ℕ) (now new all : List Ranked) → i < length ps → n ≡ length ps → x ≡ slice_index_or ps i x → limit ≡ place_limit_at limits f n i
    → new ≡ kept_of (of_lane (buffer.Place f i) limit x) now → kept_of (of_places limits f (length ps) i (drop i ps)) now ≡ all → kept_of (of_places limits f (length ps) (i + 1) (drop (i + 1) ps)) new ≡ all
place_put limits f ps i n x limit now new all lt en ex el is was =
    ap (kept_of rest) (is ∙ ap (λ (v : Option ℕ). kept_of (of_lane (buffer.Place f i) v x) now) (el ∙ ap (λ (v : ℕ). place_limit_at limits f v i) en))
    ∙ sym (kept_more (of_lane (buffer.Place f i) (place_limit_at limits f (length ps) i) x) rest now)
    ∙ ap (λ (v : List Place). kept_of (of_places limits f (length ps) i v) now) (sym split)
    ∙ was
  where
    rest : List Ranked
    rest = of_places limits f (length ps) (i + 1) (drop (i + 1) ps)

    one : suc i ≡ i + 1
    one = omega arith

    split : drop i ps ≡ x ∷ drop (i + 1) ps
    split = drop-cons ps i x lt ∙ ap (λ (v : Place). v ∷ drop (suc i) ps) (sym ex) ∙ ap (λ (v : ℕ). x ∷ drop v ps) one

pub places_put : (limits : Limits) (f : FlowId) (ps : List Place) (i n : ℕ) (now all : List Ranked) → n ≡ length ps → n ≤ i → kept_of (of_places limits f (length ps) i (drop i ps)) now ≡ all → now ≡ all
places_put limits f ps i n now all en le was = ap (λ (v : List Place). kept_of (of_places limits f (length ps) i v) now) (sym (drop_all i ps (omega (arith, en, le)))) ∙ was

-- ---- the entries of maps

exchanges_append : (limits : Limits) (xs ys : List (ℕ × Exchange)) → of_exchanges limits (xs ++ ys) ≡ of_exchanges limits xs ++ of_exchanges limits ys
exchanges_append limits [] ys = refl
exchanges_append limits (x ∷ xs) ys =
    ap (λ (v : List Ranked). of_exchange limits x.0 x.1 ++ v) (exchanges_append limits xs ys) ∙ sym (append_assoc (of_exchange limits x.0 x.1) (of_exchanges limits xs) (of_exchanges limits ys))

pub exchange_put : (limits : Limits) (xs : List (Bor ℕ × Bor Exchange)) (x : Bor ℕ × Bor Exchange) (old now new : List Ranked) → now ≡ kept_of (of_exchanges limits (map deref_pair xs)) old
    → new ≡ kept_of (of_exchange limits x.0.now x.1.now) now → new ≡ kept_of (of_exchanges limits (map deref_pair (xs ++ x ∷ []))) old
exchange_put limits xs x old now new was is =
    kept_both (of_exchanges limits (map deref_pair xs)) (of_exchange limits x.0.now x.1.now) old now new was is
    ∙ ap (λ (v : List Ranked). kept_of (of_exchanges limits (map deref_pair xs) ++ v) old) (sym (append-nil (of_exchange limits x.0.now x.1.now)))
    ∙ ap (λ (v : List Ranked). kept_of v old) (sym (exchanges_append limits (map deref_pair xs) (map deref_pair (x ∷ []))))
    ∙ ap (λ (v : List (ℕ × Exchange)). kept_of (of_exchanges limits v) old) (sym (map-append (deref_pair {K = ℕ} {X = Exchange}) xs (x ∷ [])))

connections_append : (limits : Limits) (xs ys : List (ℕ × Connection)) → of_connections limits (xs ++ ys) ≡ of_connections limits xs ++ of_connections limits ys
connections_append limits [] ys = refl
connections_append limits (x ∷ xs) ys =
    ap (λ (v : List Ranked). of_connection limits x.0 x.1 ++ v) (connections_append limits xs ys) ∙ sym (append_assoc (of_connection limits x.0 x.1) (of_connections limits xs) (of_connections limits ys))

pub connection_put : (limits : Limits) (xs : List (Bor ℕ × Bor Connection)) (x : Bor ℕ × Bor Connection) (limit : Option ℕ) (old now new : List Ranked) → now ≡ kept_of (of_connections limits (map deref_pair xs)) old
    → limit ≡ limit_at limits (ids.Write x.0.now) → new ≡ kept_of (of_lane (buffer.Write x.0.now) limit x.1.now.write) now
    → new ≡ kept_of (of_connections limits (map deref_pair (xs ++ x ∷ []))) old
connection_put limits xs x limit old now new was el is =
    kept_both (of_connections limits (map deref_pair xs)) (of_connection limits x.0.now x.1.now) old now new was (is ∙ ap (λ (v : Option ℕ). kept_of (of_lane (buffer.Write x.0.now) v x.1.now.write) now) el)
    ∙ ap (λ (v : List Ranked). kept_of (of_connections limits (map deref_pair xs) ++ v) old) (sym (append-nil (of_connection limits x.0.now x.1.now)))
    ∙ ap (λ (v : List Ranked). kept_of v old) (sym (connections_append limits (map deref_pair xs) (map deref_pair (x ∷ []))))
    ∙ ap (λ (v : List (ℕ × Connection)). kept_of (of_connections limits v) old) (sym (map-append (deref_pair {K = ℕ} {X = Connection}) xs (x ∷ [])))

-- ---- all that is kept

pub all_ranked : (levels : Levels) (limits : Limits) (pick : Pick) (none mid : List Ranked) → IsRead levels.exchanges.items → IsRead levels.connections.items → none ≡ [] → mid ≡ kept_of (of_exchanges limits levels.exchanges.items.entries) none
    → ranked_in pick.highest ≡ kept_of (of_connections limits levels.connections.items.entries) mid → RankedIn levels limits pick
all_ranked levels limits pick none mid es ks en em e = λ asked. picked_of height HeldAny (buffers_in all) (ranked_in pick.highest) put (all_have levels limits) filled
  where
    height : Buffer → Height
    height = height_kept levels limits

    HeldAny : Buffer → Type 0
    HeldAny b = 0 < top_in b levels

    all : List Ranked
    all = all_of levels limits

    kept : All (IsKept levels limits) all
    kept = all_kept levels limits es ks

    is : ranked_in pick.highest ≡ kept_of all []
    is = kept_both (of_exchanges limits levels.exchanges.items.entries) (of_connections limits levels.connections.items.entries) [] mid (ranked_in pick.highest)
        (em ∙ ap (kept_of (of_exchanges limits levels.exchanges.items.entries)) en) e

    put : ArePut height (buffers_in all) (ranked_in pick.highest)
    put = subst (ArePut height (buffers_in all)) (sym is)
        (all_put height all (All-weaker (IsKept levels limits) (IsRight height) (λ r k. k.0) all kept) (all_order limits levels.exchanges.items.entries levels.connections.items.entries es.0 ks.0))

    filled : All HeldAny (buffers_in all)
    filled = All-map HeldAny (λ r. r.buffer) all (All-weaker (IsKept levels limits) (λ r. HeldAny r.buffer) (λ r k. k.1) all kept)
