-- What the flows are after a live stream was doomed.
use Rattle.exchange_core.proofs.Outcomes.{at_found, from_found}
use Rattle.exchange_core.specs.Changes.{Dooms as DoomsExchange, ForgetsFlows, KnowsFlows}
use Rattle.exchange_core.specs.Exchanges.{Exchanges, IsSound as AreSoundExchanges, exchange_at}
use Rattle.exchange_core.specs.Plain.{plain_exchange}
use Rattle.exchange_core.specs.declared.exchange.Exchange.{Exchange}
use Rattle.flow_gate.specs.Board.{Board, IsSound as IsSoundBoard, is_known, is_marked, pending_on, watchers_of}
use Rattle.flow_gate.specs.Changes.{Forgets, goes_with, without as without_flow}
use Rattle.flow_rules.specs.declared.ids.FlowId.{FlowId}
use Rattle.flow_rules.specs.declared.causes.Cause.{Cause}
use Rattle.plain_laws.proofs.Counts.{doom_low, is_live_is}
use Rattle.plain_laws.proofs.Keepings.{doom_high}
use Rattle.plain_laws.proofs.Streams.{by_case, has_left, has_lost, has_stays, not_both, own_or_other, same_number}
use Rattle.plain_laws.specs.Keeping.{KeepsStream}
use Rattle.plain_laws.specs.Regular.{IsLiveFlow}
use Rattle.std.proofs.Common.{ap, arith, refl, subst, sym, ◌∙◌}
use Rattle.std.specs.BTreeMap.{get}
use Rattle.std.specs.BTreeSet.{BTreeSet, contains}
use Rattle.std.specs.List.{AllByRecursion}
use Rattle.std.specs.Option.{option_map_or}
use Rattle.std.specs.Ordering.{nat_cmp}
use Rattle.std.specs.Prelude.{Bool, IfSome, List, None, Option, [], false, filter, if◌then◌else◌, length, map, nat_lt, not, true, ℕ, ◌&&◌, ◌*◌, ◌+◌, ◌==◌, ◌∷◌, ◌≡◌, ◌≤◌}
use Rattle.plain_laws.specs.Words.{Past, Alive, conn_lows, lows_of, send_high, turn_of}
use Rattle.tape_laws.specs.Dispatches.{has, live, started}
use Rattle.tape_laws.specs.Flows.{request, same_flow}
use Rattle.tape_laws.specs.History.{Noted}
use Rattle.tape_laws.specs.declared.PlainLimits.{PlainLimits}
use Rattle.plain_core.specs.Carries.{Dooms, Lives}
use Rattle.plain_core.specs.Flows.{ConnectionIs, ExchangesAre, FlowsStand, GatesAre, HoldingIs, IsSettled}
use Rattle.plain_core.specs.declared.conn.Connection.{Connection}
use Rattle.plain_core.specs.declared.flows.Flows.{Flows}
use Rattle.flow_rules.specs.declared.ids.BufferId.TheVariants as buffer
use Rattle.flow_notes.specs.declared.notes.Note.TheVariants as note
use Rattle.plain_core.proofs.FlowStreams.{last_kept, stream_kept}
use Rattle.plain_core.proofs.FlowMeasure.{ahead_changes, fewer}
use Rattle.plain_laws.proofs.Dooms.{doom_leaves}
use Rattle.plain_laws.proofs.Keepings.{keeps_stream}
use Rattle.std.proofs.lemmas.Bool.Decides.{nat_tests}
use Rattle.plain_core.specs.Measure.{ahead, left_in, way}
use Rattle.plain_core.proofs.FlowUnits.{keeps_piece}
use Rattle.exchange_core.specs.declared.step.Piece.{Piece}

-- ---- who is left
swapped : (x y : ℕ) → (x == y) ≡ (y == x)
swapped x y = grind (arith, nat_tests)

left_is : (xs : List ℕ) (x y : ℕ) → has (filter (λ z. not (z == x)) xs) y ≡ (not (x == y) && has xs y)
left_is xs x y = by_case (x == y)
    (λ t. by_case (has (filter (λ z. not (z == x)) xs) y) (λ e. not_both (x == y) t (has_left xs x y e).1) (λ e. e) ∙ (cc))
    (λ d. by_case (has xs y) (λ e. has_stays xs x y e d ∙ sym e)
    (λ n. by_case (has (filter (λ z. not (z == x)) xs) y) (λ e. not_both (has xs y) (has_left xs x y e).0 n) (λ e. e) ∙ sym n) ∙ (cc))

without_map : (x : ℕ) (xs : List ℕ) → filter (λ (g : FlowId). not (same_flow (request x) g)) (map request xs) ≡ map request (filter (λ z. not (z == x)) xs)
without_map x [] = refl
without_map x (z ∷ zs) = pick z (x == z) (z == x) _ _ (swapped x z) (without_map x zs)
  where
    pick : (z : ℕ) (a b : Bool) (fs : List FlowId) (ys : List ℕ) → a ≡ b → fs ≡ map request ys → (if not (a && true) then request z ∷ fs else fs) ≡ map request (if not b then z ∷ ys else ys)
    pick z true true fs ys e r = r
    pick z false false fs ys e r = cc
    pick z true false fs ys e r = cc
    pick z false true fs ys e r = cc

without_live : (xs : List ℕ) (x : ℕ) (fs : List FlowId) → AllByRecursion (IsLiveFlow xs) fs → filter (λ (g : FlowId). not (same_flow (request x) g)) fs ≡ filter (λ (g : FlowId). not (g.exchange == x)) fs
without_live xs x [] a = refl
without_live xs x (f ∷ fs) a = pick f _ _ _ _ (test f a.0.is) (without_live xs x fs a.1)
  where
    joined : (a b : Bool) → a ≡ b → not (a && true) ≡ not b
    joined true true e = refl
    joined false false e = refl
    joined true false e = cc
    joined false true e = cc

    test : (f : FlowId) → f ≡ request f.exchange → not (same_flow (request x) f) ≡ not (f.exchange == x)
    test f e = cc (joined (x == f.exchange) (f.exchange == x) (swapped x f.exchange))

    pick : (f : FlowId) (a b : Bool) (fs gs : List FlowId) → a ≡ b → fs ≡ gs → (if a then f ∷ fs else fs) ≡ (if b then f ∷ gs else gs)
    pick f a b fs gs e r = rw (e, r) refl

-- ---- the exchanges
module _ (limits : PlainLimits) (x : ℕ) (why : Cause) (h : Past) where
  abbrev after : Past
  after = Noted (note.Doom x why) ∷ h

  pub doomed_exchanges : (old new : Exchanges) → ExchangesAre limits old h → DoomsExchange x old new → AreSoundExchanges new
      → ((y : ℕ) → (x == y) ≡ false → KeepsStream limits y h after) → ExchangesAre limits new after
  doomed_exchanges old new e c sound others = record {
    sound = sound;
    time = c.gone.time ∙ e.time;
    small = rw c.gone.last e.small;
    most = record { most = λ y is. rw c.gone.last (e.most.most y is) };
    last = last_kept old.last new.last (started h) (started h) c.gone.last refl e.last;
    doomed = cc;
    there = λ y is.
        let k = has_left (live h) x y is in
        rw (other_is y k.1) (stream_kept limits y h after (exchange_at old y) (others y k.1) (e.there y k.0));
    gone = λ y. own_or_other (λ v. has (live after) v ≡ false → exchange_at new v ≡ None) x y
        (λ is. cc (c.gone.live x, same_number x))
        (λ d is. other_is y d ∙ e.gone y (has_lost (live h) x y is d));
  }
    where
      other_is : (y : ℕ) → (x == y) ≡ false → exchange_at new y ≡ exchange_at old y
      other_is y d = cc (c.gone.live y)

  -- ---- the gates
  doomed_flow : (a b c : Bool) → (not (a && not b) && (not b && c)) ≡ (not b && (not a && c))
  doomed_flow true true c = refl
  doomed_flow true false c = refl
  doomed_flow false true c = refl
  doomed_flow false false c = refl

  pub doomed_gates : (old new : Board) → GatesAre limits old h → Forgets (request x) old new → IsSoundBoard new → Alive h x
      → ((y : ℕ) → (x == y) ≡ false → KeepsStream limits y h after) → AllByRecursion (IsLiveFlow (live h)) (conn_lows limits h) → GatesAre limits new after
  doomed_gates old new g c sound is others lows = record {
    sound = sound;
    flows = λ f. cc (c.flows f, g.flows f, is_live_is limits f h, doomed_flow (x == f.exchange) f.back (has (live h) f.exchange), is_live_is limits f after, left_is (live h) x f.exchange);
    counts = λ y e. let k = has_left (live h) x y e in
        c.counts (request y) ∙ (cc (g.counts y k.0));
    write_known = c.buffers (buffer.Write 0) ∙ g.write_known;
    write_mark = c.marks (buffer.Write 0) ∙ (g.write_mark ∙ sym (doom_high limits x why h));
    write_watchers = cc (c.watchers (buffer.Write 0), without_map x (live h));
    write_pending = cc (c.pending (buffer.Write 0), without_live (live h) x (conn_lows limits h) lows);
    send_known = λ y. own_or_other (λ v. is_known new (buffer.Send (request v)) ≡ has (live after) v) x y
        (cc (c.buffers (buffer.Send (request x)), goes, own_gone))
        (λ d. cc (c.buffers (buffer.Send (request y)), stays y d, g.send_known y, other_there y d));
    send_mark = λ y. own_or_other (λ v. is_marked new (buffer.Send (request v)) ≡ send_high limits v after) x y
        (cc (c.marks (buffer.Send (request x)), goes, doom_low limits x why h))
        (λ d. cc (c.marks (buffer.Send (request y)), stays y d, g.send_mark y, (others y d).high));
    send_watchers = λ y. own_or_other (λ v. watchers_of new (buffer.Send (request v)) ≡ (if has (live after) v then request v ∷ [] else [])) x y
        (cc (c.watchers (buffer.Send (request x)), none_watch, own_gone))
        (λ d. cc (c.watchers (buffer.Send (request y)), g.send_watchers y, one_stays y (has (live h) y) d, other_there y d));
    send_pending = λ y. cc (c.pending (buffer.Send (request y)), g.send_pending y);
  }
    where
      own_gone : has (live after) x ≡ false
      own_gone = cc (left_is (live h) x x, same_number x)

      other_there : (y : ℕ) → (x == y) ≡ false → has (live after) y ≡ has (live h) y
      other_there y d = cc (left_is (live h) x y)

      none_watch : without_flow (request x) (watchers_of old (buffer.Send (request x))) ≡ []
      none_watch =
          ap (without_flow (request x)) (g.send_watchers x ∙ ap (λ b. if b then request x ∷ [] else []) is)
          ∙ ap {B = List FlowId} (λ b. if not (b && true) then request x ∷ [] else []) (same_number x)

      goes : goes_with (request x) old (buffer.Send (request x)) ≡ true
      goes =
          cc (none_watch, same_number x)

      stays : (y : ℕ) → (x == y) ≡ false → goes_with (request x) old (buffer.Send (request y)) ≡ false
      stays y d = cc

      one_stays : (y : ℕ) (b : Bool) → (x == y) ≡ false → without_flow (request x) (if b then request y ∷ [] else []) ≡ (if b then request y ∷ [] else [])
      one_stays y true d = ap {B = List FlowId} (λ b. if not (b && true) then request y ∷ [] else []) d
      one_stays y false d = refl

  -- ---- the connection
  pub doomed_conn : (old new : Connection) → ConnectionIs limits old h → new.write ≡ old.write → new.framed_last ≡ old.framed_last
      → ((y : ℕ) → get nat_cmp new.ready y ≡ (if x == y then None else get nat_cmp old.ready y)) → ((y : ℕ) → (x == y) ≡ false → KeepsStream limits y h after) → ConnectionIs limits new after
  doomed_conn old new c write last made others = record {
    limit = cc;
    octets = cc;
    above = cc (doom_high limits x why h);
    framed_last = last ∙ c.framed_last;
    ready = λ y. made y ∙ (ap (λ (p : Option Piece). if x == y then None else p) (c.ready y) ∙ (apart (x == y) (has (live h) y) _ _ (λ d. sym (keeps_piece limits y h after (others y d)))
        ∙ (cc (left_is (live h) x y))));
  }
    where
      apart : (a b : Bool) (p q : Option Piece) → (a ≡ false → p ≡ q) → (if a then None else if b then p else None) ≡ (if not a && b then q else None)
      apart true b p q f = refl
      apart false true p q f = f refl
      apart false false p q f = refl

  pub doomed_holding : (old new : BTreeSet ℕ) → HoldingIs limits old h → ((y : ℕ) → contains nat_cmp new y ≡ (not (x == y) && contains nat_cmp old y))
      → ((y : ℕ) → (x == y) ≡ false → KeepsStream limits y h after) → HoldingIs limits new after
  doomed_holding old new k made others = record {
    holds = λ y. made y ∙ (ap (λ b. not (x == y) && b) (k.holds y) ∙ (apart (x == y) (has (live h) y) _ _ (λ d. ap (λ (o : List ℕ). nat_lt 0 (length o)) (sym (others y d).recv))
        ∙ (cc (left_is (live h) x y))));
  }
    where
      apart : (a b c d : Bool) → (a ≡ false → c ≡ d) → (not a && (b && c)) ≡ ((not a && b) && d)
      apart true b c d f = refl
      apart false true c d f = f refl
      apart false false c d f = refl

  pub dooms_at : (old : Flows) (ex : Exchanges) (b : Board) (conn : Connection) (holding : BTreeSet ℕ) → FlowsStand limits old h → Alive h x
      → ((y : ℕ) → lows_of limits y h ≡ []) → AllByRecursion (IsLiveFlow (live h)) (conn_lows limits h)
      → DoomsExchange x old.exchanges ex → AreSoundExchanges ex → IfSome (exchange_at old.exchanges x) (λ e. ForgetsFlows x e old.gates b) → IsSoundBoard b
      → ((y : ℕ) → get nat_cmp conn.ready y ≡ (if x == y then None else get nat_cmp old.conn.ready y)) → conn.write ≡ old.conn.write → conn.framed_last ≡ old.conn.framed_last
      → ((y : ℕ) → contains nat_cmp holding y ≡ (not (x == y) && contains nat_cmp old.holding y))
      → FlowsStand limits (record { limits = old.limits; exchanges = ex; gates = b; conn = conn; holding = holding }) after
  dooms_at old ex b conn holding st is quiet lows c sound forgets counted made write last kept =
      let s = st.exchanges.there x is in
      let sides = at_found (λ (e : Exchange). ForgetsFlows x e old.gates b) (exchange_at old.exchanges x) (plain_exchange x s.plain) s.is forgets in
      let forgot = subst (Forgets (request x) old.gates) (sym sides.response_gone) sides.request_gone in
      let others : (y : ℕ) → (x == y) ≡ false → KeepsStream limits y h after = λ y d.
      keeps_stream limits y (Noted (note.Doom x why)) h (doom_leaves limits x y why h d (cc (quiet y))) refl refl in
      record {
        limits_are = st.limits_are;
        ranges = st.ranges;
        exchanges = doomed_exchanges old.exchanges ex st.exchanges c sound others;
        gates = doomed_gates old.gates b st.gates forgot counted is others lows;
        conn = doomed_conn old.conn conn st.conn write last made others;
        holding = doomed_holding old.holding holding st.holding kept others;
      }

pub dooms : (x : ℕ) (why : Cause) (old : Flows) (ex : Exchanges) (b : Board) (conn : Connection) (holding : BTreeSet ℕ) → DoomsExchange x old.exchanges ex → AreSoundExchanges ex
    → IfSome (exchange_at old.exchanges x) (λ e. ForgetsFlows x e old.gates b) → IsSoundBoard b
    → ((y : ℕ) → get nat_cmp conn.ready y ≡ (if x == y then None else get nat_cmp old.conn.ready y)) → conn.write ≡ old.conn.write → conn.framed_last ≡ old.conn.framed_last
    → ((y : ℕ) → contains nat_cmp holding y ≡ (not (x == y) && contains nat_cmp old.holding y))
    → Dooms x why old (record { limits = old.limits; exchanges = ex; gates = b; conn = conn; holding = holding })
dooms x why old ex b conn holding c sound forgets counted made write last kept = record {
  goes = λ limits h s is. dooms_at limits x why h old ex b conn holding s.stands is s.lawful.untold s.lawful.regular.books.write_lows c sound forgets counted made write last kept;
  turned = λ limits k e h s is st.
      dooms_at limits x why (turn_of k e ∷ h) old ex b conn holding st is
      s.lawful.untold s.lawful.regular.books.write_lows c sound forgets counted made write last kept;
}

-- the gates know the flow of a live stream, which has no response
pub doom_known : (x : ℕ) (flows : Flows) → IsSettled flows → Lives flows x true → IfSome (exchange_at flows.exchanges x) (λ e. KnowsFlows x e flows.gates)
doom_known x flows settled lives =
    let s = settled.settled.stands in
    let is = sym (lives.goes settled.limits settled.history settled.settled) in
    let k = s.exchanges.there x is in
    from_found (λ (e : Exchange). KnowsFlows x e flows.gates) (exchange_at flows.exchanges x) (plain_exchange x k.plain) k.is
    (s.gates.flows (request x) ∙ (is_live_is settled.limits (request x) settled.history ∙ is), λ some. cc)

pub doom_less : (x : ℕ) (old : Flows) (ex : Exchanges) (b : Board) (conn : Connection) (holding : BTreeSet ℕ) → AreSoundExchanges old.exchanges → DoomsExchange x old.exchanges ex → AreSoundExchanges ex
    → IsSettled old → Lives old x true → IfSome (exchange_at old.exchanges x) (λ e. ForgetsFlows x e old.gates b)
    → left_in (record { limits = old.limits; exchanges = ex; gates = b; conn = conn; holding = holding }) ≤ left_in old
doom_less x old ex b conn holding was c sound settled lives forgets =
    let is = sym (lives.goes settled.limits settled.history settled.settled) in
    let s = settled.settled.stands.exchanges.there x is in
    let sides = at_found (λ (e : Exchange). ForgetsFlows x e old.gates b) (exchange_at old.exchanges x) (plain_exchange x s.plain) s.is forgets in
    let pending : pending_on b (buffer.Write 0) ≡ without_flow (request x) (pending_on old.gates (buffer.Write 0)) =
    cc (sides.request_gone.pending (buffer.Write 0)) in
    less (ahead (record old { exchanges = ex })) (option_map_or way (exchange_at old.exchanges x) 0) (ahead old) _ _ _
    (ahead_changes x None old.exchanges ex was sound c.gone.live) (cc) (fewer (λ (g : FlowId). not (same_flow (request x) g)) (pending_on old.gates (buffer.Write 0)))
  where
    less : (a v b n k m : ℕ) → a + v ≡ b + 0 → n ≡ k → k ≤ m → a + 4 * n ≤ b + 4 * m
    less a v b n k m e f l = omega (arith, e, f, l)
