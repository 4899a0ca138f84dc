-- What the flows are after a stream began.
use Rattle.std.proofs.lemmas.Bool.{or_right as or_true}
use Rattle.exchange_core.specs.Changes.{Starts}
use Rattle.exchange_core.specs.Exchange.{begun}
use Rattle.exchange_core.specs.Exchanges.{Exchanges, IsSound as AreSoundExchanges, exchange_at}
use Rattle.exchange_core.specs.Plain.{plain_begun, plain_spec}
use Rattle.flow_gate.specs.Board.{Board, FlowState, IsSound as IsSoundBoard, count as count_on, is_marked, is_open as is_there, pending_on, times, watchers_of}
use Rattle.flow_gate.specs.Changes.{Begins as BeginsFlow, Knows, Watches}
use Rattle.flow_rules.specs.declared.ids.BufferId.{BufferId}
use Rattle.flow_rules.specs.declared.ids.FlowId.{FlowId}
use Rattle.plain_laws.proofs.Counting.{one_if}
use Rattle.plain_laws.proofs.Counts.{begin_count, begin_count_own, is_live_is}
use Rattle.plain_laws.proofs.EventChanges.{begin_condemned, begin_framed_last, begin_keeps, begin_keeps_write, begin_live, begin_started}
use Rattle.plain_laws.proofs.Streams.{by_case, has_last, has_more, has_not, has_was, not_both, own_or_other, same_number}
use Rattle.plain_laws.specs.Regular.{IsUnborn}
use Rattle.plain_laws.specs.Settled.{Settled as IsSettledHistory}
use Rattle.std.proofs.Math.Bool.{or-false}
use Rattle.std.proofs.Common.{ap, arith, inr, refl, subst, sym, ◌∙◌}
use Rattle.std.proofs.lemmas.Bool.Decides.{nat_tests}
use Rattle.std.proofs.lemmas.List.{append-nil}
use Rattle.std.specs.Option.{option_map_or}
use Rattle.std.specs.Prelude.{Bool, List, None, Option, Some, [], false, if◌then◌else◌, is_some, length, map, min, nat_lt, not, true, ℕ, ◌&&◌, ◌++◌, ◌+◌, ◌<◌, ◌==◌, ◌^◌, ◌||◌, ◌∷◌, ◌≡◌, ◌≤◌}
use Rattle.plain_laws.specs.Words.{Past, Alive, conn_high, end_out, past_begin, send_at}
use Rattle.tape_laws.specs.Dispatches.{has, live, started}
use Rattle.flow_rules.specs.declared.unit.Unit.TheVariants.{Body as BodyUnit, Nothing as NoUnit}
use Rattle.tape_laws.specs.Flows.{request}
use Rattle.tape_laws.specs.Pauses.{count}
use Rattle.tape_laws.specs.Plain.{plain_ended}
use Rattle.tape_laws.specs.declared.PlainLimits.{PlainLimits}
use Rattle.plain_core.specs.Carries.{Begins}
use Rattle.plain_core.specs.Flows.{ConnectionIs, ExchangesAre, GatesAre, IsSettled, Settled, StreamIs, next_piece, piece_of}
use Rattle.plain_core.specs.declared.conn.Connection.{Connection}
use Rattle.exchange_core.specs.declared.step.Piece.{Piece}
use Rattle.plain_core.specs.declared.flows.Flows.{Flows}
use Rattle.flow_rules.specs.declared.ids.BufferId.TheVariants as buffer
use Rattle.plain_core.proofs.FlowStreams.{stream_kept}
use Rattle.plain_core.proofs.FlowHolds.{holding_begun}
use Rattle.plain_core.proofs.FlowUnits.{keeps_piece}
use Rattle.plain_laws.proofs.Tellings.{told_all}
use Rattle.proxy_config.specs.declared.config.Config.{Config}

-- ---- who is live
module _ (limits : PlainLimits) (x : ℕ) where
  not_live : (h : Past) → IsSettledHistory limits h → has (started h) x ≡ false → has (live h) x ≡ false
  not_live h s new = by_case (has (live h) x) (λ e. not_both (has (started h) x) (s.regular.books.born x e) new) (λ e. e)

  pub not_started : (old : Flows) (h : Past) → Settled limits old h → old.exchanges.last < x → has (started h) x ≡ false
  not_started old h s l = by_case (has (started h) x) (λ e. none _ _ l (s.stands.exchanges.most.most x e)) (λ e. e)
    where
      none : (a b : ℕ) → a < b → b ≤ a → has (started h) x ≡ false
      none a b l m = absurd (omega (arith, l, m))

pub shut : (x : ℕ) (old : Flows) → IsSettled old → old.exchanges.last < x → is_there old.gates (request x) ≡ false
shut x old s l =
    s.settled.stands.gates.flows (request x) ∙ (is_live_is s.limits (request x) s.history ∙ not_live s.limits x s.history s.settled.lawful (not_started s.limits x old s.history s.settled l))

pub unwatched : (x : ℕ) (old : Flows) (b1 b2 b3 : Board) → IsSettled old → old.exchanges.last < x → BeginsFlow (request x) old.gates b1 → Knows (buffer.Send (request x)) b1 b2
    → Watches (request x) (buffer.Send (request x)) b2 b3 → times (request x) (watchers_of b3 (buffer.Write 0)) ≡ 0
unwatched x old b1 b2 b3 s l begins knows watches =
    let h = s.history in
    let same = watches.watchers (buffer.Write 0) ∙ (append-nil _ ∙ (knows.watchers (buffer.Write 0) ∙ (begins.watchers (buffer.Write 0) ∙ s.settled.stands.gates.write_watchers))) in
    ap (times (request x)) same ∙ (cc (told_all (live h) x s.settled.lawful.regular.books.rising, not_live s.limits x h s.settled.lawful (not_started s.limits x old h s.settled l)))

-- ---- the exchanges
module _ (limits : PlainLimits) (k x : ℕ) (h : Past) where
  abbrev after : Past
  after = past_begin limits k x h

  begun_stream : (config : Config) (flows : Flows) → flows.limits ≡ limits → IsUnborn limits x h
      → StreamIs limits x after (Some (begun x (plain_spec x flows.limits.recv flows.limits.send flows.limits.quantum 0) config))
  begun_stream config flows l u =
      let kept = begin_keeps limits k x h x in
      record {
        plain = plain_begun flows.limits.recv flows.limits.send flows.limits.quantum 0;
        is = refl;
        window = cc;
        limit = cc;
        quantum = cc;
        started = refl;
        recv = sym (kept.recv ∙ u.recv);
        send = sym (kept.send ∙ u.send);
        above = sym (kept.high ∙ u.low);
        ended = sym (kept.ended ∙ u.goes_on);
        end_framed = sym (kept.framed ∙ u.unframed);
      }

  lives : (y : ℕ) → has (live after) y ≡ (has (live h) y || (x == y))
  lives y = cc (begin_live limits k x h, has_more (live h) x y)

  begun_exchanges : (config : Config) (old : Flows) (ex : Exchanges) → old.limits ≡ limits → ExchangesAre limits old.exchanges h → IsUnborn limits x h → old.exchanges.last < x → x < 2 ^ 32
      → Starts x (plain_spec x old.limits.recv old.limits.send old.limits.quantum 0) config old.exchanges ex → AreSoundExchanges ex → ExchangesAre limits ex after
  begun_exchanges config old ex l e u rises small c sound = record {
    sound = sound;
    time = c.time;
    small = rw c.last small;
    most = record {
      most = λ y. own_or_other (λ v. has (started after) v ≡ true → v ≤ ex.last) x y
          (λ is. rw c.last (itself x))
          (λ d is. subst (λ (n : ℕ). y ≤ n) (sym c.last) (between y old.exchanges.last x
          (e.most.most y (has_was (started h) x y (cc (begin_started limits k x h)) d)) rises));
    };
    last = inr (cc (begin_started limits k x h, has_last (started h) x));
    doomed = c.doomed ∙ (e.doomed ∙ sym (begin_condemned limits k x h));
    there = λ y. own_or_other (λ v. Alive after v → StreamIs limits v after (exchange_at ex v)) x y
        (λ is. rw own_is (begun_stream config old l u))
        (λ d is. subst (StreamIs limits y after) (sym (other_is y d)) (stream_kept limits y h after (exchange_at old.exchanges y) (begin_keeps limits k x h y)
        (e.there y (has_was (live h) x y (cc (begin_live limits k x h)) d))));
    gone = λ y is.
        let none = has_not (live h) x y (cc (begin_live limits k x h)) in
        other_is y none.1 ∙ e.gone y none.0;
  }
    where
      itself : (n : ℕ) → n ≤ n
      itself n = omega arith

      between : (a b c : ℕ) → a ≤ b → b < c → a ≤ c
      between a b c p q = omega (arith, p, q)

      own_is : exchange_at ex x ≡ Some (begun x (plain_spec x old.limits.recv old.limits.send old.limits.quantum 0) config)
      own_is = cc (c.live x, same_number x)

      other_is : (y : ℕ) → (x == y) ≡ false → exchange_at ex y ≡ exchange_at old.exchanges y
      other_is y d = cc (c.live y)

  -- ---- the connection
  begun_conn : (conn : Connection) → ConnectionIs limits conn h → has (live h) x ≡ false → IsUnborn limits x h → ConnectionIs limits conn after
  begun_conn conn c new u = record {
    limit = c.limit;
    octets = c.octets ∙ sym (begin_keeps_write limits k x h).octets;
    above = c.above ∙ sym (begin_keeps_write limits k x h).high;
    framed_last = c.framed_last ∙ sym (begin_framed_last limits k x h);
    ready = λ y. c.ready y ∙ (ap (λ (p : Option Piece). if has (live h) y then p else None) (sym (keeps_piece limits y h after (begin_keeps limits k x h y)))
        ∙ sym (ap (λ b. if b then next_piece limits y after else None) (lives y)
        ∙ own_or_other (λ v. (if has (live h) v || (x == v) then next_piece limits v after else None) ≡ (if has (live h) v then next_piece limits v after else None)) x y
        (none (has (live h) x || (x == x)) (has (live h) x) (next_piece limits x after) idle)
        (λ d. cc (or-false (has (live h) y)))));
  }
    where
      none : (a b : Bool) (p : Option Piece) → p ≡ None → (if a then p else None) ≡ (if b then p else None)
      none true true p e = refl
      none true false p e = e
      none false true p e = sym e
      none false false p e = refl

      nothing : (b e fr c l : Bool) (n : ℕ) → b ≡ false → e ≡ false → piece_of (if b then BodyUnit n l else if not (e && c) || fr then NoUnit else BodyUnit 0 true) ≡ None
      nothing false false fr c l n p q = refl
      nothing true e fr c l n p q = cc
      nothing false true fr c l n p q = cc

      no_octets : (q s : ℕ) → s ≡ 0 → nat_lt 0 (min (min q q) s) ≡ false
      no_octets q s e = grind (arith, nat_tests)

      idle : next_piece limits x after ≡ None
      idle =
          let s = length (send_at limits x h) in
          keeps_piece limits x h after (begin_keeps limits k x h x)
          ∙ nothing _ (plain_ended x h) (end_out limits x h) _ _ (min (min limits.quantum limits.quantum) s) (no_octets limits.quantum s (cc)) u.goes_on

  -- ---- the gates

  begun_flow : (a b c : Bool) → ((a && not b) || (not b && c)) ≡ (not b && (c || a))
  begun_flow true true c = refl
  begun_flow true false true = refl
  begun_flow true false false = refl
  begun_flow false true c = refl
  begun_flow false false true = refl
  begun_flow false false false = refl

  shut_count : (board : Board) (f : FlowId) → is_there board f ≡ false → count_on board f ≡ 0
  unfolding is_there count_on
  shut_count board f e = none _ (λ (s : FlowState). s.count) e
    where
      none : {X : Type 0} (o : Option X) (g : X → ℕ) → is_some o ≡ false → option_map_or g o 0 ≡ 0
      none None g e = refl
      none (Some v) g e = absurd (cc)

  map_more : (xs : List ℕ) → map request xs ++ request x ∷ [] ≡ map request (xs ++ x ∷ [])
  map_more [] = refl
  map_more (y ∷ ys) = cc (map_more ys)

  begun_gates : (old b1 b2 b3 b4 : Board) → IsSettledHistory limits h → GatesAre limits old h → has (live h) x ≡ false → has (started h) x ≡ false → IsUnborn limits x h → BeginsFlow (request x) old b1
      → Knows (buffer.Send (request x)) b1 b2 → Watches (request x) (buffer.Send (request x)) b2 b3 → Watches (request x) (buffer.Write 0) b3 b4 → IsSoundBoard b4 → GatesAre limits b4 after
  begun_gates old b1 b2 b3 b4 s g new unstarted u c1 c2 c3 c4 sound = record {
    sound = sound;
    flows = λ f. cc (c4.flows f, c3.flows f, c2.flows f, c1.flows f, g.flows f, is_live_is limits f h, begun_flow (x == f.exchange) f.back (has (live h) f.exchange), is_live_is limits f after, lives f.exchange);
    counts = λ y. own_or_other (λ v. Alive after v → count_on b4 (request v) ≡ count (request v) after) x y
        (λ is. c4.counts (request x) ∙ (own_sum _ _ _ _ _ (c3.counts (request x)) (c2.counts (request x) ∙ (c1.counts (request x) ∙ shut_count old (request x) shut_flow))
        (cc (send_low, no_one ((x == x) && true))) (cc (write_mark, same_number x))
        ∙ sym (begin_count_own limits k x h s unstarted)))
        (λ d is. c4.counts (request y) ∙ (other_sum _ _ _ _ (c3.counts (request y)) (cc) (cc)
        ∙ (c2.counts (request y) ∙ (c1.counts (request y) ∙ (g.counts y (has_was (live h) x y (cc (begin_live limits k x h)) d) ∙ sym (begin_count limits k x y h d))))));
    write_known = c4.buffers (buffer.Write 0) ∙ (c3.buffers (buffer.Write 0) ∙ (c2.buffers (buffer.Write 0) ∙ (c1.buffers (buffer.Write 0) ∙ g.write_known)));
    write_mark = c4.marks (buffer.Write 0) ∙ (write_mark ∙ sym (begin_keeps_write limits k x h).high);
    write_watchers = c4.watchers (buffer.Write 0) ∙ (ap (λ (fs : List FlowId). fs ++ request x ∷ [])
        (c3.watchers (buffer.Write 0) ∙ (append-nil _ ∙ (c2.watchers (buffer.Write 0) ∙ (c1.watchers (buffer.Write 0) ∙ g.write_watchers))))
        ∙ (cc (map_more (live h), begin_live limits k x h)));
    write_pending = pending_same (buffer.Write 0) ∙ (g.write_pending ∙ sym (begin_keeps_write limits k x h).lows);
    send_known = λ y. cc (c4.buffers (buffer.Send (request y)), c3.buffers (buffer.Send (request y)), c2.buffers (buffer.Send (request y)), c1.buffers (buffer.Send (request y)), g.send_known y, turned (x == y) (has (live h) y), lives y);
    send_mark = λ y. c4.marks (buffer.Send (request y)) ∙ (c3.marks (buffer.Send (request y)) ∙ (c2.marks (buffer.Send (request y)) ∙ (c1.marks (buffer.Send (request y)) ∙ (g.send_mark y ∙ sym (begin_keeps limits k x h y).high))));
    send_watchers = λ y. c4.watchers (buffer.Send (request y)) ∙ (append-nil _ ∙ (c3.watchers (buffer.Send (request y))
        ∙ (ap (λ (fs : List FlowId). fs ++ (if (x == y) && true then request x ∷ [] else [])) (c2.watchers (buffer.Send (request y)) ∙ (c1.watchers (buffer.Send (request y)) ∙ g.send_watchers y))
        ∙ own_or_other (λ v. (if has (live h) v then request v ∷ [] else []) ++ (if (x == v) && true then request x ∷ [] else []) ≡ (if has (live after) v then request v ∷ [] else [])) x y
        (one_more (has (live h) x) (x == x) (has (live after) x) new (same_number x) (lives x ∙ or_true (has (live h) x) (x == x) (same_number x)))
        (λ d. cc (no_more y (has (live h) y) (x == y) d, lives y, or-false (has (live h) y))))));
    send_pending = λ y. pending_same (buffer.Send (request y)) ∙ g.send_pending y;
  }
    where
      pending_same : (d : BufferId) → pending_on b4 d ≡ pending_on old d
      pending_same d = c4.pending d ∙ (c3.pending d ∙ (c2.pending d ∙ c1.pending d))

      shut_flow : is_there old (request x) ≡ false
      shut_flow = g.flows (request x) ∙ (is_live_is limits (request x) h ∙ new)

      send_low : is_marked b2 (buffer.Send (request x)) ≡ false
      send_low = c2.marks (buffer.Send (request x)) ∙ (c1.marks (buffer.Send (request x)) ∙ (g.send_mark x ∙ u.low))

      write_mark : is_marked b3 (buffer.Write 0) ≡ conn_high limits h
      write_mark = c3.marks (buffer.Write 0) ∙ (c2.marks (buffer.Write 0) ∙ (c1.marks (buffer.Write 0) ∙ g.write_mark))

      no_one : (b : Bool) → one_if (b && false) ≡ 0
      no_one true = refl
      no_one false = refl

      turned : (a b : Bool) → ((a && true) || b) ≡ (b || a)
      turned true true = refl
      turned true false = refl
      turned false true = refl
      turned false false = refl

      own_sum : (a b i j w : ℕ) → a ≡ b + i → b ≡ 0 → i ≡ 0 → j ≡ w → a + j ≡ w
      own_sum a b i j w e1 e2 e3 e4 = omega (arith, e1, e2, e3, e4)

      other_sum : (a b i j : ℕ) → a ≡ b + i → i ≡ 0 → j ≡ 0 → a + j ≡ b
      other_sum a b i j e1 e2 e3 = omega (arith, e1, e2, e3)

      one_more : (a b l : Bool) → a ≡ false → b ≡ true → l ≡ true → (if a then request x ∷ [] else []) ++ (if b && true then request x ∷ [] else []) ≡ (if l then request x ∷ [] else [])
      one_more a b l e f g = rw (e, f, g) refl

      no_more : (y : ℕ) (a b : Bool) → b ≡ false → (if a then request y ∷ [] else []) ++ (if b && true then request x ∷ [] else []) ≡ (if a then request y ∷ [] else [])
      no_more y a b e = ap (λ v. (if a then request y ∷ [] else []) ++ (if v && true then request x ∷ [] else [])) e ∙ append-nil _

pub begins : (stream : ℕ) (held : Bool) (old : Flows) (config : Config) (ex : Exchanges) (b1 b2 b3 b4 : Board) → old.exchanges.last < stream → stream < 2 ^ 32
    → Starts stream (plain_spec stream old.limits.recv old.limits.send old.limits.quantum 0) config old.exchanges ex → AreSoundExchanges ex → BeginsFlow (request stream) old.gates b1
    → Knows (buffer.Send (request stream)) b1 b2 → Watches (request stream) (buffer.Send (request stream)) b2 b3 → Watches (request stream) (buffer.Write 0) b3 b4 → IsSoundBoard b4
    → held ≡ is_marked b3 (buffer.Write 0) → Begins stream held old (record old { exchanges = ex; gates = b4 })
begins x held old config ex b1 b2 b3 b4 rises small c sound c1 c2 c3 c4 counted is = record {
  goes = λ limits k h s unstarted.
      let st = s.stands in
      let u = s.lawful.regular.books.unborn x unstarted in
      let new = not_live limits x h s.lawful unstarted in
      record {
        held = is ∙ (c3.marks (buffer.Write 0) ∙ (c2.marks (buffer.Write 0) ∙ (c1.marks (buffer.Write 0) ∙ st.gates.write_mark)));
        stands = record {
          limits_are = st.limits_are;
          ranges = st.ranges;
          exchanges = begun_exchanges limits k x h config old ex st.limits_are st.exchanges u rises small c sound;
          gates = begun_gates limits k x h old.gates b1 b2 b3 b4 s.lawful st.gates new unstarted u c1 c2 c3 c4 counted;
          conn = begun_conn limits k x h old.conn st.conn new u;
          holding = holding_begun limits k x old.holding h st.holding u;
        };
      };
  last = c.last;
}
