-- What the flows are after octets of a stream moved.
use Rattle.exchange_core.proofs.PlainStreams.{free_is, goes, plain_free, stays as flow_stays}
use Rattle.exchange_core.specs.Changes.{ChangesFlow}
use Rattle.exchange_core.specs.Exchange.{flow_changed, flow_in}
use Rattle.exchange_core.specs.Exchanges.{Exchanges, IsLiveFlow, IsSound as AreSoundExchanges, exchange_at, flow_at, target_of}
use Rattle.exchange_core.specs.Flow.{Flow}
use Rattle.exchange_core.specs.Moves.{next_step, stepped}
use Rattle.exchange_core.specs.Plain.{Plain, plain_crossed, plain_flow, plain_moved}
use Rattle.exchange_core.specs.declared.exchange.Exchange.{Exchange}
use Rattle.exchange_core.specs.declared.step.Step.{Step as MoveStep}
use Rattle.exchange_core.specs.declared.step.Step.TheVariants as step
use Rattle.flow_gate.specs.Board.{Board, IsSound as IsSoundBoard, count as count_on, is_known, is_marked, pending_on, times}
use Rattle.flow_gate.specs.Changes.{Rises}
use Rattle.plain_laws.proofs.Changes.{move_end_framed, move_ended, move_framed_last, move_high, move_keeps, move_keeps_lists, move_keeps_write, move_recv, move_send}
use Rattle.plain_laws.proofs.Counting.{one_if}
use Rattle.plain_laws.proofs.Counts.{move_count}
use Rattle.plain_laws.proofs.Steps.{settled_count}
use Rattle.plain_laws.proofs.Streams.{by_case, number_is, own_or_other, same_number}
use Rattle.plain_laws.specs.Keeping.{KeepsLists, KeepsWrite}
use Rattle.plain_laws.specs.Settled.{Settled as IsSettledHistory}
use Rattle.std.proofs.Math.Bool.{and-false, and-true}
use Rattle.std.proofs.Common.{ap, arith, refl, subst, sym, ◌∙◌}
use Rattle.std.specs.BTreeMap.{get}
use Rattle.std.specs.BTreeSet.{BTreeSet, contains}
use Rattle.std.specs.Option.{option_and_then, option_map_or}
use Rattle.std.specs.Ordering.{nat_cmp}
use Rattle.std.specs.Prelude.{Bool, IsNone, IsSome, None, Option, Some, [], drop, false, if◌then◌else◌, length, min, nat_lt, not, option_map, take, true, ℕ, ◌&&◌, ◌*◌, ◌++◌, ◌+◌, ◌-◌, ◌<◌, ◌==◌, ◌||◌, ◌∷◌, ◌≡◌, ◌≤◌}
use Rattle.plain_laws.specs.Words.{Past, Alive, move_of, past_move, recv_at, send_at, send_high, send_rises}
use Rattle.tape_laws.specs.Dispatches.{has, live}
use Rattle.tape_laws.specs.Flows.{request}
use Rattle.tape_laws.specs.Pauses.{count}
use Rattle.tape_laws.specs.declared.PlainLimits.{PlainLimits}
use Rattle.wm_buffer.specs.Watermark.{above_after, crossing}
use Rattle.wm_buffer.specs.declared.buffer.Shifted.{Shifted}
use Rattle.plain_core.specs.Carries.{MovesAt, StaysAt, Steps}
use Rattle.plain_core.specs.Flows.{ExchangesAre, GatesAre, HoldingIs, IsSettled, Settled, StreamIs}
use Rattle.plain_core.specs.UnitsOf.{is_emptied, piece_at}
use Rattle.plain_core.specs.declared.flows.Flows.{Flows}
use Rattle.flow_rules.specs.declared.ids.BufferId.TheVariants as buffer
use Rattle.plain_core.specs.declared.flows.Outcome.TheVariants as outcome
use Rattle.plain_core.proofs.FlowStreams.{changed_exchanges, changed_plain}
use Rattle.plain_core.proofs.FlowGates.{CountsAre, KeepsNames, gates_from}
use Rattle.plain_core.proofs.FlowHolds.{emptied_is, holding_moved, left_some, some_there}
use Rattle.plain_core.proofs.FlowParts.{refreshed_conn, quantum_some}
use Rattle.plain_laws.proofs.Own.{send_move}
use Rattle.std.proofs.Common.{length-append, length-drop, length-take}
use Rattle.std.proofs.lemmas.Bool.Decides.{nat_tests}
use Rattle.plain_core.proofs.FlowLeaves.{flag_same}
use Rattle.plain_core.proofs.FlowMeasure.{ahead_changes}
use Rattle.plain_core.proofs.Tellings.{times_one}
use Rattle.plain_core.specs.Crossings.{is_high}
use Rattle.plain_core.specs.Measure.{ahead, left_in, way}

some_is : {X : Type 0} (a b : X) → Some a ≡ Some b → a ≡ b
some_is a b e = cc

-- ---- what the step was
module _ (limits : PlainLimits) (x : ℕ) where
  pub target_is : (ex : Exchanges) (h : Past) → StreamIs limits x h (exchange_at ex x) → target_of ex (request x) ≡ Some 0
  target_is ex h s = cc

  pub step_is : (ex : Exchanges) (b : Board) (st : MoveStep) (h : Past) → (s : StreamIs limits x h (exchange_at ex x))
      → Some st ≡ option_map (next_step b (target_of ex (request x))) (flow_at ex (request x)) → st ≡ next_step b (Some 0) (plain_flow x s.plain)
  step_is ex b st h s e = some_is _ _
      (cc (target_is ex h s))

  pub changed_by : (old new : Exchanges) (b : Board) (h : Past) → (s : StreamIs limits x h (exchange_at old x))
      → ChangesFlow (request x) (stepped b (target_of old (request x))) old new → ChangesFlow (request x) (stepped b (Some 0)) old new
  changed_by old new b h s c = rw (← target_is old h s) c

pub record IsMove (b : Board) (x : ℕ) (p : Plain) (n : ℕ) (shifted : Shifted) : Type 0 where
  pub free : plain_free b x p ≡ true
  pub all : n ≡ min p.quantum (length p.recv)
  pub shift : shifted ≡ plain_crossed n p

pub is_move : (b : Board) (x : ℕ) (p : Plain) (from n : ℕ) (shifted : Shifted) (over : Bool) → step.Moved from n shifted over ≡ next_step b (Some 0) (plain_flow x p) → IsMove b x p n shifted
is_move b x p from n shifted over e = by_case (plain_free b x p)
    (λ t.
    let made : step.Moved from n shifted over ≡ step.Moved 0 (min p.quantum (length p.recv)) (plain_crossed (min p.quantum (length p.recv)) p) false = e ∙ (goes b x p t).0 in
    let same : n ≡ min p.quantum (length p.recv) = cc in
    let shift : shifted ≡ plain_crossed (min p.quantum (length p.recv)) p = cc in
    record { free = t; all = same; shift = cc (shift, same) })
    (λ f. let made : step.Moved from n shifted over ≡ step.Still = e ∙ (flow_stays b x p f).0 in absurd (cc))

pub record MayGo (b : Board) (x : ℕ) (n : ℕ) : Type 0 where
  pub free : count_on b (request x) ≡ 0
  pub some : 0 < n
  pub send_low : is_marked b (buffer.Send (request x)) ≡ false
  pub write_low : is_marked b (buffer.Write 0) ≡ false

may_go : (b : Board) (x : ℕ) (p : Plain) (n : ℕ) (shifted : Shifted) → IsMove b x p n shifted → MayGo b x n
may_go b x p n shifted m =
    let f = free_is b x p m.free in
    record { free = f.read; some = rw m.all f.some; send_low = f.send_low; write_low = f.write_low }

abbrev pub RisesSend : Bool → ℕ → Board → Board → Type 0
RisesSend true x old new = Rises (buffer.Send (request x)) old new
RisesSend false x old new = new ≡ old

-- ---- a move
module _ (limits : PlainLimits) (x n : ℕ) (h : Past) where
  abbrev after : Past
  after = past_move limits x n h

  abbrev risen : Bool
  risen = above_after limits.send (send_high limits x h) (length (send_at limits x h ++ take n (recv_at limits x h)))

  rises_is : send_rises limits x (move_of x n) h ≡ (not (send_high limits x h) && risen)
  rises_is = cc (send_move limits x n h)

  moved_flag : (p : Plain) → p.limit ≡ limits.send → p.above ≡ send_high limits x h → p.send ≡ send_at limits x h
      → p.recv ≡ recv_at limits x h → (plain_moved n p).above ≡ risen
  moved_flag p el ea es er = flag_same _ _ _ _ _ _ el ea (cc)

  moved_stream : (b : Board) (found : Option Exchange) → (s : StreamIs limits x h found) → stepped b (Some 0) (plain_flow x s.plain) ≡ plain_flow x (plain_moved n s.plain) → StreamIs limits x after (option_map (flow_changed (stepped b (Some 0)) false) found)
  moved_stream b found s e = record {
    plain = plain_moved n s.plain;
    is = changed_plain x (stepped b (Some 0)) found s.plain (plain_moved n s.plain) s.is e;
    window = s.window;
    limit = s.limit;
    quantum = s.quantum;
    started = s.started;
    recv = cc (move_recv limits x n h);
    send = cc (move_send limits x n h);
    above = moved_flag s.plain s.limit s.above s.send s.recv ∙ sym (move_high limits x n h);
    ended = s.ended ∙ sym (move_ended limits x n h x);
    end_framed = s.end_framed ∙ sym (move_end_framed limits x n h x);
  }

  abbrev rises : Bool
  rises = send_rises limits x (move_of x n) h

  lists : KeepsLists h after
  lists = move_keeps_lists limits x n h

  writes : KeepsWrite limits h after
  writes = move_keeps_write limits x n h

  high : send_high limits x h ≡ false → rises ≡ send_high limits x after
  high low = cc (rises_is, move_high limits x n h)

  moved_counts : (rose : Bool) (old new : Board) → IsSettledHistory limits h → GatesAre limits old h → Alive h x → MayGo old x n → RisesSend rose x old new → rose ≡ rises → CountsAre limits new after
  moved_counts true old new s g is m c e = record {
    counts = λ y l. let was = sym (cc lists.lives) ∙ l in
        sums _ _ _ _ _ _ (c.counts (request y)) (ap (times (request y)) (g.send_watchers x ∙ ap (λ b. if b then request x ∷ [] else []) is) ∙ times_one x y) (g.counts y was)
        (move_count limits x y n h s was) (cc (and-true (x == y)));
    write_mark = c.marks (buffer.Write 0) ∙ (g.write_mark ∙ sym writes.high);
    write_pending = c.pending (buffer.Write 0) ∙ (g.write_pending ∙ sym writes.lows);
    send_mark = λ y. own_or_other (λ v. is_marked new (buffer.Send (request v)) ≡ send_high limits v after) x y
        (cc (c.marks (buffer.Send (request x)), same_number x, high (sym (g.send_mark x) ∙ m.send_low)))
        (λ d. c.marks (buffer.Send (request y)) ∙ (ap (λ b. (b && true) || is_marked old (buffer.Send (request y))) d ∙ (g.send_mark y ∙ sym (move_keeps limits x n h y d).high)));
    send_pending = λ y. c.pending (buffer.Send (request y)) ∙ g.send_pending y;
  }
    where
      sums : (cn co t o ch k : ℕ) {ch' : ℕ} → cn ≡ co + t → t ≡ o → co ≡ ch → ch' ≡ k + ch → k ≡ o → cn ≡ ch'
      sums cn co t o ch k e1 e2 e3 e4 e5 = omega (arith, e1, e2, e3, e4, e5)
  moved_counts false old new s g is m c e = record {
    counts = λ y l. let was = sym (cc lists.lives) ∙ l in
        sums _ _ _ _ (cc (g.counts y was)) (move_count limits x y n h s was) (cc (and-false (x == y)));
    write_mark = cc writes.high;
    write_pending = cc writes.lows;
    send_mark = λ y. own_or_other (λ v. is_marked new (buffer.Send (request v)) ≡ send_high limits v after) x y
        (cc (high (sym (g.send_mark x) ∙ m.send_low)))
        (λ d. cc (g.send_mark y, (move_keeps limits x n h y d).high));
    send_pending = λ y. cc (g.send_pending y);
  }
    where
      sums : (cn ch k ch' : ℕ) → cn ≡ ch → ch' ≡ k + ch → k ≡ 0 → cn ≡ ch'
      sums cn ch k ch' e1 e2 e3 = omega (arith, e1, e2, e3)

pub high_of : (a b : Bool) → is_high (crossing a b) ≡ (not a && b)
high_of true true = refl
high_of true false = refl
high_of false true = refl
high_of false false = refl

names_moved : (rose : Bool) (x : ℕ) (old new : Board) → RisesSend rose x old new → KeepsNames old new
names_moved true x old new c = record { flows = c.flows; buffers = c.buffers; watchers = c.watchers }
names_moved false x old new c = record { flows = λ f. cc; buffers = λ d. cc; watchers = λ d. cc }

pub rose_is : (limits : PlainLimits) (x n : ℕ) (ex : Exchanges) (shifted : Shifted) (b : Board) (h : Past) → (s : StreamIs limits x h (exchange_at ex x)) → IsMove b x s.plain n shifted
    → is_high shifted.to ≡ send_rises limits x (move_of x n) h
rose_is limits x n ex shifted b h s m =
    cc (high_of s.plain.above (plain_moved n s.plain).above, moved_flag limits x n h s.plain s.limit s.above s.send s.recv, rises_is limits x n h)

pub moves : (limits : PlainLimits) (x n : ℕ) (shifted : Shifted) (rose : Bool) (old new : Flows) (ex : Exchanges) (b : Board) (holding : BTreeSet ℕ) (h : Past) → Settled limits old h → Alive h x
    → (s : StreamIs limits x h (exchange_at old.exchanges x)) → IsMove old.gates x s.plain n shifted → ChangesFlow (request x) (stepped old.gates (Some 0)) old.exchanges ex → AreSoundExchanges ex
    → rose ≡ is_high shifted.to → RisesSend rose x old.gates b → IsSoundBoard b → new ≡ record old { exchanges = ex; gates = b; holding = holding; conn = record old.conn { ready = new.conn.ready } }
    → ((y : ℕ) → get nat_cmp new.conn.ready y ≡ (if x == y then piece_at (record old { exchanges = ex; gates = b; holding = holding }) x else get nat_cmp old.conn.ready y))
    → ((y : ℕ) → contains nat_cmp holding y ≡ (not ((x == y) && (nat_lt n old.limits.quantum || is_emptied (record old { exchanges = ex }) x)) && contains nat_cmp old.holding y))
    → MovesAt x (record { n = n; rose = rose }) limits new h
moves limits x n shifted rose old new ex b holding h settled is s m c sound e change counted rest made left =
    let st = settled.stands in
    let h' = past_move limits x n h in
    let go = may_go old.gates x s.plain n shifted m in
    let lists = move_keeps_lists limits x n h in
    let w = move_keeps_write limits x n h in
    let rises_here = e ∙ rose_is limits x n old.exchanges shifted old.gates h s m in
    let stepped_is = (goes old.gates x s.plain m.free).1 ∙ ap (λ k. plain_flow x (plain_moved k s.plain)) (sym m.all) in
    let took : n ≡ min old.limits.quantum (length (recv_at limits x h)) =
    m.all ∙ two_mins _ _ _ _ (cc) (cc) in
    let all = changed_exchanges limits x (stepped old.gates (Some 0)) old.exchanges ex h h' st.exchanges c sound (record { lives = lists.lives; begun = lists.begun; doomed = lists.doomed })
    (λ y d. move_keeps limits x n h y d) (moved_stream limits x n h old.gates (exchange_at old.exchanges x) s stepped_is) in
    record {
      live = is;
      some = go.some;
      all = m.all ∙ two_mins _ _ _ _ s.quantum (cc);
      free = sym (st.gates.counts x is) ∙ go.free;
      rises = rises_here;
      stands = record {
        limits_are = cc;
        ranges = st.ranges;
        exchanges = subst (λ (v : Exchanges). ExchangesAre limits v h') (cc) all;
        gates = subst (λ (v : Board). GatesAre limits v h') (cc)
            (gates_from limits old.gates b h h' st.gates counted (names_moved rose x old.gates b change) lists.lives (moved_counts limits x n h rose old.gates b settled.lawful st.gates is go change rises_here));
        holding = subst (λ (v : BTreeSet ℕ). HoldingIs limits v h') (cc)
            (holding_moved limits x n (nat_lt n old.limits.quantum || is_emptied (record old { exchanges = ex }) x) old.holding holding h st.holding is
            (some_there n old.limits.quantum _ go.some took)
            (ap (λ t. not (nat_lt n old.limits.quantum || t)) (emptied_is limits (record old { exchanges = ex }) x h' (all.there x (cc lists.lives)))
            ∙ left_some n old.limits.quantum _ _ took (cc (move_recv limits x n h, length-drop n (recv_at limits x h)))) left);
        conn = refreshed_conn limits x (record old { exchanges = ex; gates = b; holding = holding }) new h h' st.limits_are rest made
            (record { limit = st.conn.limit; octets = st.conn.octets ∙ sym w.octets; above = st.conn.above ∙ sym w.high; framed_last = st.conn.framed_last ∙ sym (move_framed_last limits x n h) })
            (all.there x (cc lists.lives)) is lists.lives (λ y d. move_keeps limits x n h y d) st.conn.ready;
      };
    }
  where
    two_mins : (a b c d : ℕ) → a ≡ c → b ≡ d → min a b ≡ min c d
    two_mins a b c d e f = rw (e, f) refl

-- ---- nothing moves
pub stays : (limits : PlainLimits) (x : ℕ) (old : Flows) (ex : Exchanges) (h : Past) → Settled limits old h → Alive h x
    → (s : StreamIs limits x h (exchange_at old.exchanges x)) → plain_free old.gates x s.plain ≡ false → ChangesFlow (request x) (stepped old.gates (Some 0)) old.exchanges ex → AreSoundExchanges ex
    → StaysAt x limits (record old { exchanges = ex }) h
stays limits x old ex h settled is s none c sound =
    let st = settled.stands in
    record {
      live = is;
      still = by_case (count (request x) h == 0)
          (λ t. cc (empty t))
          (λ f. cc);
      stands = record {
        limits_are = st.limits_are;
        ranges = st.ranges;
        exchanges = changed_exchanges limits x (stepped old.gates (Some 0)) old.exchanges ex h h st.exchanges c sound (record { lives = refl; begun = refl; doomed = refl })
            (λ y d. record { recv = refl; send = refl; high = refl; ended = refl; framed = refl; pairs = refl; recv_most = refl; send_most = refl })
            (record {
              plain = s.plain;
              is = changed_plain x (stepped old.gates (Some 0)) (exchange_at old.exchanges x) s.plain s.plain s.is (flow_stays old.gates x s.plain none).1;
              window = s.window;
              limit = s.limit;
              quantum = s.quantum;
              started = s.started;
              recv = s.recv;
              send = s.send;
              above = s.above;
              ended = s.ended;
              end_framed = s.end_framed;
            });
        gates = st.gates;
        conn = st.conn;
        holding = st.holding;
      };
    }
  where
    no_flags : (a b : Bool) (k c : ℕ) → c ≡ (one_if a + one_if b) + k → c ≡ 0 → (a ≡ false) × (b ≡ false)
    no_flags true b k c e z = absurd (omega (arith, e, z))
    no_flags false true k c e z = absurd (omega (arith, e, z))
    no_flags false false k c e z = (refl, refl)

    nothing_there : (c r q : ℕ) (ms mw : Bool) → (c == 0) ≡ true → ms ≡ false → mw ≡ false → 0 < q → (nat_lt 0 (if c == 0 then min q r else 0) && not (ms || (mw || false))) ≡ false → nat_lt 0 r ≡ false
    nothing_there c r q ms mw e1 e2 e3 p e = few (nat_lt 0 (min q r)) refl
        (cc)
      where
        zero_of : (m : ℕ) → nat_lt 0 m ≡ false → m ≡ 0
        zero_of m e = grind (arith, nat_tests)

        none_of : (m : ℕ) → m ≡ 0 → nat_lt 0 m ≡ false
        none_of m e = grind (arith, nat_tests)

        least : (q r : ℕ) → 0 < q → min q r ≡ 0 → r ≡ 0
        least q r p e = omega (arith, p, e)

        few : (b : Bool) → nat_lt 0 (min q r) ≡ b → (b && true) ≡ false → nat_lt 0 r ≡ false
        few true is e = absurd (cc)
        few false is e = none_of r (least q r p (zero_of (min q r) is))

    empty : (count (request x) h == 0) ≡ true → nat_lt 0 (length (recv_at limits x h)) ≡ false
    empty t =
        let z = number_is (count (request x) h) 0 t in
        let g = settled.stands.gates in
        let f = no_flags _ _ _ _ (settled_count limits x h settled.lawful is) z in
        let q = subst (λ (v : ℕ). 0 < v) (sym s.quantum) (quantum_some limits settled.stands.ranges) in
        (cc)
        ∙ nothing_there (count_on old.gates (request x)) (length s.plain.recv) s.plain.quantum _ _ (cc (g.counts x is)) (g.send_mark x ∙ f.0) (g.write_mark ∙ f.1) q none

-- ---- how much less is to do
untold_moved : (rose : Bool) (x : ℕ) (old new : Board) → RisesSend rose x old new → pending_on new (buffer.Write 0) ≡ pending_on old (buffer.Write 0)
untold_moved true x old new c = c.pending (buffer.Write 0)
untold_moved false x old new c = cc

move_less_ways : (a b r s t d l n e u : ℕ) → a + (9 * r + (5 * s + e)) ≡ b + (9 * d + (5 * t + e)) → d ≡ r - n → t ≡ s + l → l ≡ min n r → n ≤ r → 0 < n → (a + 4 * u) + 4 ≤ b + 4 * u
move_less_ways a b r s t d l n e u e1 e2 e3 e4 le p = omega (arith, e1, e2, e3, e4, le, p)

pub move_less : (limits : PlainLimits) (x n : ℕ) (shifted : Shifted) (rose : Bool) (old new : Flows) (ex : Exchanges) (b : Board) (holding : BTreeSet ℕ) (h : Past)
    → (s : StreamIs limits x h (exchange_at old.exchanges x)) → IsMove old.gates x s.plain n shifted → ChangesFlow (request x) (stepped old.gates (Some 0)) old.exchanges ex
    → AreSoundExchanges old.exchanges → AreSoundExchanges ex → RisesSend rose x old.gates b → new ≡ record old { exchanges = ex; gates = b; holding = holding; conn = record old.conn { ready = new.conn.ready } }
    → left_in new + 4 ≤ left_in old
unfolding moved_stream
move_less limits x n shifted rose old new ex b holding h s m c was sound change rest =
    let o = option_map (flow_changed (stepped old.gates (Some 0)) false) (exchange_at old.exchanges x) in
    let stepped_is = (goes old.gates x s.plain m.free).1 ∙ ap (λ k. plain_flow x (plain_moved k s.plain)) (sym m.all) in
    let now = (moved_stream limits x n h old.gates (exchange_at old.exchanges x) s stepped_is).is in
    let sums = ap (λ v. ahead (record old { exchanges = ex }) + v) (sym (ap (λ (v : Option Exchange). option_map_or way v 0) s.is))
    ∙ (ahead_changes x o old.exchanges ex was sound c.flow.live ∙ ap (λ v. ahead old + v) (ap (λ (v : Option Exchange). option_map_or way v 0) now)) in
    subst (λ (f : Flows). left_in f + 4 ≤ left_in old) (sym rest)
    (subst (λ (v : ℕ). (ahead (record old { exchanges = ex }) + 4 * v) + 4 ≤ left_in old) (cc (untold_moved rose x old.gates b change))
    (move_less_ways _ _ (length s.plain.recv) (length s.plain.send) (length (s.plain.send ++ take n s.plain.recv)) (length (drop n s.plain.recv)) (length (take n s.plain.recv)) n _ _ sums
    (length-drop n s.plain.recv) (length-append s.plain.send (take n s.plain.recv)) (length-take n s.plain.recv) (few _ _ _ m.all) (may_go old.gates x s.plain n shifted m).some))
  where
    few : (n q r : ℕ) → n ≡ min q r → n ≤ r
    few n q r e = omega (arith, e)

pub stay_less : (limits : PlainLimits) (x : ℕ) (old : Flows) (ex : Exchanges) (h : Past) → (s : StreamIs limits x h (exchange_at old.exchanges x)) → plain_free old.gates x s.plain ≡ false
    → ChangesFlow (request x) (stepped old.gates (Some 0)) old.exchanges ex → AreSoundExchanges old.exchanges → AreSoundExchanges ex → left_in (record old { exchanges = ex }) ≤ left_in old
stay_less limits x old ex h s none c was sound =
    let o = option_map (flow_changed (stepped old.gates (Some 0)) false) (exchange_at old.exchanges x) in
    let now = changed_plain x (stepped old.gates (Some 0)) (exchange_at old.exchanges x) s.plain s.plain s.is (flow_stays old.gates x s.plain none).1 in
    same (ahead (record old { exchanges = ex })) (ahead old) _ _ _ (ahead_changes x o old.exchanges ex was sound c.flow.live)
    (cc)
  where
    same : (a b v w u : ℕ) → a + v ≡ b + w → w ≡ v → a + u ≤ b + u
    same a b v w u e f = omega (arith, e, f)

-- the step was no move
still_of : (b : Board) (x : ℕ) (p : Plain) (st : MoveStep) → ((from n : ℕ) (shifted : Shifted) (over : Bool) → st ≡ step.Moved from n shifted over → ⊥) → st ≡ next_step b (Some 0) (plain_flow x p) → plain_free b x p ≡ false
still_of b x p st none e = by_case (plain_free b x p)
    (λ t. absurd (none 0 (min p.quantum (length p.recv)) (plain_crossed (min p.quantum (length p.recv)) p) false (e ∙ (goes b x p t).0)))
    (λ f. f)

-- a flow is there for each live stream, and for no other
module _ (limits : PlainLimits) (x : ℕ) (ex : Exchanges) (h : Past) where
  pub found_lives : ExchangesAre limits ex h → IsLiveFlow ex (request x) → Alive h x
  found_lives s found = by_case (has (live h) x) (λ t. t) (λ f. absurd (none (flow_at ex (request x)) (cc (s.gone x f)) found))
    where
      none : (o : Option Flow) → o ≡ None → IsSome o → ⊥
      none None e f = cc
      none (Some v) e f = cc

  unfound_dies : ExchangesAre limits ex h → IsNone (flow_at ex (request x)) → has (live h) x ≡ false
  unfound_dies s none = by_case (has (live h) x) (λ t. absurd (some (flow_at ex (request x)) _ (ap (option_and_then (flow_in false)) (s.there x t).is) none)) (λ f. f)
    where
      some : (o : Option Flow) (f : Flow) → o ≡ Some f → IsNone o → ⊥
      some None f e n = cc
      some (Some v) f e n = cc

-- what came of a flow tells whether it was there
pub step_found : {A : Type 0} (o : Option Flow) (g : Flow → A) (a : A) → Some a ≡ option_map g o → IsSome o
step_found None g a e = cc
step_found (Some f) g a e = refl

pub no_step : {A : Type 0} (o : Option Flow) (g : Flow → A) → None ≡ option_map g o → IsNone o
no_step None g e = refl
no_step (Some f) g e = cc

pub idles_all : (x : ℕ) (old : Flows) (ex : Exchanges) → IsNone (flow_at old.exchanges (request x)) → ex ≡ old.exchanges → Steps x outcome.NotLive old (record old { exchanges = ex })
idles_all x old ex none same = record {
  goes = λ limits h s. record {
    dead = unfound_dies limits x old.exchanges h s.stands.exchanges none;
    stands = rw same s.stands;
  };
}

pub idle_less_all : (old : Flows) (ex : Exchanges) → ex ≡ old.exchanges → left_in (record old { exchanges = ex }) ≤ left_in old
idle_less_all old ex same = rw same (itself (left_in old))
  where
    itself : (n : ℕ) → n ≤ n
    itself n = omega arith

module _ (x : ℕ) (old : Flows) (ex : Exchanges) (st : MoveStep) where
  pub stays_all : ((from n : ℕ) (shifted : Shifted) (over : Bool) → st ≡ step.Moved from n shifted over → ⊥)
      → Some st ≡ option_map (next_step old.gates (target_of old.exchanges (request x))) (flow_at old.exchanges (request x))
      → ChangesFlow (request x) (stepped old.gates (target_of old.exchanges (request x))) old.exchanges ex → AreSoundExchanges ex → Steps x outcome.Still old (record old { exchanges = ex })
  stays_all none e c sound = record {
    goes = λ limits h s.
        let is = found_lives limits x old.exchanges h s.stands.exchanges (step_found _ _ st e) in
        let k = s.stands.exchanges.there x is in
        stays limits x old ex h s is k (still_of old.gates x k.plain st none (step_is limits x old.exchanges old.gates st h k e)) (changed_by limits x old.exchanges ex old.gates h k c) sound;
  }

  pub stay_less_all : IsSettled old → ((from n : ℕ) (shifted : Shifted) (over : Bool) → st ≡ step.Moved from n shifted over → ⊥)
      → Some st ≡ option_map (next_step old.gates (target_of old.exchanges (request x))) (flow_at old.exchanges (request x))
      → ChangesFlow (request x) (stepped old.gates (target_of old.exchanges (request x))) old.exchanges ex → AreSoundExchanges ex → left_in (record old { exchanges = ex }) ≤ left_in old
  stay_less_all s none e c sound =
      let k = s.settled.stands.exchanges.there x (found_lives s.limits x old.exchanges s.history s.settled.stands.exchanges (step_found _ _ st e)) in
      stay_less s.limits x old ex s.history k (still_of old.gates x k.plain st none (step_is s.limits x old.exchanges old.gates st s.history k e)) (changed_by s.limits x old.exchanges ex old.gates s.history k c)
      s.settled.stands.exchanges.sound sound

module _ (x from n : ℕ) (shifted : Shifted) (over rose : Bool) (old new : Flows) (ex : Exchanges) (b : Board) (holding : BTreeSet ℕ) where
  pub moves_all : IsSettled old → Some (step.Moved from n shifted over) ≡ option_map (next_step old.gates (target_of old.exchanges (request x))) (flow_at old.exchanges (request x))
      → ChangesFlow (request x) (stepped old.gates (target_of old.exchanges (request x))) old.exchanges ex → AreSoundExchanges ex
      → rose ≡ is_high shifted.to → RisesSend rose x old.gates b → (IsSoundBoard old.gates → IsSoundBoard b)
      → new ≡ record old { exchanges = ex; gates = b; holding = holding; conn = record old.conn { ready = new.conn.ready } }
      → ((y : ℕ) → get nat_cmp new.conn.ready y ≡ (if x == y then piece_at (record old { exchanges = ex; gates = b; holding = holding }) x else get nat_cmp old.conn.ready y))
      → ((y : ℕ) → contains nat_cmp holding y ≡ (not ((x == y) && (nat_lt n old.limits.quantum || is_emptied (record old { exchanges = ex }) x)) && contains nat_cmp old.holding y))
      → Steps x (outcome.Moved (record { n = n; rose = rose })) old new × (left_in new + 4 ≤ left_in old)
  moves_all settled e c sound is rise counted rest made left = (
    record {
      goes = λ limits h s.
          let k = s.stands.exchanges.there x (lives limits h s.stands.exchanges) in
          moves limits x n shifted rose old new ex b holding h s (lives limits h s.stands.exchanges) k (moved limits h k)
          (changed_by limits x old.exchanges ex old.gates h k c) sound is rise (counted s.stands.gates.sound) rest made left;
    },
    let s = settled.settled.stands.exchanges in
        let k = s.there x (lives settled.limits settled.history s) in
        move_less settled.limits x n shifted rose old new ex b holding settled.history k (moved settled.limits settled.history k)
        (changed_by settled.limits x old.exchanges ex old.gates settled.history k c) s.sound sound rise rest,
  )
    where
      lives : (limits : PlainLimits) (h : Past) → ExchangesAre limits old.exchanges h → Alive h x
      lives limits h s = found_lives limits x old.exchanges h s (step_found _ _ (step.Moved from n shifted over) e)

      moved : (limits : PlainLimits) (h : Past) (k : StreamIs limits x h (exchange_at old.exchanges x)) → IsMove old.gates x k.plain n shifted
      moved limits h k = is_move old.gates x k.plain from n shifted over (step_is limits x old.exchanges old.gates (step.Moved from n shifted over) h k e)

-- where octets moved, the send buffer may be marked
pub high_allowed : (x from n : ℕ) (shifted : Shifted) (over : Bool) (old : Flows) → IsSettled old
    → Some (step.Moved from n shifted over) ≡ option_map (next_step old.gates (target_of old.exchanges (request x))) (flow_at old.exchanges (request x))
    → (is_known old.gates (buffer.Send (request x)) ≡ true) × (is_marked old.gates (buffer.Send (request x)) ≡ false)
high_allowed x from n shifted over old s e =
    let h = s.history in
    let lives = found_lives s.limits x old.exchanges h s.settled.stands.exchanges (step_found _ _ (step.Moved from n shifted over) e) in
    let k = s.settled.stands.exchanges.there x lives in (
      s.settled.stands.gates.send_known x ∙ lives,
      (may_go old.gates x k.plain n shifted (is_move old.gates x k.plain from n shifted over (step_is s.limits x old.exchanges old.gates (step.Moved from n shifted over) h k e))).send_low,
    )
