-- What the flows are after a frame.
use Rattle.h2_frames.specs.Head.{data_head}
use Rattle.exchange_core.proofs.Outcomes.{at_found, from_found}
use Rattle.exchange_core.specs.Changes.{ChangesFlow}
use Rattle.exchange_core.specs.Effects.{body_framed}
use Rattle.exchange_core.specs.Exchange.{flow_changed, flow_in}
use Rattle.exchange_core.specs.Exchanges.{Exchanges, IsSound as AreSoundExchanges, exchange_at, flow_at, is_send_above}
use Rattle.exchange_core.specs.Flow.{Flow, send as send_of}
use Rattle.exchange_core.specs.Plain.{Plain, plain_exchange, plain_flow, plain_framed}
use Rattle.exchange_core.specs.declared.exchange.Exchange.{Exchange}
use Rattle.flow_gate.specs.Board.{Board, IsSound as IsSoundBoard, count as count_on, is_known, is_marked, pending_on, times, watchers_of}
use Rattle.flow_rules.specs.declared.ids.BufferId.{BufferId}
use Rattle.flow_rules.specs.declared.ids.FlowId.{FlowId}
use Rattle.plain_laws.proofs.Changes.{frame_end_framed, frame_ended, frame_framed_last, frame_high, frame_keeps, frame_keeps_lists, frame_out, frame_recv, frame_send, frame_write_high, frame_write_lows}
use Rattle.plain_laws.proofs.Counting.{one_if}
use Rattle.plain_laws.proofs.Counts.{frame_count}
use Rattle.plain_laws.proofs.Own.{send_frame}
use Rattle.plain_laws.proofs.Rotation.{IsBodyUnit, body_unit, next_is_unit}
use Rattle.plain_laws.proofs.Streams.{by_case, own_or_other, same_number}
use Rattle.plain_laws.specs.Keeping.{KeepsLists}
use Rattle.plain_laws.specs.Settled.{Settled as IsSettledHistory}
use Rattle.std.proofs.Math.Bool.{and-false, and-true}
use Rattle.std.proofs.Math.Bool.{or_comm}
use Rattle.std.proofs.Common.{ap, arith, refl, subst, sym, ◌∙◌}
use Rattle.std.proofs.lemmas.List.{append-nil}
use Rattle.std.specs.BTreeMap.{get}
use Rattle.std.specs.Option.{option_and_then, option_map_or}
use Rattle.std.specs.Ordering.{nat_cmp}
use Rattle.std.specs.Prelude.{Bool, IfSome, List, Option, Some, [], drop, false, if◌then◌else◌, length, min, nat_lt, not, option_map, take, true, ℕ, ◌&&◌, ◌*◌, ◌++◌, ◌+◌, ◌-◌, ◌<◌, ◌==◌, ◌^◌, ◌||◌, ◌∷◌, ◌≡◌, ◌≤◌}
use Rattle.plain_laws.specs.Words.{Past, Alive, conn_high, conn_out, conn_rises, end_out, frame_of, past_frame, recv_at, send_at, send_drains, send_high}
use Rattle.tape_laws.specs.Dispatches.{live}
use Rattle.flow_rules.specs.declared.unit.Unit.TheVariants.{Body as BodyUnit}
use Rattle.tape_laws.specs.Flows.{request}
use Rattle.tape_laws.specs.History.{NoMark, Step}
use Rattle.tape_laws.specs.Plain.{plain_ended}
use Rattle.tape_laws.specs.declared.PlainLimits.{PlainLimits}
use Rattle.wm_buffer.specs.Buffer.{AppendsOctets, Buffer}
use Rattle.wm_buffer.specs.Watermark.{above_after, crossing}
use Rattle.wm_buffer.specs.declared.buffer.Shifted.{Shifted}
use Rattle.wm_buffer.specs.declared.watermark.Crossed.{Crossed}
use Rattle.wm_buffer.specs.declared.watermark.Crossed.TheVariants as crossed
use Rattle.plain_core.specs.Carries.{Frames, FramesAt, IsNextFrame, NextIs}
use Rattle.plain_core.specs.Flows.{ConnectionIs, ExchangesAre, GatesAre, IsSettled, Settled, StreamIs}
use Rattle.plain_core.specs.UnitsOf.{piece_at}
use Rattle.plain_core.specs.declared.conn.Connection.{Connection}
use Rattle.plain_core.specs.declared.flows.Flows.{Flows}
use Rattle.plain_core.specs.declared.flows.Framed.{Framed}
use Rattle.flow_rules.specs.declared.ids.BufferId.TheVariants as buffer
use Rattle.plain_core.proofs.FlowSteps.{high_of}
use Rattle.plain_core.proofs.FlowStreams.{changed_exchanges, changed_plain}
use Rattle.plain_core.proofs.FlowUnits.{refreshed}
use Rattle.plain_core.proofs.FlowGates.{CountsAre, KeepsNames, gates_from}
use Rattle.plain_core.proofs.FlowHolds.{holding_kept}
use Rattle.plain_core.proofs.FlowParts.{WriteIs}
use Rattle.plain_laws.proofs.Flags.{no_rise, send_now}
use Rattle.plain_laws.proofs.Own.{out_frame}
use Rattle.plain_laws.proofs.Tellings.{told_all}
use Rattle.std.proofs.Common.{length-drop}
use Rattle.std.proofs.lemmas.Bool.Decides.{nat_tests}
use Rattle.plain_core.proofs.FlowLeaves.{flag_same}
use Rattle.plain_core.proofs.FlowMeasure.{ahead_changes}
use Rattle.plain_core.specs.Measure.{ahead, left_in, way}
use Rattle.plain_core.proofs.Tellings.{times_one}
use Rattle.plain_core.specs.Crossings.{DrainsIf, MarksCrossed, RisesIf, is_high, is_low}

-- ---- what each half does to the board
rise_names : (rose : Bool) (old new : Board) → RisesIf rose old new → KeepsNames old new
rise_names true old new c = record { flows = c.flows; buffers = c.buffers; watchers = c.watchers }
rise_names false old new c = record { flows = λ f. cc; buffers = λ d. cc; watchers = λ d. cc }

drain_names : (drained : Bool) (f : FlowId) (old new : Board) → DrainsIf drained f old new → KeepsNames old new
drain_names true f old new c = record {
  flows = λ g. c.tells.flows g ∙ c.drains.flows g;
  buffers = λ d. c.tells.buffers d ∙ c.drains.buffers d;
  watchers = λ d. c.tells.watchers d ∙ c.drains.watchers d;
}
drain_names false f old new c = record { flows = λ g. cc; buffers = λ d. cc; watchers = λ d. cc }

more_names : (a b c : Board) → KeepsNames a b → KeepsNames b c → KeepsNames a c
more_names a b c k l = record { flows = λ f. l.flows f ∙ k.flows f; buffers = λ d. l.buffers d ∙ k.buffers d; watchers = λ d. l.watchers d ∙ k.watchers d }

rise_count : (rose : Bool) (f : FlowId) (old new : Board) → RisesIf rose old new → times f (watchers_of old (buffer.Write 0)) ≡ 1 → count_on new f ≡ count_on old f + one_if rose
rise_count true f old new c e = cc (c.counts f)
rise_count false f old new c e = rw c (omega arith)

rise_write : (rose : Bool) (old new : Board) → RisesIf rose old new → is_marked old (buffer.Write 0) ≡ false → is_marked new (buffer.Write 0) ≡ rose
rise_write true old new c low = c.marks (buffer.Write 0)
rise_write false old new c low = cc low

rise_send : (rose : Bool) (f : FlowId) (old new : Board) → RisesIf rose old new → is_marked new (buffer.Send f) ≡ is_marked old (buffer.Send f)
rise_send true f old new c = c.marks (buffer.Send f)
rise_send false f old new c = cc

rise_pending : (rose : Bool) (d : BufferId) (old new : Board) → RisesIf rose old new → pending_on new d ≡ pending_on old d
rise_pending true d old new c = c.pending d
rise_pending false d old new c = cc

drain_count : (drained : Bool) (x y : ℕ) (old new : Board) → DrainsIf drained (request x) old new → count_on new (request y) + one_if ((x == y) && drained) ≡ count_on old (request y)
drain_count true x y old new c = ap (λ k. count_on new (request y) + k) (cc (and-true (x == y), times_one x y)) ∙ (c.tells.counts (request y) ∙ c.drains.counts (request y))
drain_count false x y old new c = rw (c, and-false (x == y)) (omega arith)

drain_write : (drained : Bool) (f : FlowId) (old new : Board) → DrainsIf drained f old new → is_marked new (buffer.Write 0) ≡ is_marked old (buffer.Write 0)
drain_write true f old new c = c.tells.marks (buffer.Write 0) ∙ c.drains.marks (buffer.Write 0)
drain_write false f old new c = cc

drain_write_pending : (drained : Bool) (f : FlowId) (old new : Board) → DrainsIf drained f old new → pending_on new (buffer.Write 0) ≡ pending_on old (buffer.Write 0)
drain_write_pending true f old new c = sym (c.tells.pending (buffer.Write 0)) ∙ (c.drains.pending (buffer.Write 0) ∙ append-nil _)
drain_write_pending false f old new c = cc

drain_own : (drained : Bool) (x : ℕ) (old new : Board) → DrainsIf drained (request x) old new → is_marked new (buffer.Send (request x)) ≡ (not drained && is_marked old (buffer.Send (request x)))
drain_own true x old new c =
    cc (c.tells.marks (buffer.Send (request x)), c.drains.marks (buffer.Send (request x)), same_number x)
drain_own false x old new c = cc

drain_other : (drained : Bool) (x y : ℕ) (old new : Board) → DrainsIf drained (request x) old new → (x == y) ≡ false → is_marked new (buffer.Send (request y)) ≡ is_marked old (buffer.Send (request y))
drain_other true x y old new c d =
    cc (c.tells.marks (buffer.Send (request y)), c.drains.marks (buffer.Send (request y)))
drain_other false x y old new c d = cc

drain_pending : (drained : Bool) (x y : ℕ) (old new : Board) → DrainsIf drained (request x) old new → watchers_of old (buffer.Send (request x)) ≡ request x ∷ []
    → pending_on old (buffer.Send (request y)) ≡ [] → pending_on new (buffer.Send (request y)) ≡ []
drain_pending false x y old new c w none = cc none
drain_pending true x y old new c w none = pick (x == y) _ _ _
    (sym (c.tells.pending (buffer.Send (request y))) ∙ (c.drains.pending (buffer.Send (request y))
    ∙ (ap (λ (fs : List FlowId). fs ++ (if (x == y) && true then watchers_of old (buffer.Send (request x)) else [])) none ∙ ap (λ (fs : List FlowId). if (x == y) && true then fs else []) w))) refl
  where
    pick : (b : Bool) (p q : List FlowId) (f : FlowId) → (if b && true then f ∷ [] else []) ++ p ≡ q → q ≡ (if b && true then f ∷ [] else []) → p ≡ []
    pick true p q f e r = cc
    pick false p q f e r = e ∙ r

module _ (limits : PlainLimits) (x n : ℕ) (last : Bool) (h : Past) where
  abbrev after : Past
  after = past_frame limits x n last h

  abbrev framing : Step NoMark
  framing = frame_of x n last

  abbrev sent : Bool
  sent = above_after limits.send (send_high limits x h) (length (drop n (send_at limits x h)))

  abbrev written : Bool
  written = above_after limits.write (conn_high limits h) (length (conn_out limits h ++ (data_head x n last ++ take n (send_at limits x h))))

  abbrev rises : Bool
  rises = conn_rises limits framing h

  abbrev drains : Bool
  drains = send_drains limits x framing h

  pub rises_is : rises ≡ (not (conn_high limits h) && written)
  rises_is = cc (out_frame limits x n last h)

  pub drains_is : drains ≡ (send_high limits x h && not sent)
  drains_is = cc (send_frame limits x n last h)

  sent_flag : (p : Plain) → p.limit ≡ limits.send → p.above ≡ send_high limits x h → p.send ≡ send_at limits x h → (plain_framed n last p).above ≡ sent
  sent_flag p el ea es = flag_same _ _ _ _ _ _ el ea (cc)

  framed_stream : (found : Option Exchange) → (s : StreamIs limits x h found) → StreamIs limits x after (option_map (flow_changed (body_framed n last) false) found)
  framed_stream found s = record {
    plain = plain_framed n last s.plain;
    is = changed_plain x (body_framed n last) found s.plain (plain_framed n last s.plain) s.is refl;
    window = s.window;
    limit = s.limit;
    quantum = s.quantum;
    started = s.started;
    recv = s.recv ∙ sym (frame_recv limits x n last h);
    send = cc (frame_send limits x n last h);
    above = sent_flag s.plain s.limit s.above s.send ∙ sym (frame_high limits x n last h);
    ended = s.ended ∙ sym (frame_ended limits x n last h x);
    end_framed = ap (λ b. b || last) s.end_framed ∙ (or_comm _ last ∙ sym (frame_end_framed limits x n last h));
  }

  own_flag : (drained : Bool) → drained ≡ drains → (not drained && send_high limits x h) ≡ sent
  own_flag drained e = pick drained (send_high limits x h) sent refl (e ∙ drains_is)
      (no_rise limits.send _ (length (send_at limits x h)) _ (send_now limits (request x) h) (shorter n (send_at limits x h)))
    where
      shorter : (n : ℕ) (o : List ℕ) → length (drop n o) ≤ length o
      shorter n o = omega (arith, length-drop n o)

      pick : (d a s : Bool) → send_high limits x h ≡ a → d ≡ (a && not s) → (send_high limits x h ≡ false → s ≡ false) → (not d && a) ≡ s
      pick true true true i e f = cc
      pick true true false i e f = refl
      pick true false s i e f = absurd (cc)
      pick false true true i e f = refl
      pick false true false i e f = absurd (cc)
      pick false false s i e f = sym (f i)

  framed_counts : (rose drained : Bool) (old mid new : Board) → IsSettledHistory limits h → GatesAre limits old h → Alive h x → conn_high limits h ≡ false
      → RisesIf rose old mid → DrainsIf drained (request x) mid new → rose ≡ rises → drained ≡ drains → CountsAre limits new after
  framed_counts rose drained old mid new s g is low r d er ed = record {
    counts = λ y l. let was = sym (cc lists.lives) ∙ l in
        sums _ _ _ _ _ _ _ _ _ (drain_count drained x y mid new d) (rise_count rose (request y) old mid r (once y was)) (g.counts y was) (frame_count limits x y n last h s is was)
        (cc) (cc);
    write_mark = cc (drain_write drained (request x) mid new d, rise_write rose old mid r (g.write_mark ∙ low), rises_is, low, frame_write_high limits x n last h);
    write_pending = drain_write_pending drained (request x) mid new d ∙ (rise_pending rose (buffer.Write 0) old mid r ∙ (g.write_pending ∙ sym (frame_write_lows limits x n last h)));
    send_mark = λ y. own_or_other (λ v. is_marked new (buffer.Send (request v)) ≡ send_high limits v after) x y
        (cc (drain_own drained x mid new d, rise_send rose (request x) old mid r, g.send_mark x, own_flag drained ed, frame_high limits x n last h))
        (λ e. drain_other drained x y mid new d e ∙ (rise_send rose (request y) old mid r ∙ (g.send_mark y ∙ sym (frame_keeps limits x n last h y e).high)));
    send_pending = λ y. drain_pending drained x y mid new d (cc ((rise_names rose old mid r).watchers (buffer.Send (request x)), g.send_watchers x))
        (rise_pending rose (buffer.Send (request y)) old mid r ∙ g.send_pending y);
  }
    where
      lists : KeepsLists h after
      lists = frame_keeps_lists limits x n last h

      once : (y : ℕ) → Alive h y → times (request y) (watchers_of old (buffer.Write 0)) ≡ 1
      once y e = ap (times (request y)) g.write_watchers ∙ (told_all (live h) y s.regular.books.rising ∙ ap one_if e)

      sums : (cn dk cm co rk ch ch' dk' rk' : ℕ) → cn + dk ≡ cm → cm ≡ co + rk → co ≡ ch → ch' + dk' ≡ rk' + ch → rk ≡ rk' → dk ≡ dk' → cn ≡ ch'
      sums cn dk cm co rk ch ch' dk' rk' e1 e2 e3 e4 e5 e6 = omega (arith, e1, e2, e3, e4, e5, e6)

  written_flag : (conn : Connection) (w : Buffer) (octets : List ℕ) → ConnectionIs limits conn h → AppendsOctets conn.write w (data_head x n last ++ take n octets) → octets ≡ send_at limits x h → w.above ≡ written
  written_flag conn w octets c a e = a.above ∙ flag_same _ _ _ _ _ _ c.limit c.above (cc)

  framed_conn : (old : Connection) (w : Buffer) (octets : List ℕ) → ConnectionIs limits old h → AppendsOctets old.write w (data_head x n last ++ take n octets) → octets ≡ send_at limits x h
      → WriteIs limits (record old { write = w; framed_last = x }) after
  framed_conn old w octets c a e = record {
    limit = a.limit ∙ c.limit;
    octets = cc (frame_out limits x n last h);
    above = written_flag old w octets c a e ∙ sym (frame_write_high limits x n last h);
    framed_last = sym (frame_framed_last limits x n last h);
  }

low_of : (a b : Bool) → is_low (crossing a b) ≡ (a && not b)
low_of true true = refl
low_of true false = refl
low_of false true = refl
low_of false false = refl

module _ (limits : PlainLimits) (x n : ℕ) (last : Bool) where
  pub frame_rises : (old : Connection) (w : Buffer) (octets : List ℕ) (to : Crossed) (h : Past) → ConnectionIs limits old h
      → AppendsOctets old.write w (data_head x n last ++ take n octets) → octets ≡ send_at limits x h → to ≡ crossing old.write.above w.above
      → is_high to ≡ conn_rises limits (frame_of x n last) h
  frame_rises old w octets to h c a e is =
      cc (high_of old.write.above w.above, written_flag limits x n last h old w octets c a e, rises_is limits x n last h)

  pub frame_drains : (p : Plain) (from : Crossed) (h : Past) → p.limit ≡ limits.send → p.above ≡ send_high limits x h
      → p.send ≡ send_at limits x h → from ≡ crossing p.above (plain_framed n last p).above
      → is_low from ≡ send_drains limits x (frame_of x n last) h
  frame_drains p from h el ea es is =
      cc (low_of p.above (plain_framed n last p).above, sent_flag limits x n last h p el ea es, drains_is limits x n last h)

  -- ---- the frame that goes next
  pub next_unit_is : (h : Past) → NextIs (record { exchange = x; n = n; last = last }) limits h
      → IsBodyUnit limits.quantum (plain_ended x h) (end_out limits x h) (length (recv_at limits x h)) (length (send_at limits x h)) n last
  next_unit_is h next =
      body_unit _ _ _ n _ _ last (next_is_unit limits (request x) (BodyUnit n last) h next.turn)

module _ (flows : Flows) (x n : ℕ) (last : Bool) where
  pub next_octets : IsSettled flows → IsNextFrame flows (Some (record { exchange = x; n = n; last = last }))
      → IfSome (flow_at flows.exchanges (request x)) (λ f. n ≤ length (send_of f))
  next_octets s next =
      let is = next.goes s.limits s.history s.settled in
      let k = s.settled.stands.exchanges.there x is.live in
      from_found (λ (f : Flow). n ≤ length (send_of f)) (flow_at flows.exchanges (request x)) (plain_flow x k.plain) (cc)
      (few _ _ _ _ (next_unit_is s.limits x n last s.history is).all (cc))
    where
      few : (n q l m : ℕ) → n ≡ min q l → m ≡ l → n ≤ m
      few n q l m e f = omega (arith, e, f)

  pub next_small : IsSettled flows → IsNextFrame flows (Some (record { exchange = x; n = n; last = last })) → x < 2 ^ 32
  next_small s next =
      let is = next.goes s.limits s.history s.settled in
      let e = s.settled.stands.exchanges in
      below x flows.exchanges.last (e.sound.below x (rw (e.there x is.live).is refl)) e.small
    where
      below : (a b : ℕ) → a ≤ b → b < 2 ^ 32 → a < 2 ^ 32
      below a b l m = omega (arith, l, m)

send_above_is : (x : ℕ) (ex : Exchanges) (p : Plain) → exchange_at ex x ≡ Some (plain_exchange x p) → is_send_above ex (request x) ≡ p.above
send_above_is x ex p is = cc

pub frames_at : (limits : PlainLimits) (x n : ℕ) (last rose drained : Bool) (shifted : Shifted) (old new : Flows) (ex : Exchanges) (w : Buffer) (mid b : Board) (h : Past) → Settled limits old h
    → NextIs (record { exchange = x; n = n; last = last }) limits h → (s : StreamIs limits x h (exchange_at old.exchanges x))
    → ChangesFlow (request x) (body_framed n last) old.exchanges ex → AreSoundExchanges ex → AppendsOctets old.conn.write w (data_head x n last ++ take n s.plain.send)
    → rose ≡ is_high shifted.to → drained ≡ is_low shifted.from → shifted.to ≡ crossing old.conn.write.above w.above
    → shifted.from ≡ crossing (is_send_above old.exchanges (request x)) (is_send_above ex (request x)) → RisesIf rose old.gates mid → DrainsIf drained (request x) mid b → IsSoundBoard b
    → new ≡ record old { exchanges = ex; gates = b; conn = record { write = w; framed_last = x; ready = new.conn.ready } }
    → ((y : ℕ) → get nat_cmp new.conn.ready y ≡ (if x == y then piece_at (record old { exchanges = ex }) x else get nat_cmp old.conn.ready y))
    → FramesAt (record { exchange = x; n = n; last = last }) (record { rose = rose; drained = drained }) limits new h
unfolding framed_stream
frames_at limits x n last rose drained shifted old new ex w mid b h settled next s c sound appends er ed to from rise drain counted rest made =
    let st = settled.stands in
    let h' = past_frame limits x n last h in
    let lists = frame_keeps_lists limits x n last h in
    let is = next.live in
    let own = framed_stream limits x n last h (exchange_at old.exchanges x) s in
    let now : exchange_at ex x ≡ Some (plain_exchange x (plain_framed n last s.plain)) =
    c.flow.live x ∙ (ap (λ v. if v then option_map (flow_changed (body_framed n last) false) (exchange_at old.exchanges x) else exchange_at old.exchanges x) (same_number x) ∙ own.is) in
    let rises = er ∙ frame_rises limits x n last old.conn w s.plain.send shifted.to h st.conn appends s.send to in
    let drains = ed ∙ frame_drains limits x n last s.plain shifted.from h s.limit s.above s.send
    (cc (send_above_is x old.exchanges s.plain s.is, send_above_is x ex (plain_framed n last s.plain) now)) in
    let all = changed_exchanges limits x (body_framed n last) old.exchanges ex h h' st.exchanges c sound (record { lives = lists.lives; begun = lists.begun; doomed = lists.doomed })
    (λ y d. frame_keeps limits x n last h y d) own in
    record {
      rises = rises;
      drains = drains;
      stands = record {
        limits_are = cc;
        ranges = st.ranges;
        exchanges = subst (λ (v : Exchanges). ExchangesAre limits v h') (cc) all;
        gates = subst (λ (v : Board). GatesAre limits v h') (cc)
            (gates_from limits old.gates b h h' st.gates counted (more_names old.gates mid b (rise_names rose old.gates mid rise) (drain_names drained (request x) mid b drain)) lists.lives
            (framed_counts limits x n last h rose drained old.gates mid b settled.lawful st.gates is next.low rise drain rises drains));
        conn = let w' = framed_conn limits x n last h old.conn w s.plain.send st.conn appends s.send in
            record {
              limit = ap (λ (f : Flows). f.conn.write.limit) rest ∙ w'.limit;
              octets = ap (λ (f : Flows). f.conn.write.octets) rest ∙ w'.octets;
              above = ap (λ (f : Flows). f.conn.write.above) rest ∙ w'.above;
              framed_last = ap (λ (f : Flows). f.conn.framed_last) rest ∙ w'.framed_last;
              ready = refreshed limits (record old { exchanges = ex }) x h h' (get nat_cmp old.conn.ready) (get nat_cmp new.conn.ready) st.limits_are
                  (all.there x (cc lists.lives)) is lists.lives (λ y d. frame_keeps limits x n last h y d) made st.conn.ready;
            };
        holding = rw (ap (λ (f : Flows). f.holding) rest) (holding_kept limits old.holding h h' st.holding lists.lives (λ y. own_or_other (λ v. recv_at limits v h' ≡ recv_at limits v h) x y
            (frame_recv limits x n last h) (λ d. (frame_keeps limits x n last h y d).recv)));
      };
    }

-- ---- what may be marked
pub rise_allowed : (flows : Flows) (w : Bool) → IsSettled flows → crossed.High ≡ crossing flows.conn.write.above w → (is_known flows.gates (buffer.Write 0) ≡ true) × (is_marked flows.gates (buffer.Write 0) ≡ false)
rise_allowed flows w s e =
    let st = s.settled.stands in
    (st.gates.write_known, st.gates.write_mark ∙ (sym st.conn.above ∙ low flows.conn.write.above w e))
  where
    low : (a b : Bool) → crossed.High ≡ crossing a b → a ≡ false
    low false b e = refl
    low true true e = cc
    low true false e = cc

pub drain_allowed : (flows : Flows) (x n : ℕ) (last v : Bool) → IsSettled flows → IsNextFrame flows (Some (record { exchange = x; n = n; last = last }))
    → crossed.Low ≡ crossing (is_send_above flows.exchanges (request x)) v → (is_marked flows.gates (buffer.Send (request x)) ≡ true) × (pending_on flows.gates (buffer.Send (request x)) ≡ []) × (watchers_of flows.gates (buffer.Send (request x)) ≡ request x ∷ [])
drain_allowed flows x n last v s next e =
    let is = next.goes s.limits s.history s.settled in
    let st = s.settled.stands in
    let k = st.exchanges.there x is.live in
    (st.gates.send_mark x ∙ (sym k.above ∙ (sym (send_above_is x flows.exchanges k.plain k.is) ∙ high _ v e)), st.gates.send_pending x, st.gates.send_watchers x ∙ ap (λ b. if b then request x ∷ [] else []) is.live)
  where
    high : (a b : Bool) → crossed.Low ≡ crossing a b → a ≡ true
    high true b e = refl
    high false true e = cc
    high false false e = cc

-- ---- how much less is to do
ways_less : (a b r s d n : ℕ) (framed last : Bool) → a + (9 * r + (5 * s + (if framed then 0 else 7))) ≡ b + (9 * r + (5 * d + (if framed || last then 0 else 7))) → d ≡ s - n → n ≤ s
    → (last ≡ true → framed ≡ false) → (last ≡ false → 0 < n) → a + (if last then 7 else 5) ≤ b
ways_less a b r s d n true true e1 e2 l f g = let h = f refl in absurd (cc)
ways_less a b r s d n false true e1 e2 l f g = omega (arith, e1, e2, l)
ways_less a b r s d n true false e1 e2 l f g = let p = g refl in omega (arith, e1, e2, l, p)
ways_less a b r s d n false false e1 e2 l f g = let p = g refl in omega (arith, e1, e2, l, p)

pub frames_all : (x n : ℕ) (last : Bool) (framed : Framed) (shifted : Shifted) (old between new : Flows) (ex : Exchanges) (w : Buffer) (head : List ℕ) → head ≡ data_head x n last
    → ChangesFlow (request x) (body_framed n last) old.exchanges ex → AreSoundExchanges ex → IfSome (flow_at old.exchanges (request x)) (λ f. AppendsOctets old.conn.write w (head ++ take n (send_of f)))
    → shifted.to ≡ crossing old.conn.write.above w.above → shifted.from ≡ crossing (is_send_above old.exchanges (request x)) (is_send_above ex (request x))
    → MarksCrossed (request x) shifted old.gates framed new.gates → (IsSoundBoard old.gates → IsSoundBoard new.gates)
    → between ≡ record old { exchanges = ex; conn = record { write = w; framed_last = x; ready = between.conn.ready } }
    → ((y : ℕ) → get nat_cmp between.conn.ready y ≡ (if x == y then piece_at (record old { exchanges = ex }) x else get nat_cmp old.conn.ready y))
    → new ≡ record between { gates = new.gates } → Frames (record { exchange = x; n = n; last = last }) framed old new
frames_all x n last framed shifted old between new ex w head is c sound appends to from marks counted rest made kept = record {
  goes = λ limits h s next.
      let k = s.stands.exchanges.there x next.live in
      let found = at_found (λ (f : Flow). AppendsOctets old.conn.write w (head ++ take n (send_of f))) (flow_at old.exchanges (request x)) (plain_flow x k.plain) (ap (option_and_then (flow_in false)) k.is) appends in
      let same = ap (λ (f : Flows). f.conn.ready) kept in
      let all = kept ∙ (ap (λ (f : Flows). record f { gates = new.gates }) rest
      ∙ ap (λ r. record old { exchanges = ex; gates = new.gates; conn = record { write = w; framed_last = x; ready = r } }) (sym same)) in
      frames_at limits x n last framed.rose framed.drained shifted old new ex w marks.between new.gates h s next k c sound
      (subst (λ (v : List ℕ). AppendsOctets old.conn.write w (v ++ take n k.plain.send)) is found) marks.rose marks.drained to from marks.rises marks.drains (counted s.stands.gates.sound) all
      (λ y. ap (λ r. get nat_cmp r y) same ∙ made y);
}

-- the end was not framed before, and a frame without it has octets
end_new : (limits : PlainLimits) (x n : ℕ) (last : Bool) (h : Past) → IsSettledHistory limits h → Alive h x
    → IsBodyUnit limits.quantum (plain_ended x h) (end_out limits x h) (length (recv_at limits x h)) (length (send_at limits x h)) n last
    → end_out limits x h ≡ false
end_new limits x n last h s is u = by_case (end_out limits x h)
    (λ t. absurd (none n limits.quantum (length (send_at limits x h)) u.all (cc (((s.regular.books.each x is).over t).1)) (u.again t)))
    (λ f. f)
  where
    none : (n q l : ℕ) → n ≡ min q l → l ≡ 0 → 0 < n → ⊥
    none n q l e z p = omega (arith, e, z, p)

pub frame_less : (x n : ℕ) (last : Bool) (framed : Framed) (shifted : Shifted) (old new : Flows) (ex : Exchanges) → IsSettled old → IsNextFrame old (Some (record { exchange = x; n = n; last = last }))
    → ChangesFlow (request x) (body_framed n last) old.exchanges ex → AreSoundExchanges ex → new.exchanges ≡ ex → MarksCrossed (request x) shifted old.gates framed new.gates
    → left_in new + (if last then 7 else 5) ≤ left_in old
frame_less x n last framed shifted old new ex settled next c sound same marks =
    let limits = settled.limits in
    let h = settled.history in
    let st = settled.settled.stands in
    let is = next.goes limits h settled.settled in
    let k = st.exchanges.there x is.live in
    let u = next_unit_is limits x n last h is in
    let fresh = end_new limits x n last h settled.settled.lawful is.live u in
    let o = option_map (flow_changed (body_framed n last) false) (exchange_at old.exchanges x) in
    let now = changed_plain x (body_framed n last) (exchange_at old.exchanges x) k.plain (plain_framed n last k.plain) k.is refl in
    let sums = ap (λ v. ahead (record old { exchanges = ex }) + v) (sym (ap (λ (v : Option Exchange). option_map_or way v 0) k.is))
    ∙ (ahead_changes x o old.exchanges ex st.exchanges.sound sound c.flow.live ∙ ap (λ v. ahead old + v) (ap (λ (v : Option Exchange). option_map_or way v 0) now)) in
    let pending = drain_write_pending framed.drained (request x) marks.between new.gates marks.drains ∙ rise_pending framed.rose (buffer.Write 0) old.gates marks.between marks.rises in
    let ways = ways_less (ahead (record old { exchanges = ex })) (ahead old) (length k.plain.recv) (length k.plain.send) (length (drop n k.plain.send)) n k.plain.end_framed last sums
    (length-drop n k.plain.send) (few _ _ _ _ u.all (cc)) (λ e. k.end_framed ∙ fresh) (some n last u.some) in
    whole (ahead new) (ahead (record old { exchanges = ex })) (ahead old) _ _ _ (cc) (cc) ways
  where
    few : (n q l m : ℕ) → n ≡ min q l → m ≡ l → n ≤ m
    few n q l m e f = omega (arith, e, f)

    some : (n : ℕ) (last : Bool) → (nat_lt 0 n || last) ≡ true → last ≡ false → 0 < n
    some n last e f = grind (arith, nat_tests)

    whole : (a a' b u u' k : ℕ) → a ≡ a' → u ≡ u' → a' + k ≤ b → (a + 4 * u) + k ≤ b + 4 * u'
    whole a a' b u u' k e f l = omega (arith, e, f, l)
