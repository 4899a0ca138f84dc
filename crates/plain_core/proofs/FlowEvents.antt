-- What the flows are after octets arrived, or an end came.
use Rattle.exchange_core.proofs.Outcomes.{at_found}
use Rattle.exchange_core.specs.Changes.{ChangesFlow}
use Rattle.exchange_core.specs.Effects.{arrived, finished}
use Rattle.exchange_core.specs.Exchange.{flow_changed}
use Rattle.exchange_core.specs.Exchanges.{Exchanges, IsSound as AreSoundExchanges, exchange_at, flow_at}
use Rattle.exchange_core.specs.Flow.{Flow}
use Rattle.exchange_core.specs.Plain.{plain_arrived, plain_finished, plain_flow}
use Rattle.exchange_core.specs.declared.exchange.Exchange.{Exchange}
use Rattle.plain_laws.proofs.EventChanges.{body_high, body_keeps, body_keeps_write, body_recv, body_send}
use Rattle.plain_laws.proofs.Flags.{send_same}
use Rattle.plain_laws.proofs.Keepings.{turn_keeps, turn_keeps_write}
use Rattle.plain_laws.proofs.Streams.{own_or_other, same_number}
use Rattle.plain_laws.specs.Keeping.{KeepsStream}
use Rattle.plain_laws.specs.Next.{unit_of}
use Rattle.std.proofs.Common.{ap, refl, subst, sym, ◌∙◌}
use Rattle.std.specs.BTreeMap.{get}
use Rattle.std.specs.BTreeSet.{BTreeSet, contains}
use Rattle.std.specs.Ordering.{nat_cmp}
use Rattle.std.specs.Prelude.{Bool, List, None, Option, false, if◌then◌else◌, length, nat_lt, option_map, ℕ, ◌&&◌, ◌==◌, ◌||◌, ◌∷◌, ◌≡◌}
use Rattle.plain_laws.specs.Words.{Past, Alive, end_out, past_body, send_high, turn_of}
use Rattle.tape_laws.specs.Flows.{request}
use Rattle.tape_laws.specs.History.{NoMark, Step}
use Rattle.tape_laws.specs.Plain.{plain_ended}
use Rattle.tape_laws.specs.declared.PlainLimits.{PlainLimits}
use Rattle.plain_core.specs.Carries.{GoesOn}
use Rattle.plain_core.specs.Flows.{ExchangesAre, FlowsStand, Settled, StreamIs, next_piece, piece_of}
use Rattle.plain_core.specs.UnitsOf.{piece_at}
use Rattle.plain_core.specs.declared.flows.Flows.{Flows}
use Rattle.flow_notes.specs.declared.events.PlainEvent.TheVariants as plain
use Rattle.plain_core.proofs.FlowStreams.{changed_exchanges, changed_plain}
use Rattle.plain_core.proofs.FlowGates.{gates_kept}
use Rattle.plain_core.proofs.FlowHolds.{holding_arrived, holding_kept}
use Rattle.plain_core.proofs.FlowParts.{conn_kept, refreshed_conn}
use Rattle.plain_core.proofs.FlowUnits.{keeps_piece}

-- ---- octets arrive
unended : (q : ℕ) (ended framed : Bool) (r s r' s' : ℕ) → ended ≡ false → s' ≡ s → unit_of q ended framed r' s' ≡ unit_of q ended framed r s
unended q ended framed r s r' s' e f = rw (e, f) refl

pub goes_on : (limits : PlainLimits) (flows : Flows) (x : ℕ) (h : Past) → StreamIs limits x h (exchange_at flows.exchanges x) → GoesOn flows x → plain_ended x h ≡ false
goes_on limits flows x h s goes =
    sym s.ended ∙ at_found (λ (f : Flow). f.message.ended ≡ false) (flow_at flows.exchanges (request x)) (plain_flow x s.plain) (cc) goes

module _ (limits : PlainLimits) (k x : ℕ) where
  arrive_piece : (octets : List ℕ) (h : Past) → plain_ended x h ≡ false
      → next_piece limits x (past_body k x octets h) ≡ next_piece limits x h
  arrive_piece octets h goes =
      ap piece_of (unended limits.quantum (plain_ended x h) (end_out limits x h) _ _ _ _ goes (cc (body_send limits k x octets h)))

  pub arrives : (octets : List ℕ) (old : Flows) (ex : Exchanges) (holding : BTreeSet ℕ) (h : Past) → Settled limits old h → Alive h x → GoesOn old x
      → ChangesFlow (request x) (arrived octets) old.exchanges ex → AreSoundExchanges ex
      → ((y : ℕ) → contains nat_cmp holding y ≡ (((x == y) && nat_lt 0 (length octets)) || contains nat_cmp old.holding y))
      → FlowsStand limits (record old { exchanges = ex; holding = holding }) (past_body k x octets h)
  arrives octets old ex holding h settled is goes c sound made =
      let h' = past_body k x octets h in
      let st = settled.stands in
      let s = st.exchanges.there x is in
      record {
        limits_are = st.limits_are;
        ranges = st.ranges;
        exchanges = changed_exchanges limits x (arrived octets) old.exchanges ex h h' st.exchanges c sound (record { lives = refl; begun = refl; doomed = refl }) (λ y d. body_keeps limits k x y octets h d)
            (record {
              plain = plain_arrived octets s.plain;
              is = changed_plain x (arrived octets) (exchange_at old.exchanges x) s.plain (plain_arrived octets s.plain) s.is refl;
              window = s.window;
              limit = s.limit;
              quantum = s.quantum;
              started = s.started;
              recv = cc (body_recv limits k x octets h);
              send = s.send ∙ sym (body_send limits k x octets h);
              above = s.above ∙ sym (body_high limits k x octets h);
              ended = s.ended;
              end_framed = s.end_framed;
            });
        gates = gates_kept limits old.gates h h' st.gates (record {
          lives = refl;
          counts = λ y e. refl;
          write = (body_keeps_write limits k x octets h).high;
          lows = (body_keeps_write limits k x octets h).lows;
          sends = λ y. own_or_other (λ v. send_high limits v h' ≡ send_high limits v h) x y
              (body_high limits k x octets h) (λ d. (body_keeps limits k x y octets h d).high);
        });
        conn = conn_kept limits old.conn h h' st.conn (body_keeps_write limits k x octets h) refl refl
            (λ y e. own_or_other (λ v. next_piece limits v h' ≡ next_piece limits v h) x y
            (arrive_piece octets h (goes_on limits old x h s goes)) (λ d. keeps_piece limits y h h' (body_keeps limits k x y octets h d)));
        holding = holding_arrived limits k x octets old.holding holding h st.holding is made;
      }

  -- ---- the end of a stream comes
  end_keeps : (y : ℕ) (h : Past) → (x == y) ≡ false → KeepsStream limits y h (turn_of k (plain.Finish x) ∷ h)
  end_keeps y h d = turn_keeps limits y k (plain.Finish x) h (cc) refl

  ended_stream : (h : Past) (found : Option Exchange) → StreamIs limits x h found
      → StreamIs limits x (turn_of k (plain.Finish x) ∷ h) (option_map (flow_changed (finished None) false) found)
  ended_stream h found s = record {
    plain = plain_finished s.plain;
    is = changed_plain x (finished None) found s.plain (plain_finished s.plain) s.is refl;
    window = s.window;
    limit = s.limit;
    quantum = s.quantum;
    started = s.started;
    recv = s.recv;
    send = s.send;
    above = s.above ∙ sym (send_same limits (request x) (turn_of k (plain.Finish x)) h refl);
    ended = cc (same_number x);
    end_framed = s.end_framed;
  }

  pub ends : (old new : Flows) (ex : Exchanges) (h : Past) → Settled limits old h → Alive h x
      → ChangesFlow (request x) (finished None) old.exchanges ex → AreSoundExchanges ex
      → new ≡ record old { exchanges = ex; conn = record old.conn { ready = new.conn.ready } }
      → ((y : ℕ) → get nat_cmp new.conn.ready y ≡ (if x == y then piece_at (record old { exchanges = ex }) x else get nat_cmp old.conn.ready y))
      → FlowsStand limits new (turn_of k (plain.Finish x) ∷ h)
  ends old new ex h settled is c sound rest made =
      let turn : Step NoMark = turn_of k (plain.Finish x) in
      let st = settled.stands in
      let own = ended_stream h (exchange_at old.exchanges x) (st.exchanges.there x is) in
      let w = turn_keeps_write limits k (plain.Finish x) h in
      let all = changed_exchanges limits x (finished None) old.exchanges ex h (turn ∷ h) st.exchanges c sound (record { lives = refl; begun = refl; doomed = refl }) (λ y d. end_keeps y h d) own in
      record {
        limits_are = cc;
        ranges = st.ranges;
        exchanges = subst (λ (e : Exchanges). ExchangesAre limits e (turn ∷ h)) (cc) all;
        gates = rw (ap (λ (f : Flows). f.gates) rest) (gates_kept limits old.gates h (turn ∷ h) st.gates (record {
          lives = refl;
          counts = λ y e. refl;
          write = w.high;
          lows = w.lows;
          sends = λ y. send_same limits (request y) turn h refl;
        }));
        conn = refreshed_conn limits x (record old { exchanges = ex }) new h (turn ∷ h) st.limits_are rest made
            (record { limit = st.conn.limit; octets = st.conn.octets ∙ sym w.octets; above = st.conn.above ∙ sym w.high; framed_last = st.conn.framed_last })
            (all.there x is) is refl (λ y d. end_keeps y h d) st.conn.ready;
        holding = rw (ap (λ (f : Flows). f.holding) rest) (holding_kept limits old.holding h (turn ∷ h) st.holding refl (λ y. refl));
      }
