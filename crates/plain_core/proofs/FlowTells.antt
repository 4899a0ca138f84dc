-- What the flows are after watchers of the write buffer were told, and which of them go on.
use Rattle.plain_laws.specs.Words.{Past}
use Rattle.tape_laws.specs.Doomed.{is_swept}
use Rattle.flow_gate.specs.Board.{Board, IsSound as IsSoundBoard, pending_on}
use Rattle.flow_gate.specs.Changes.{Tells as TellsFlows}
use Rattle.flow_rules.specs.declared.ids.FlowId.{FlowId}
use Rattle.std.proofs.Common.{arith, inl, inr, sym, ◌∙◌}
use Rattle.std.specs.Prelude.{List, false, take, true, ℕ, ◌+◌, ◌≡◌}
use Rattle.tape_laws.specs.Flows.{request}
use Rattle.tape_laws.specs.declared.PlainLimits.{PlainLimits}
use Rattle.plain_core.proofs.FlowHolds.{holding_kept}
use Rattle.plain_core.proofs.FlowGates.{gates_from}
use Rattle.plain_core.proofs.FlowStreams.{same_exchanges}
use Rattle.plain_core.proofs.Tellings.{AreTold, are_told, with_all_told}
use Rattle.plain_core.specs.Carries.{Holds, Tells, Wakes}
use Rattle.plain_core.specs.Flows.{ConnectionIs, FlowsStand, GatesAre, Settled}
use Rattle.plain_core.specs.declared.conn.Connection.{Connection}
use Rattle.plain_core.specs.declared.flows.Flows.{Flows}
use Rattle.flow_rules.specs.declared.ids.BufferId.TheVariants as buffer
use Rattle.plain_core.proofs.FlowUnits.{keeps_piece}

told_gates : (limits : PlainLimits) (fs : List FlowId) (old new : Board) (h : Past) → GatesAre limits old h → TellsFlows (buffer.Write 0) fs old new → IsSoundBoard new
    → AreTold limits fs (pending_on new (buffer.Write 0)) h (with_all_told fs h) → GatesAre limits new (with_all_told fs h)
told_gates limits fs old new h g t sound is =
    gates_from limits old new h (with_all_told fs h) g sound (record { flows = t.flows; buffers = t.buffers; watchers = t.watchers }) is.lists.lives (record {
      counts = λ y l. let was = (cc) ∙ l in fewer_by _ _ _ _ _ (t.counts (request y)) (g.counts y was) (is.counts y was);
      write_mark = t.marks (buffer.Write 0) ∙ (g.write_mark ∙ sym is.high);
      write_pending = sym is.lows;
      send_mark = λ y. t.marks (buffer.Send (request y)) ∙ (g.send_mark y ∙ sym (is.streams y).high);
      send_pending = λ y. sym (t.pending (buffer.Send (request y))) ∙ g.send_pending y;
    })
  where
    fewer_by : (cn k co ch ch' : ℕ) → cn + k ≡ co → co ≡ ch → ch' + k ≡ ch → cn ≡ ch'
    fewer_by cn k co ch ch' e1 e2 e3 = omega (arith, e1, e2, e3)

told_conn : (limits : PlainLimits) (fs rest : List FlowId) (conn : Connection) (h : Past) → ConnectionIs limits conn h → AreTold limits fs rest h (with_all_told fs h)
    → ConnectionIs limits conn (with_all_told fs h)
told_conn limits fs rest conn h c is = record {
  limit = c.limit;
  octets = c.octets ∙ sym is.octets;
  above = c.above ∙ sym is.high;
  framed_last = c.framed_last ∙ sym is.last;
  ready = λ y. cc (c.ready y, keeps_piece limits y h (with_all_told fs h) (is.streams y));
}

told_stand : (limits : PlainLimits) (fs : List FlowId) (old : Flows) (b : Board) (h : Past) → Settled limits old h → is_swept h ≡ false → TellsFlows (buffer.Write 0) fs old.gates b → IsSoundBoard b
    → FlowsStand limits (record old { gates = b }) (with_all_told fs h)
told_stand limits fs old b h settled fresh t sound =
    let st = settled.stands in
    let rest = pending_on b (buffer.Write 0) in
    let is : AreTold limits fs rest h (with_all_told fs h) = are_told limits fs rest h settled.lawful fresh (sym st.gates.write_pending ∙ t.pending (buffer.Write 0)) in
    record {
      limits_are = st.limits_are;
      ranges = st.ranges;
      exchanges = same_exchanges limits old.exchanges h (with_all_told fs h) st.exchanges (record { lives = is.lists.lives; begun = is.lists.begun; doomed = is.lists.doomed }) is.streams;
      gates = told_gates limits fs old.gates b h st.gates t sound is;
      conn = told_conn limits fs rest old.conn h st.conn is;
      holding = holding_kept limits old.holding h (with_all_told fs h) st.holding is.lists.lives (λ y. (is.streams y).recv);
    }

pub tells : (n : ℕ) (old : Flows) (b : Board) → TellsFlows (buffer.Write 0) (take n (pending_on old.gates (buffer.Write 0))) old.gates b → IsSoundBoard b → Tells n old (record old { gates = b })
tells n old b t sound = record {
  goes = λ limits h s fresh.
      rw (← s.stands.gates.write_pending) (told_stand limits (take n (pending_on old.gates (buffer.Write 0))) old b h s fresh t sound);
}

-- ---- which go on
pub wakes_above : (flows : Flows) (x : ℕ) → flows.conn.write.above ≡ true → Wakes flows x false
wakes_above flows x high = record {
  yes = λ limits h s lives e. cc;
  no = λ limits h s lives e. record { still = inl (sym s.stands.conn.above ∙ high) };
}

pub wakes_unheld : (flows : Flows) (x : ℕ) → Holds flows x false → Wakes flows x false
wakes_unheld flows x holds = record {
  yes = λ limits h s lives t. cc;
  no = λ limits h s lives f. record { still = inr (sym (holds.goes limits h s lives)) };
}
