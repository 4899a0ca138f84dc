use Rattle.exchange_core.specs.Changes.{ChangesFlow}
use Rattle.exchange_core.specs.Effects.{body_framed}
use Rattle.exchange_core.specs.Exchanges.{flow_at, is_send_above}
use Rattle.exchange_core.specs.Flow.{send as send_of}
use Rattle.flow_gate.specs.Board.{IsSound as IsSoundBoard, is_marked, pending_on, watchers_of}
use Rattle.std.proofs.Common.{ap, subst, sym, ◌∙◌}
use Rattle.std.specs.BTreeMap.{get}
use Rattle.std.specs.Ordering.{nat_cmp}
use Rattle.std.specs.Prelude.{IfSome, [], take, true, ◌++◌, ◌∷◌, ◌≡◌}
use Rattle.tape_laws.specs.Flows.{request}
use Rattle.wm_buffer.specs.Buffer.{AppendsOctets}
use Rattle.wm_buffer.specs.Watermark.{crossing}
use Rattle.plain_core.specs.declared.flows.Flows.{Flows}
use Rattle.flow_rules.specs.declared.ids.BufferId.TheVariants as buffer
use Rattle.plain_core.proofs.FlowFrames.{drain_allowed, frame_less, frames_all, next_octets, next_small, rise_allowed}
use Rattle.plain_core.proofs.FlowParts.{room_is}
use Rattle.plain_core.proofs.FlowUnits.{piece_seen, unit_named}
use Rattle.plain_core.proofs.flows.Flows.frame.Goals as goal
use Rattle.plain_core.specs.Crossings.{MarksCrossed}

pub overflow_cast-exchange : goal.overflow_cast-exchange
overflow_cast-exchange c = record { fits = next_small c.args.self.now c.args.next.exchange c.args.next.n c.args.next.last c.requires.settled c.requires.next }

pub frame_unit-requires-clause-octets : goal.frame_unit-requires-clause-octets
frame_unit-requires-clause-octets c =
    rw c.request-flow.ensures (next_octets c.args.self.now c.args.next.exchange c.args.next.n c.args.next.last c.requires.settled c.requires.next)

pub returns-clause-frames : goal.returns-clause-frames
returns-clause-frames c =
    let old = c.args.self.now in
    let change = subst (λ f. ChangesFlow f (body_framed c.args.next.n c.args.next.last) old.exchanges c.frame_unit.new.self) c.request-flow.ensures (c.in_ok-shifted.ensures {u = tt}).frames in
    let appends = subst (λ f. IfSome (flow_at old.exchanges f) (λ g. AppendsOctets old.conn.write c.frame_unit.new.out (c.data_head-head.result ++ take c.args.next.n (send_of g)))) c.request-flow.ensures (c.in_ok-shifted.ensures {u = tt}).appends in
    let from = subst (λ f. c.in_ok-shifted.shifted.from ≡ crossing (is_send_above old.exchanges f) (is_send_above c.frame_unit.new.self f)) c.request-flow.ensures (c.in_ok-shifted.ensures {u = tt}).from in
    let gates = ap (λ (f : Flows). f.gates) c.record_unit.ensures.rest in
    let marks = subst (λ b. MarksCrossed (request c.args.next.exchange) c.in_ok-shifted.shifted b c.mark_crossed.result c.mark_crossed.new.self.gates) gates
    (subst (λ f. MarksCrossed f c.in_ok-shifted.shifted c.record_unit.new.self.gates c.mark_crossed.result c.mark_crossed.new.self.gates) c.request-flow.ensures c.mark_crossed.ensures.marks) in
    let counted = subst (λ b. IsSoundBoard b → IsSoundBoard c.mark_crossed.new.self.gates) gates c.mark_crossed.ensures.sound in
    frames_all c.args.next.exchange c.args.next.n c.args.next.last c.mark_crossed.result c.in_ok-shifted.shifted old c.record_unit.new.self c.mark_crossed.new.self c.frame_unit.new.self c.frame_unit.new.out
    c.data_head-head.result c.data_head-head.ensures change c.frame_unit.ensures.sound appends (c.in_ok-shifted.ensures {u = tt}).to from marks counted c.record_unit.ensures.rest
    (piece_seen (record old { exchanges = c.frame_unit.new.self }) c.args.next.exchange c.in_ok-shifted.unit (get nat_cmp old.conn.ready) (get nat_cmp c.record_unit.new.self.conn.ready)
    (unit_named (record old { exchanges = c.frame_unit.new.self }) c.args.next.exchange c.request-flow.result _ c.in_ok-shifted.unit c.request-flow.ensures
    (room_is old c.from.result c.requires.settled c.from.ensures) (c.in_ok-shifted.ensures {u = tt}).unit)
    (c.in_ok-record_unit.ensures {u = tt}).ready) c.mark_crossed.ensures.rest

pub returns-clause-less : goal.returns-clause-less
returns-clause-less c =
    let old = c.args.self.now in
    let change = subst (λ f. ChangesFlow f (body_framed c.args.next.n c.args.next.last) old.exchanges c.frame_unit.new.self) c.request-flow.ensures (c.in_ok-shifted.ensures {u = tt}).frames in
    let gates = ap (λ (f : Flows). f.gates) c.record_unit.ensures.rest in
    let marks = subst (λ b. MarksCrossed (request c.args.next.exchange) c.in_ok-shifted.shifted b c.mark_crossed.result c.mark_crossed.new.self.gates) gates
    (subst (λ f. MarksCrossed f c.in_ok-shifted.shifted c.record_unit.new.self.gates c.mark_crossed.result c.mark_crossed.new.self.gates) c.request-flow.ensures c.mark_crossed.ensures.marks) in
    frame_less c.args.next.exchange c.args.next.n c.args.next.last c.mark_crossed.result c.in_ok-shifted.shifted old c.mark_crossed.new.self c.frame_unit.new.self c.requires.settled c.requires.next change
    c.frame_unit.ensures.sound (ap (λ (f : Flows). f.exchanges) c.mark_crossed.ensures.rest ∙ ap (λ (f : Flows). f.exchanges) c.record_unit.ensures.rest) marks

pub mark_crossed-requires-clause-rises : goal.mark_crossed-requires-clause-rises
mark_crossed-requires-clause-rises c = λ high.
    rw (ap (λ (f : Flows). f.gates) c.record_unit.ensures.rest) (rise_allowed c.args.self.now c.frame_unit.new.out.above c.requires.settled (sym high ∙ (c.in_ok-shifted.ensures {u = tt}).to))

pub mark_crossed-requires-clause-drains : goal.mark_crossed-requires-clause-drains
mark_crossed-requires-clause-drains c = λ low.
    let from = subst (λ f. c.in_ok-shifted.shifted.from ≡ crossing (is_send_above c.args.self.now.exchanges f) (is_send_above c.frame_unit.new.self f)) c.request-flow.ensures (c.in_ok-shifted.ensures {u = tt}).from in
    rw (ap (λ (f : Flows). f.gates) c.record_unit.ensures.rest) (subst (λ f. (is_marked c.args.self.now.gates (buffer.Send f) ≡ true) × (pending_on c.args.self.now.gates (buffer.Send f) ≡ []) × (watchers_of c.args.self.now.gates (buffer.Send f) ≡ f ∷ [])) (sym c.request-flow.ensures)
    (drain_allowed c.args.self.now c.args.next.exchange c.args.next.n c.args.next.last (is_send_above c.frame_unit.new.self (request c.args.next.exchange)) c.requires.settled c.requires.next (sym low ∙ from)))
