use Rattle.exchange_core.specs.Flow.{send}
use Rattle.h2_frames.specs.Head.{data_head}
use Rattle.std.proofs.Common.{ap, arith, subst, sym, ◌∙◌}
use Rattle.std.proofs.lemmas.Int.{to_z-of_z}
use mir.Syntax.{w64}
use Rattle.flow_rules.specs.Narrowed.{octets_of}
use Rattle.std.specs.Prelude.{false, is_some, length, not, pos, take, ℤ, ◌&&◌, ◌+◌, ◌++◌, ◌≡◌, ◌≤ℤ◌, ◌≤◌}
use Rattle.wire_flows.specs.Flows.{flow_in}
use Rattle.wire_outlet.specs.Outgoing.{Outgoing}
use Rattle.wire_state.proofs.Grown.{framed_fills}
use Rattle.wire_state.proofs.Rooms.{body_kept, carries_held, of_some, within_both, within_quantum}
use Rattle.wire_state.proofs.Standing.{if_some}
use Rattle.wire_state.proofs.conn.Conn.write_body.Goals as goal
use Rattle.wire_state.specs.Counts.{Fills}
use Rattle.wire_state.specs.Sound.{IsKept}
use Rattle.wire_state.specs.declared.conn.Conn.{Conn}
use Rattle.wm_buffer.specs.Buffer.{AppendsOctets, Buffer}

pub returns-in_default-clause-kept : goal.returns-in_default-clause-kept
returns-in_default-clause-kept c = λ limits q k.
    subst (λ (w : Buffer). IsKept limits (record { write = w; waiting = c.args.self.now.outlet.waiting; anew = c.args.self.now.outlet.anew }))
    (sym ((c.in_ok-framed.ensures.none (ap is_some c.in_default.is)).1 ∙ c.write_mut-out.ensures.value)) k

pub spend-requires : goal.spend-requires
spend-requires c = λ l.
    let w = rw c.in-Some.is at c.in_ok-framed.ensures.within in
    let r = subst (λ (z : ℤ). c.in-Some.framed.n ≤ octets_of z) (to_z-of_z w64 c.unwrap_or-room.result (record { sfits = c.unwrap_or-room.type_inv })) w.1 in
    let m = subst (λ (z : ℤ). c.in-Some.framed.n ≤ octets_of z) (to_z-of_z w64 c.min-most.result (record { sfits = c.min-most.type_inv })) w.2 in
    let b = subst (λ (z : ℤ). c.min-most.result ≤ℤ z) (to_z-of_z w64 c.conn_room.result (record { sfits = c.conn_room.type_inv })) c.min-most.ensures.self_bound in
    within_both c.args.flow.exchange c.in-Some.framed.n c.args.self.now.windows.send c.room.result c.unwrap_or-room.result c.min-most.result l c.room.ensures c.unwrap_or-room.ensures r m (subst (λ (z : ℤ). c.min-most.result ≤ℤ z) c.conn_room.ensures b)

pub returns-clause-kept : goal.returns-clause-kept
returns-clause-kept c = λ limits q k.
    let n = c.in-Some.framed.n in
    let w = rw c.in-Some.is at c.in_ok-framed.ensures.within in
    let g = rw c.in-Some.is at c.in_ok-framed.ensures.grown in
    let a = rw c.in-Some.is at c.in_ok-framed.ensures.appends in
    let p = of_some (flow_in c.args.flows.now c.args.flow) c.requires a in
    let octets = data_head c.args.stream n c.in-Some.framed.last ++ take n (send p.0) in
    let low : c.args.self.now.outlet.write.above ≡ false = grind (arith, c.may_write.ensures, c.if-not-may_write.false) in
    let m : n ≤ octets_of c.min-most.result = subst (λ (z : ℤ). n ≤ octets_of z) (to_z-of_z w64 c.min-most.result (record { sfits = c.min-most.type_inv })) w.2 in
    let u : c.min-most.result ≤ℤ pos c.args.quantum = subst (λ (z : ℤ). c.min-most.result ≤ℤ z) (to_z-of_z w64 c.from.result (record { sfits = c.from.type_inv }) ∙ c.from.ensures) c.min-most.ensures.other_bound in
    let b : octets_of c.min-most.result ≤ c.args.quantum = within_quantum c.min-most.result c.args.quantum u in
    let few : n ≤ limits.quantum = omega (arith, m, b, q) in
    let grown : length c.frame_body.new.out.octets ≡ length c.args.self.now.outlet.write.octets + (9 + n) = rw c.write_mut-out.ensures.value at g in
    let added : AppendsOctets c.args.self.now.outlet.write c.frame_body.new.out octets = subst (λ (u : Buffer). AppendsOctets u c.frame_body.new.out octets) c.write_mut-out.ensures.value p.1 in
    subst (λ (o : Outgoing). IsKept limits o) (sym (ap (λ (v : Conn). v.outlet) c.framed.ensures.rest)) (body_kept limits c.args.self.now.outlet c.frame_body.new.out octets n k low few grown added)

pub returns-clause-fills : goal.returns-clause-fills
returns-clause-fills c =
    let n = c.in-Some.framed.n in
    let a = rw c.in-Some.is at c.in_ok-framed.ensures.appends in
    let r = rw c.in-Some.is at c.in_ok-framed.ensures.rose in
    let w = rw c.in-Some.is at c.in_ok-framed.ensures.writes in
    let p = of_some (flow_in c.args.flows.now c.args.flow) c.requires a in
    let octets = data_head c.args.stream n c.in-Some.framed.last ++ take n (send p.0) in
    let low : c.args.self.now.outlet.write.above ≡ false = grind (arith, c.may_write.ensures, c.if-not-may_write.false) in
    let added : AppendsOctets c.args.self.now.outlet.write c.frame_body.new.out octets = subst (λ (u : Buffer). AppendsOctets u c.frame_body.new.out octets) c.write_mut-out.ensures.value p.1 in
    let rose : c.in-Some.framed.rose ≡ (not c.args.self.now.outlet.write.above && c.frame_body.new.out.above) = subst (λ (u : Buffer). c.in-Some.framed.rose ≡ (not u.above && c.frame_body.new.out.above)) c.write_mut-out.ensures.value r in
    subst (λ (o : Outgoing). Fills c.args.number c.in-Some.framed.rose c.args.self.now.outlet.write o.write c.args.flows.now c.frame_body.new.self) (sym (ap (λ (v : Conn). v.outlet) c.framed.ensures.rest))
    (framed_fills c.args.number c.in-Some.framed.rose c.args.self.now.outlet.write c.frame_body.new.out octets c.args.flows.now c.frame_body.new.self low added rose w c.in_ok-framed.ensures.lows c.in_ok-framed.ensures.sound)

pub returns-clause-within : goal.returns-clause-within
returns-clause-within c =
    let n = c.in-Some.framed.n in
    let g = rw c.in-Some.is at c.in_ok-framed.ensures.grown in
    let a = rw c.in-Some.is at c.in_ok-framed.ensures.appends in
    if_some (flow_in c.args.flows.now c.args.flow) (λ flow added. carries_held c.args.stream n c.in-Some.framed.last (send flow) _ c.frame_body.new.out g added) a
