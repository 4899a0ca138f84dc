use Rattle.std.proofs.Common.{ap, arith, false, subst, sym, ◌∙◌}
use Rattle.std.proofs.lemmas.Bool.Decides.{nat_tests}
use Rattle.hpack_codec.specs.Sections.{list_size}
use Rattle.std.specs.Prelude.{length, ◌≡◌, ◌≤◌}
use Rattle.wire_outlet.specs.Outgoing.{Outgoing}
use Rattle.wire_state.proofs.Grown.{gates_fills, grows_by}
use Rattle.wire_state.proofs.conn.Conn.write_list.Goals as goal
use Rattle.wire_state.specs.Counts.{Fills}
use Rattle.wire_state.specs.Sound.{IsKept, unit_of}
use Rattle.wire_state.specs.declared.conn.Conn.{Conn}

pub returns-clause-kept : goal.returns-clause-kept
returns-clause-kept c = λ limits k.
    let few : list_size c.in-Some.fields.now ≤ 61440 = grind (arith, nat_tests, c.size.ensures, c.if-size-gt-MOST_LIST.false) in
    let ready = c.in_ok-octets.ensures.ready (unit_of limits) (omega arith) few k.write in
    let same : length c.frame_block.new.self.waiting ≡ length c.args.self.now.outlet.waiting = ap (λ (o : Outgoing). length o.waiting) c.in_ok-octets.ensures.writes.rest in
    let kept : IsKept limits c.frame_block.new.self = record { limit = c.in_ok-octets.ensures.writes.write.limit ∙ k.limit; write = ready; waiting = omega (arith, same, k.waiting) } in
    subst (λ (o : Outgoing). IsKept limits o) (sym (ap (λ (v : Conn). v.outlet) c.framed.ensures.rest)) kept

pub returns-clause-fills : goal.returns-clause-fills
returns-clause-fills c =
    let low : c.args.self.now.outlet.write.above ≡ false = grind (arith, c.may_write.ensures) in
    let e = c.in_ok-octets.ensures in
    let grows = grows_by c.args.self.now.outlet.write c.frame_block.new.self.write c.in_ok-octets.crossed low e.crossed e.writes.write.above in
    subst (λ (o : Outgoing). Fills c.args.number c.mark_risen-rose.result c.args.self.now.outlet.write o.write c.args.flows.now c.mark_risen-rose.new.flows) (sym (ap (λ (v : Conn). v.outlet) c.framed.ensures.rest))
    (gates_fills c.args.number _ c.mark_risen-rose.result c.args.self.now.outlet.write c.frame_block.new.self.write c.args.flows.now c.list_framed.new.self c.mark_risen-rose.new.flows grows c.mark_risen-rose.ensures.rose c.list_framed.ensures.rest c.mark_risen-rose.ensures.writes c.mark_risen-rose.ensures.lows c.mark_risen-rose.ensures.sound c.list_framed.ensures.sound)
