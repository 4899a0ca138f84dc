use Rattle.wire_state.proofs.Keeping.{kept_changed}
use Rattle.wire_state.proofs.Soundness.{conns_sound, gates_sound}
use Rattle.flow_notes.specs.declared.events.Event.TheVariants as event
use Rattle.std.proofs.Common.{ap, refl, sym}
use Rattle.std.specs.Prelude.{is_some, ◌++◌}
use Rattle.wire_turns.proofs.events.leave_at.Goals as goal
use Rattle.wire_state.proofs.Goings.{told_at}
use Rattle.wire_state.proofs.Left.{left_where, none_left}
use Rattle.wire_state.proofs.Wrote.{limit_of}
use Rattle.wire_state.specs.Worlds.{left_after, outs_of}
use Rattle.wire_state.specs.declared.conn.Conn.{Conn}

pub returns-in-Some-clause-sound : goal.returns-in-Some-clause-sound
returns-in-Some-clause-sound c =
    let k = c.args.core.now in
    let new = c.get_mut.follows.lender c.leave_write-n.new.self in
    let gated = gates_sound k.config k.now k.links k.conns k.flows k.timers c.requires.sound c.leave_write-n.new.flows c.leave_write-n.ensures.frees.rest in
    conns_sound k.config k.now k.links k.conns c.leave_write-n.new.flows k.timers gated new
    (kept_changed k.config.limits c.args.number k.conns new c.in-Some.conn.now c.leave_write-n.new.self (sym c.in-Some.ensures.value) (c.get_mut.follows.holds c.leave_write-n.new.self) c.requires.sound.kept (c.leave_write-n.ensures.kept k.config.limits))

pub returns-in-Some-clause-octets : goal.returns-in-Some-clause-octets
returns-in-Some-clause-octets c =
    let k = c.args.core.now in
    left_where c.args.number k _ c.in-Some.conn.now c.leave_write-n.new.self (sym c.in-Some.ensures.value) (c.get_mut.follows.holds c.leave_write-n.new.self) (ap (λ (v : Conn). v.open) c.leave_write-n.ensures.rest) refl
    (limit_of c.args.number k.config.limits k.conns c.in-Some.conn.now (sym c.in-Some.ensures.value) c.requires.sound.kept) c.leave_write-n.ensures.frees c.args.n c.leave_write-n.result.0 c.leave_write-n.ensures.count c.leave_write-n.ensures.octets
    c.leave_write-n.result.1 (is_some c.leave_write-n.new.self.draining) c.eased_at.result c.leave_write-n.ensures.drained c.eased_at.ensures

pub returns-in-None-clause-octets : goal.returns-in-None-clause-octets
returns-in-None-clause-octets c = record {
  goes = λ h g start notes t.
      let k = c.args.core.now in
      told_at h (left_after (event.Room c.args.number c.args.n) k.conns g) start k.conns c.get_mut.follows.lender-at-none k.flows k.links (notes ++ outs_of c.args.number 0) (notes ++ outs_of c.args.number 0) (sym c.get_mut.follows.holds-at-none) refl
      ((none_left c.args.number c.args.n k (sym c.in-None.ensures.value)).goes h g start notes t);
}
