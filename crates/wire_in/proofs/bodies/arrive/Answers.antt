use Rattle.std.proofs.Common.{arith, refl}
use Rattle.wire_in.proofs.Arriving.{arrival_told}
use Rattle.wire_in.proofs.bodies.arrive.Goals as goal
use Rattle.wire_state.proofs.Goings.{bodies_told, same_bodies, told_at}
use Rattle.wire_state.proofs.Results.{on_ok}
use Rattle.wire_state.specs.Progress.{to_go}

pub returns-clause-go : goal.returns-clause-go
unfolding to_go
returns-clause-go c = on_ok c.note.result (omega (arith, c.in_ok-touch.ensures.go, c.receive.ensures.go))

pub returns-clause-octets : goal.returns-clause-octets
returns-clause-octets c = record {
  goes = λ h g start t.
      let k = c.args.core.now in
      let f = c.args.course.flow in
      let came = arrival_told f c.args.octets k.flows c.receive.new.self c.receive.result c.receive.ensures.answer c.in-Arrived.is c.receive.ensures.flow c.receive.ensures.sound c.receive.ensures.rest k.conns k.links (c.requires.sound.live f.exchange) h g start c.args.notes.now t in
      c.note.ensures.paid.goes h g start _ _ _ (c.in_ok-touch.ensures.octets.goes h g start _ (told_at h g start k.conns k.conns c.receive.new.self k.links _ _ refl refl came));
}

pub returns-in_default-clause-octets : goal.returns-in_default-clause-octets
returns-in_default-clause-octets c = record {
  goes = λ h g start t.
      let k = c.args.core.now in
      bodies_told k.flows c.receive.new.self (same_bodies k.flows c.receive.new.self (c.receive.ensures.same c.in_default.not-Arrived)) k.conns k.links h g start c.args.notes.now t;
}
