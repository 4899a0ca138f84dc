use Rattle.std.proofs.Common.{arith, refl, sym}
use Rattle.wire_out.proofs.Framing.{match_ok}
use Rattle.wire_out.proofs.Written.{body_written_on}
use Rattle.wire_out.proofs.units.write_body_on.Goals as goal
use Rattle.wire_state.proofs.Weights.{conn_changed}
use Rattle.wire_state.specs.Progress.{to_go}

pub returns-in-Some-clause-go : goal.returns-in-Some-clause-go
unfolding to_go
returns-in-Some-clause-go c =
    let k = conn_changed c.args.number c.args.core.now.conns.entries (c.get_mut.follows.lender c.write_body.new.self).entries c.in-Some.conn.now c.write_body.new.self c.in-Some.ensures.value (c.get_mut.follows.holds c.write_body.new.self).0 in
    match_ok c.write_body.result (λ a. omega (arith, k, a)) (λ b. omega (arith, k, b)) c.write_body.ensures.go

pub returns-in-Some-clause-octets : goal.returns-in-Some-clause-octets
returns-in-Some-clause-octets c = body_written_on c.write_body.result c.args.number c.args.stream c.args.flow c.args.core.now _ c.in-Some.conn.now c.write_body.new.self (sym c.in-Some.ensures.value) (c.get_mut.follows.holds c.write_body.new.self) c.write_body.ensures.open c.requires.sound.kept (c.write_body.ensures.kept c.args.core.now.config.limits refl) refl c.requires.stream c.requires.there c.write_body.ensures.octets c.write_body.ensures.within c.write_body.ensures.flows c.write_body.ensures.fills c.write_body.ensures.drained
