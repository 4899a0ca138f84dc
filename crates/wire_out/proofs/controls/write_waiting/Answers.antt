use Rattle.std.proofs.Common.{ap, arith, refl, sym}
use Rattle.wire_out.proofs.Framing.{match_ok}
use Rattle.wire_out.proofs.Written.{waits_written}
use Rattle.wire_out.proofs.controls.write_waiting.Goals as goal
use Rattle.wire_state.proofs.Weights.{conn_changed}
use Rattle.wire_state.specs.Progress.{to_go}
use Rattle.wire_state.specs.declared.conn.Conn.{Conn}

pub returns-in-Some-clause-go : goal.returns-in-Some-clause-go
unfolding to_go
returns-in-Some-clause-go c =
    let k = conn_changed c.args.number c.args.core.now.conns.entries (c.get_mut.follows.lender c.write_waiting.new.self).entries c.in-Some.conn.now c.write_waiting.new.self c.in-Some.ensures.value (c.get_mut.follows.holds c.write_waiting.new.self).0 in
    match_ok c.write_waiting.result (λ a. omega (arith, k, a)) (λ b. omega (arith, k, b)) c.write_waiting.ensures.go

pub returns-in-Some-clause-octets : goal.returns-in-Some-clause-octets
returns-in-Some-clause-octets c = waits_written c.write_waiting.result c.args.number c.args.core.now _ c.in-Some.conn.now c.write_waiting.new.self (sym c.in-Some.ensures.value) (c.get_mut.follows.holds c.write_waiting.new.self) (ap (λ (k : Conn). k.open) c.write_waiting.ensures.rest) c.requires.sound.kept (c.write_waiting.ensures.kept c.args.core.now.config.limits) refl c.write_waiting.ensures.octets c.write_waiting.ensures.flows c.write_waiting.ensures.fills
