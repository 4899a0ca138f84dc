use Rattle.std.proofs.Common.{ap, arith, refl, sym}
use Rattle.wire_out.proofs.Written.{update_written}
use Rattle.wire_out.proofs.controls.write_update.Goals as goal
use Rattle.wire_state.proofs.Results.{ok_map}
use Rattle.wire_state.proofs.Weights.{conn_changed}
use Rattle.wire_state.specs.Progress.{to_go}
use Rattle.wire_state.specs.declared.conn.Conn.{Conn}

pub returns-in-Some-clause-go : goal.returns-in-Some-clause-go
unfolding to_go
returns-in-Some-clause-go c =
    let k = conn_changed c.args.number c.args.core.now.conns.entries (c.get_mut.follows.lender c.write_update.new.self).entries c.in-Some.conn.now c.write_update.new.self c.in-Some.ensures.value (c.get_mut.follows.holds c.write_update.new.self).0 in
    ok_map c.write_update.result (λ g. omega (arith, k, g)) c.write_update.ensures.go

pub returns-in-Some-clause-octets : goal.returns-in-Some-clause-octets
returns-in-Some-clause-octets c = update_written c.write_update.result c.args.number c.args.stream c.args.n c.args.core.now _ c.in-Some.conn.now c.write_update.new.self (sym c.in-Some.ensures.value) (c.get_mut.follows.holds c.write_update.new.self) (ap (λ (k : Conn). k.open) c.write_update.ensures.rest) c.requires.sound.kept (c.write_update.ensures.kept c.args.core.now.config.limits) refl c.write_update.ensures.octets c.write_update.ensures.flows c.write_update.ensures.fills
