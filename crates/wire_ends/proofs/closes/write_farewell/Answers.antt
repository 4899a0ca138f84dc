use Rattle.wire_state.proofs.Results.{ok_map}
use Rattle.std.proofs.Common.{ap, arith, refl, sym}
use Rattle.wire_ends.proofs.Closing.{open_stays}
use Rattle.wire_ends.proofs.closes.write_farewell.Goals as goal
use Rattle.wire_state.proofs.Weights.{conn_changed}
use Rattle.wire_state.proofs.Wrote.{farewell_written}
use Rattle.wire_state.specs.Progress.{to_go}
use Rattle.wire_state.specs.declared.conn.Conn.{Conn}

pub returns-in-Some-clause-go : goal.returns-in-Some-clause-go
unfolding to_go
returns-in-Some-clause-go c =
    let k = conn_changed c.args.number c.args.core.now.conns.entries (c.get_mut.follows.lender c.farewell.new.self).entries c.in-Some.conn.now c.farewell.new.self c.in-Some.ensures.value (c.get_mut.follows.holds c.farewell.new.self).0 in
    ok_map c.farewell.result (λ g. omega (arith, k, g)) c.farewell.ensures.go

pub returns-in-Some-clause-octets : goal.returns-in-Some-clause-octets
returns-in-Some-clause-octets c =
    farewell_written c.args.number c.args.core.now _ c.in-Some.conn.now c.farewell.new.self (sym c.in-Some.ensures.value) (c.get_mut.follows.holds c.farewell.new.self) (ap (λ (k : Conn). k.open) c.farewell.ensures.rest) refl c.requires.sound.kept (c.farewell.ensures.kept c.args.core.now.config.limits) c.farewell.result c.farewell.ensures.octets c.farewell.ensures.flows c.farewell.ensures.fills

pub returns-in-Some-clause-stays : goal.returns-in-Some-clause-stays
returns-in-Some-clause-stays c =
    open_stays c.args.number c.args.core.now.conns (c.get_mut.follows.lender c.farewell.new.self) c.in-Some.conn.now c.farewell.new.self (sym c.in-Some.ensures.value) (c.get_mut.follows.holds c.farewell.new.self) (ap (λ (k : Conn). k.open) c.farewell.ensures.rest)
