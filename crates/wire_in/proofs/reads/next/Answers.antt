use Rattle.std.proofs.Common.{ap, arith, refl, sym}
use Rattle.wire_in.proofs.Paying.{pays_as}
use Rattle.wire_in.proofs.reads.next.Goals as goal
use Rattle.wire_state.proofs.Goings.{conn_keeps, keeps_on}
use Rattle.wire_state.proofs.Weights.{conn_changed}
use Rattle.wire_state.specs.Progress.{conn_go, to_go}
use Rattle.wire_state.specs.declared.conn.Conn.{Conn}

pub returns-clause-go : goal.returns-clause-go
unfolding to_go
returns-clause-go c =
    let k = conn_changed c.args.number c.args.core.now.conns.entries (c.get_mut.follows.lender c.take_frame.new.self).entries c.in-Some.conn.now c.take_frame.new.self c.in-Some.ensures.value (c.get_mut.follows.holds c.take_frame.new.self).0 in
    pays_as c.take_frame.result c.take_frame.new.into (conn_go c.in-Some.conn.now) (conn_go c.take_frame.new.self) _ _ (omega (arith, k)) c.take_frame.ensures.go

pub returns-clause-octets : goal.returns-clause-octets
returns-clause-octets c =
    keeps_on c.take_frame.result _ _ (conn_keeps c.args.number c.args.core.now _ c.in-Some.conn.now c.take_frame.new.self (sym c.in-Some.ensures.value) (c.get_mut.follows.holds c.take_frame.new.self) (ap (λ (k : Conn). k.outlet.write) c.take_frame.ensures.rest) (ap (λ (k : Conn). k.open) c.take_frame.ensures.rest) refl refl)
