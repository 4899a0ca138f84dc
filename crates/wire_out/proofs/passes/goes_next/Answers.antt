use Rattle.std.proofs.Common.{ap, arith, refl, sym}
use Rattle.wire_out.proofs.passes.goes_next.Goals as goal
use Rattle.wire_state.proofs.Goings.{conn_keeps}
use Rattle.wire_state.proofs.Weights.{conn_changed}
use Rattle.wire_state.specs.Progress.{to_go}
use Rattle.wire_state.specs.declared.conn.Conn.{Conn}

pub returns-in-Some-clause-go : goal.returns-in-Some-clause-go
unfolding to_go
returns-in-Some-clause-go c =
    omega (arith, conn_changed c.args.number c.args.core.now.conns.entries (c.get_mut.follows.lender c.has_way.new.conn).entries c.in-Some.conn.now c.has_way.new.conn c.in-Some.ensures.value (c.get_mut.follows.holds c.has_way.new.conn).0, c.has_way.ensures.go)

pub returns-in-Some-clause-octets : goal.returns-in-Some-clause-octets
returns-in-Some-clause-octets c =
    conn_keeps c.args.number c.args.core.now _ c.in-Some.conn.now c.has_way.new.conn (sym c.in-Some.ensures.value) (c.get_mut.follows.holds c.has_way.new.conn) (ap (λ (k : Conn). k.outlet.write) c.has_way.ensures.rest) (ap (λ (k : Conn). k.open) c.has_way.ensures.rest) refl refl
