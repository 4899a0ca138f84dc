use Rattle.std.proofs.Common.{ap, arith, refl, sym}
use Rattle.wire_out.proofs.lists.next_stream.Goals as goal
use Rattle.wire_state.proofs.Goings.{conn_keeps, keeps_on}
use Rattle.wire_state.proofs.Results.{on_ok}
use Rattle.wire_state.proofs.Weights.{conn_changed}
use Rattle.wire_state.specs.Progress.{to_go}
use Rattle.wire_state.specs.declared.conn.Conn.{Conn}

pub returns-in-Some-clause-go : goal.returns-in-Some-clause-go
unfolding to_go
returns-in-Some-clause-go c =
    on_ok c.next_number.result (omega (arith, conn_changed c.args.number c.args.core.now.conns.entries (c.get_mut.follows.lender c.next_number.new.conn).entries c.in-Some.conn.now c.next_number.new.conn c.in-Some.ensures.value (c.get_mut.follows.holds c.next_number.new.conn).0, c.next_number.ensures.go))

pub returns-in-Some-clause-octets : goal.returns-in-Some-clause-octets
returns-in-Some-clause-octets c =
    keeps_on c.next_number.result _ _ (conn_keeps c.args.number c.args.core.now _ c.in-Some.conn.now c.next_number.new.conn (sym c.in-Some.ensures.value) (c.get_mut.follows.holds c.next_number.new.conn) (ap (λ (k : Conn). k.outlet.write) c.next_number.ensures.rest) (ap (λ (k : Conn). k.open) c.next_number.ensures.rest) refl refl)
