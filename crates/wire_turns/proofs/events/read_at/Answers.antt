use Rattle.std.proofs.Common.{ap, refl, sym}
use Rattle.wire_turns.proofs.events.read_at.Goals as goal
use Rattle.wire_state.proofs.Goings.{conn_keeps, keeps_on}
use Rattle.wire_state.specs.declared.conn.Conn.{Conn}

pub returns-in-Some-clause-octets : goal.returns-in-Some-clause-octets
returns-in-Some-clause-octets c =
    keeps_on c.read.result _ _ (conn_keeps c.args.number c.args.core.now _ c.in-Some.conn.now c.read.new.self (sym c.in-Some.ensures.value) (c.get_mut.follows.holds c.read.new.self) (ap (λ (k : Conn). k.outlet.write) c.read.ensures.rest) (ap (λ (k : Conn). k.open) c.read.ensures.rest) refl refl)
