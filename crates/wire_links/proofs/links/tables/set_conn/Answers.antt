use Rattle.wire_links.proofs.Written.{nothing, written}
use Rattle.wire_links.specs.Seats.{with_state}
use Rattle.wire_links.proofs.links.tables.set_conn.Goals as goal

pub returns-in-Some : goal.returns-in-Some
returns-in-Some c = written c.args.conn c.args.seats.now.entries _ (with_state c.args.state) c.in-Some.seat.now c.set_conn.new.self c.in-Some.ensures.value c.set_conn.ensures (c.get_mut.follows.holds c.set_conn.new.self).0

pub returns-in_default : goal.returns-in_default
returns-in_default c = nothing c.args.conn c.args.seats.now.entries _ (with_state c.args.state) c.in_default.ensures.value (λ i. (c.get_mut.follows.holds-at-none i).entries)
