use Rattle.wire_links.proofs.Written.{nothing, written}
use Rattle.wire_links.specs.Seats.{left}
use Rattle.wire_links.proofs.links.tables.leave.Goals as goal

pub returns-in-Some : goal.returns-in-Some
returns-in-Some c = written c.args.conn c.args.seats.now.entries _ (left c.args.exchange c.args.stream) c.in-Some.seat.now c.leave.new.self c.in-Some.ensures.value c.leave.ensures (c.get_mut.follows.holds c.leave.new.self).0

pub returns-in_default : goal.returns-in_default
returns-in_default c = nothing c.args.conn c.args.seats.now.entries _ (left c.args.exchange c.args.stream) c.in_default.ensures.value (λ i. (c.get_mut.follows.holds-at-none i).entries)
