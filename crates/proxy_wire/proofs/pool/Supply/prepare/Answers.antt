-- The seat that is taken is one of these permits', and so are those that are left.
use Rattle.proxy_wire.proofs.Pooling.{next_made}
use Rattle.proxy_wire.proofs.Sharing.{seat_taken, seats_left}
use Rattle.std.proofs.Common.{refl}
use Rattle.proxy_wire.proofs.pool.Supply.prepare.Goals as goal

pub returns-in_err-core-clause-seats : goal.returns-in_err-core-clause-seats
returns-in_err-core-clause-seats g c = seats_left c.args.permits.now _ _ c.in-Some-take_one.seat c.in-Some-take_one.ensures c.requires.seats

pub returns-clause-seats : goal.returns-clause-seats
returns-clause-seats g c = seats_left c.args.permits.now _ _ c.in-Some-take_one.seat c.in-Some-take_one.ensures c.requires.seats

pub returns-clause-next : goal.returns-clause-next
returns-clause-next g c = next_made c.args.task.now.config.now c.args.permits.now c.args.pass _ _ c.replace.ensures.after (seat_taken c.args.permits.now _ _ c.in-Some-take_one.seat c.in-Some-take_one.ensures c.requires.seats) c.in_ok-core.ensures.rests c.in_ok-core.ensures.new c.in_ok-core.ensures.octets refl
