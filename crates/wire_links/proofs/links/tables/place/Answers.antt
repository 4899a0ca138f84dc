use Rattle.wire_links.proofs.Written.{nothing, on_err, on_ok, unwritten, written}
use Rattle.wire_links.specs.Seats.{placed}
use Rattle.wire_links.proofs.links.tables.place.Goals as goal

pub returns-in-Some-clause-ok : goal.returns-in-Some-clause-ok
returns-in-Some-clause-ok c = on_ok c.place.result (λ is. written c.args.conn c.args.seats.now.entries _ (placed c.args.stream c.args.exchange) c.in-Some.seat.now c.place.new.self c.in-Some.ensures.value is (c.get_mut.follows.holds c.place.new.self).0) c.place.ensures.ok

pub returns-in-Some-clause-err : goal.returns-in-Some-clause-err
returns-in-Some-clause-err c = on_err c.place.result (λ is. unwritten c.args.conn c.args.seats.now.entries _ c.in-Some.seat.now c.place.new.self c.in-Some.ensures.value is (c.get_mut.follows.holds c.place.new.self).0) c.place.ensures.err

pub returns-in-None-clause-ok : goal.returns-in-None-clause-ok
returns-in-None-clause-ok c = nothing c.args.conn c.args.seats.now.entries _ (placed c.args.stream c.args.exchange) c.in-None.ensures.value (λ i. (c.get_mut.follows.holds-at-none i).entries)
