use Rattle.std.proofs.Common.{arith, refl, sym}
use Rattle.wire_out.proofs.Framing.{match_ok}
use Rattle.wire_out.proofs.Written.{list_written}
use Rattle.wire_out.proofs.lists.write_list.Goals as goal
use Rattle.wire_state.proofs.Weights.{conn_changed}
use Rattle.wire_state.specs.Progress.{to_go}

pub returns-in-Some-clause-go : goal.returns-in-Some-clause-go
unfolding to_go
returns-in-Some-clause-go c =
    let k = conn_changed c.args.going.conn c.args.core.now.conns.entries (c.get_mut.follows.lender c.write_list.new.self).entries c.in-Some.conn.now c.write_list.new.self c.in-Some.ensures.value (c.get_mut.follows.holds c.write_list.new.self).0 in
    match_ok c.write_list.result (λ a. omega (arith, k, a)) (λ b. omega (arith, k, b)) c.write_list.ensures.go

pub returns-in-Some-clause-octets : goal.returns-in-Some-clause-octets
returns-in-Some-clause-octets c = list_written c.write_list.result c.args.going.conn c.args.stream c.args.going.course.flow c.args.last c.args.core.now _ c.in-Some.conn.now c.write_list.new.self (sym c.in-Some.ensures.value) (c.get_mut.follows.holds c.write_list.new.self) c.write_list.ensures.open c.requires.sound.kept (c.write_list.ensures.kept c.args.core.now.config.limits) refl c.write_list.ensures.octets c.write_list.ensures.flows c.write_list.ensures.fills
