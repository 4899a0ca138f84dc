use Rattle.std.proofs.Common.{arith}
use Rattle.wire_out.proofs.telling.tell.Goals as goal
use Rattle.wire_state.proofs.Telling.{first_is, none_first, none_left_told, none_told_now, told_first}
use Rattle.wire_state.specs.Progress.{to_go}

pub returns-clause-go : goal.returns-clause-go
unfolding to_go
returns-clause-go c = λ more. omega (arith, c.in_ok-run_told.ensures.go, c.in-Some.ensures.less)

pub returns-in_default-clause-told : goal.returns-in_default-clause-told
returns-in_default-clause-told c = λ none.
    let k = c.args.core.now in
    none_left_told c.args.conn k.flows c.next_told.new.self c.next_told.ensures.rest c.next_told.ensures.sound c.next_told.ensures.tells c.next_told.ensures.lows (none_first c.args.conn k.flows c.next_told.result c.in_default.is c.next_told.ensures.first)

pub returns-in_default-clause-octets : goal.returns-in_default-clause-octets
returns-in_default-clause-octets c = record {
  goes = λ h g start t.
      let k = c.args.core.now in
      none_told_now c.args.conn k.flows c.next_told.new.self c.next_told.ensures.rest c.next_told.ensures.sound c.next_told.ensures.tells c.next_told.ensures.lows (none_first c.args.conn k.flows c.next_told.result c.in_default.is c.next_told.ensures.first) k.conns k.links h g start c.args.notes.now t;
}

pub returns-clause-octets : goal.returns-clause-octets
returns-clause-octets c = record {
  goes = λ h g start t.
      let k = c.args.core.now in
      let told = told_first c.args.conn k.flows c.next_told.new.self c.next_told.ensures.rest c.next_told.ensures.sound c.next_told.ensures.tells c.next_told.ensures.lows c.in-Some.flow (first_is c.args.conn k.flows c.in-Some.flow c.next_told.result c.in-Some.is c.next_told.ensures.first) k.conns k.links h g start c.args.notes.now t in
      c.in_ok-note.ensures.paid.goes h g start _ _ _ (c.in_ok-run_told.ensures.octets.goes h g start _ told);
}
