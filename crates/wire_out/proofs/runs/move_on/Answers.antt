use Rattle.std.proofs.Common.{ap, arith}
use Rattle.wire_flows.specs.Measure.{taken_by}
use Rattle.wire_out.proofs.runs.move_on.Goals as goal
use Rattle.wire_state.proofs.Results.{ok_map}
use Rattle.wire_state.proofs.Moving.{moved_told}
use Rattle.wire_state.proofs.Stepping.{still_told}
use Rattle.wire_state.specs.Progress.{to_go}

pub returns-in-Moved-clause-go : goal.returns-in-Moved-clause-go
unfolding to_go
returns-in-Moved-clause-go c =
    let t = ap taken_by c.in-Moved.is in
    ok_map c.go_on.result (λ g. omega (arith, g, t, c.in_ok-moved.ensures.less)) c.go_on.ensures.go

pub returns-in-TooLarge-clause-go : goal.returns-in-TooLarge-clause-go
unfolding to_go
returns-in-TooLarge-clause-go c = ok_map c.overfull.result (λ g. omega (arith, g, c.in_ok-moved.ensures.less)) c.overfull.ensures.go

pub returns-in-Still-clause-go : goal.returns-in-Still-clause-go
unfolding to_go
returns-in-Still-clause-go c = ok_map c.stop.result (λ g. omega (arith, g, c.in_ok-moved.ensures.less)) c.stop.ensures.go

pub returns-in-Moved-clause-octets : goal.returns-in-Moved-clause-octets
returns-in-Moved-clause-octets c = record {
  goes = λ h g start t.
      let k = c.args.core.now in
      c.go_on.ensures.octets.goes h g start (moved_told c.args.course.flow k.flows c.step.new.self _ c.in_ok-moved.ensures.outcome c.in_ok-moved.ensures.flow c.in-Moved.moved c.in-Moved.is c.step.ensures.sound c.step.ensures.writes (rw c.in-Moved.is at c.in_ok-moved.ensures.lows) k.conns k.links (c.requires.sound.live c.args.course.flow.exchange) h g start c.args.notes.now t);
}

pub returns-in-TooLarge-clause-octets : goal.returns-in-TooLarge-clause-octets
returns-in-TooLarge-clause-octets c = record {
  goes = λ h g start t.
      let k = c.args.core.now in
      c.overfull.ensures.octets.goes h g start (still_told c.args.course.flow k.flows c.step.new.self _ c.in_ok-moved.ensures.outcome c.in_ok-moved.ensures.flow (λ m e. cc (c.in-TooLarge.is, e)) c.step.ensures.sound c.step.ensures.writes c.in_ok-moved.ensures.lows k.conns k.links h g start c.args.notes.now t);
}

pub returns-in-Still-clause-octets : goal.returns-in-Still-clause-octets
returns-in-Still-clause-octets c = record {
  goes = λ h g start t.
      let k = c.args.core.now in
      c.stop.ensures.octets.goes h g start (still_told c.args.course.flow k.flows c.step.new.self _ c.in_ok-moved.ensures.outcome c.in_ok-moved.ensures.flow (λ m e. cc (c.in-Still.is, e)) c.step.ensures.sound c.step.ensures.writes c.in_ok-moved.ensures.lows k.conns k.links h g start c.args.notes.now t);
}
