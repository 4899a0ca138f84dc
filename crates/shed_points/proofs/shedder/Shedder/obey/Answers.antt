-- By whether it is shed.
use Rattle.shed_points.proofs.Judging.{obey_judged, post_made, post_not_made}
use Rattle.shed_points.proofs.shedder.Shedder.obey.Goals as goal
use Rattle.std.proofs.Common.{arith, refl}

pub returns-then-not-is_due-clause-judged : goal.returns-then-not-is_due-clause-judged
returns-then-not-is_due-clause-judged c = λ version.
    obey_judged c.args.self.now c.set_states.new.self _ version c.args.pressures.now c.arrive.result (omega (arith, c.if-self-ge-POSTS.false)) c.set_states.new.self.drain.most c.set_states.ensures.states c.set_states.ensures.rests
    c.set_states.ensures.others.0 c.set_states.ensures.others.1 c.set_states.ensures.others.2 c.arrive.ensures.verdict c.arrive.ensures.rest c.arrive.ensures.state refl refl refl refl
    (post_not_made c.set_states.new.self _ c.is_due.result c.is_due.ensures c.if-not-is_due.true)

pub returns-clause-judged : goal.returns-clause-judged
returns-clause-judged c = λ version.
    obey_judged c.args.self.now c.set_states.new.self _ version c.args.pressures.now c.arrive-2.result (omega (arith, c.if-self-ge-POSTS.false)) c.set_states.new.self.drain.most c.set_states.ensures.states c.set_states.ensures.rests
    c.set_states.ensures.others.0 c.set_states.ensures.others.1 c.set_states.ensures.others.2 c.arrive-2.ensures.verdict c.arrive-2.ensures.rest c.arrive-2.ensures.state refl refl refl refl
    (post_made c.set_states.new.self _ c.is_due.result c.is_due.ensures c.if-not-is_due.false)
