-- Event after event is kept.
use Rattle.replay_run.proofs.Drilling.{events_all, events_less, events_more}
use Rattle.replay_run.proofs.Spelled.{drill_is_spelled}
use Rattle.replay_run.proofs.drill.drill_events.Goals as goal

pub loop-events-preserved : goal.loop-events-preserved
loop-events-preserved c =
    let k = c.loop-events.invariant.left in
    record { left = events_more c.args.n _ _ _ _ _ _ k.0 k.1 k.2 c.in_ok-event.ensures c.in-Some.is c.in_ok-push.ensures.ok }

pub loop-events-smaller : goal.loop-events-smaller
loop-events-smaller c =
    let k = c.loop-events.invariant.left in
    events_less _ _ _ _ k.0 k.1 c.in_ok-event.ensures c.in-Some.is

pub returns-clause-drill : goal.returns-clause-drill
returns-clause-drill c =
    let k = c.loop-events.invariant.left in
    events_all c.args.n _ _ _ _ k.0 k.1 k.2 c.in_ok-event.ensures c.in_default.not-Some

pub returns-clause-spelled : goal.returns-clause-spelled
returns-clause-spelled c =
    let k = c.loop-events.invariant.left in
    λ names. drill_is_spelled names c.args.n _ c.requires.few (events_all c.args.n _ _ _ _ k.0 k.1 k.2 c.in_ok-event.ensures c.in_default.not-Some)
