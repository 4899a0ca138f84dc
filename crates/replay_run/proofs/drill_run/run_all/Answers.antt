-- Event after event is dispatched.
use Rattle.replay_run.proofs.DrillRuns.{drill_tallied, drilled_more, drilled_none, given_none, given_some, may_take}
use Rattle.replay_run.proofs.Drilling.{events_less}
use Rattle.replay_run.proofs.drill_run.run_all.Goals as goal

pub events-init : goal.events-init
events-init c = record { stands = drilled_none c.args.streams _ _ _ c.requires.few c.requires.rests c.new-drill.ensures c.new-tally.ensures }

pub next-requires : goal.next-requires
next-requires c = let k = c.events.invariant.stands in (k.later, k.left)

pub count_event-requires : goal.count_event-requires
count_event-requires c =
    let k = c.events.invariant.stands in
    may_take c.args.streams _ _ _ _ _ k (given_some _ _ _ _ c.in_ok-event.ensures c.in-Some.is)

pub events-preserved : goal.events-preserved
events-preserved c =
    let k = c.events.invariant.stands in
    record { stands = drilled_more c.args.streams _ _ _ _ _ _ _ k (given_some _ _ _ _ c.in_ok-event.ensures c.in-Some.is) c.in_ok-count_event.ensures }

pub events-smaller : goal.events-smaller
events-smaller c = let k = c.events.invariant.stands in events_less _ _ _ _ k.later k.left c.in_ok-event.ensures c.in-Some.is

pub returns : goal.returns
returns c = let k = c.events.invariant.stands in drill_tallied c.args.streams _ _ _ _ k (given_none _ _ _ c.in_ok-event.ensures c.in_default.not-Some)
