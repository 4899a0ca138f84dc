-- Both may run, and keep no more permits than they were given.
use Rattle.loop_rows.proofs.Started.{two_ready}
use Rattle.loop_rows.specs.Meetings.{in_memory}
use Rattle.std.proofs.Common.{arith, subst, sym}
use Rattle.worker_loop.specs.Keeping.{Holds}
use Rattle.loop_rows.proofs.meeting.run_both.Goals as goal

pub start-has_started-requires-after_bounds : goal.start-has_started-requires-after_bounds
start-has_started-requires-after_bounds g c κs within = two_ready in_memory c.args.shared.now c.args.first c.args.second c.requires.first c.requires.second

pub end_worker-met-requires : goal.end_worker-met-requires
end_worker-met-requires g c = subst (λ w. Holds c.args.shared.now.permits w.seat w.held) (sym c.from-first.ensures.0) (c.start-has_started.ensures.each 0 c.from-first.result.0 (omega arith))

pub end_worker-other_met-requires : goal.end_worker-other_met-requires
end_worker-other_met-requires g c = subst (λ w. Holds c.args.shared.now.permits w.seat w.held) (sym c.from-first.ensures.1) (c.start-has_started.ensures.each 1 c.from-first.result.1 (omega arith))
