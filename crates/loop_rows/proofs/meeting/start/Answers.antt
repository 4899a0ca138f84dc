-- What is kept of permits, however the start ended.
use Rattle.loop_rows.proofs.Started.{by_result, ready_holds, worked_holds}
use Rattle.loop_rows.specs.Meetings.{in_memory}
use Rattle.std.proofs.Common.{ap}
use Rattle.std.specs.Prelude.{length}
use Rattle.worker_threads.specs.Starting.{WorkedEach}
use Rattle.loop_rows.proofs.meeting.start.Goals as goal

pub start_workers-requires-clause-ready : goal.start_workers-requires-clause-ready
start_workers-requires-clause-ready g c κs within = c.requires

pub returns-clause-len : goal.returns-clause-len
returns-clause-len g c =
    by_result (λ ends. WorkedEach in_memory c.args.shared.now 5 c.args.workers.now ends.items c.start_workers.new.workers) c.start_workers.result c.start_workers.ensures.ok c.start_workers.ensures.err
    (λ ends worked. worked.same) (λ same. ap length same)

pub returns-clause-each : goal.returns-clause-each
returns-clause-each g c =
    by_result (λ ends. WorkedEach in_memory c.args.shared.now 5 c.args.workers.now ends.items c.start_workers.new.workers) c.start_workers.result c.start_workers.ensures.ok c.start_workers.ensures.err
    (λ ends worked. worked_holds in_memory c.args.shared.now 5 c.args.workers.now ends.items c.start_workers.new.workers worked)
    (λ same. ready_holds in_memory c.args.shared.now c.args.workers.now c.start_workers.new.workers c.requires same)
