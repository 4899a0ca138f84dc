-- By what the run of the workers answered, and why the loop ended.
use Rattle.proxy_wire.proofs.Running.{cause_by, works_by}
use Rattle.proxy_wire.proofs.working.work_all.Goals as goal

pub returns-clause-works : goal.returns-clause-works
returns-clause-works g c = works_by _ c.args.shared.now c.args.task.now.turns c.args.address.now c.args.workers.now c.run_beside-ends.new.workers c.run_beside-ends.result.0 _ _ c.end_of.result c.in_default.ensures.ok c.run_beside-ends.ensures.ok c.run_beside-ends.ensures.err c.end_of.ensures.so

pub returns-clause-cause : goal.returns-clause-cause
returns-clause-cause g c f =
    cause_by _ c.args.shared.now c.args.task.now.turns c.args.workers.now c.run_beside-ends.new.workers c.run_beside-ends.result.0 c.run_beside-ends.result.1 _ _ _ _ _ c.run_beside-ends.ensures.ok c.end_of.ensures.cause c.run_beside-ends.ensures.failed.rose f
