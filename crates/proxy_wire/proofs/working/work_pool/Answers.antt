-- The workers that were hired are lent, and lie in the pool again.
use Rattle.proxy_wire.proofs.Running.{cause_back, idle_few, lent_back, lent_ready, lent_works, len_few, none_hired, works_few, works_paid}
use Rattle.std.proofs.Common.{refl}
use Rattle.std.specs.Vec.{with_items}
use Rattle.proxy_wire.proofs.working.work_pool.Goals as goal

pub work_all-requires-clause-ready : goal.work_all-requires-clause-ready
work_all-requires-clause-ready g c lifetimes live = lent_ready g.M.Meter.bare _ c.args.task.now.config.now c.hire_all.new.pool _ _ c.as_mut_slice.result.now c.in-Ok.ensures.all c.as_mut_slice.ensures.value

pub returns-in-Ok-clause-works : goal.returns-in-Ok-clause-works
returns-in-Ok-clause-works g c =
    let back = lent_back _ c.hire_all.new.pool.workers c.hire_all.new.pool.shared c.args.task.now.turns c.args.address.now c.as_mut_slice.result.now c.work_all.new.workers _ _ c.work_all.result c.as_mut_slice.ensures.len c.work_all.ensures.works in
    lent_works g.M.Meter.bare _ c.args.task.now.config.now c.args.task.now.turns c.args.address.now c.hire_all.new.pool _ _ _ c.as_mut_slice.result.now c.work_all.new.workers _ _ _ c.work_all.result c.in-Ok.ensures.all c.work_all.ensures.wired c.as_mut_slice.ensures.value back c.work_all.ensures.works

pub returns-in-Ok-clause-paid : goal.returns-in-Ok-clause-paid
returns-in-Ok-clause-paid g c = works_paid g.M.Meter.bare _ c.args.task.now.config.now c.args.task.now.turns c.args.address.now c.hire_all.new.pool.shared _ _ _ _ _ c.work_all.result (returns-in-Ok-clause-works g c)

pub returns-in-Ok-clause-few : goal.returns-in-Ok-clause-few
returns-in-Ok-clause-few g c =
    len_few (with_items c.hire_all.new.pool.workers c.work_all.new.workers) _ (works_few g.M.Meter.bare _ c.args.task.now.config.now c.args.task.now.turns c.args.address.now c.hire_all.new.pool.shared _ _ _ _ _ c.work_all.result (returns-in-Ok-clause-works g c))

pub returns-in-Err-clause-few : goal.returns-in-Err-clause-few
returns-in-Err-clause-few g c = len_few c.hire_all.new.pool.workers _ (idle_few g.M.Meter.bare _ c.args.task.now.config.now _ _ _ c.hire_all.new.pool.workers.items c.hire_all.ensures.some)

pub returns-in-Ok-clause-cause : goal.returns-in-Ok-clause-cause
returns-in-Ok-clause-cause g c =
    let back = lent_back _ c.hire_all.new.pool.workers c.hire_all.new.pool.shared c.args.task.now.turns c.args.address.now c.as_mut_slice.result.now c.work_all.new.workers _ _ c.work_all.result c.as_mut_slice.ensures.len c.work_all.ensures.works in
    cause_back _ _ _ _ _ _ _ _ c.work_all.new.workers c.hire_all.ensures.no_fall back c.work_all.ensures.cause

pub returns-in-Err-clause-works : goal.returns-in-Err-clause-works
returns-in-Err-clause-works g c = none_hired g.M.Meter.bare _ c.args.task.now.config.now c.args.task.now.turns c.args.address.now c.hire_all.new.pool.shared _ _ c.hire_all.new.pool.workers.items _ _ c.in-Err.end c.hire_all.ensures.some refl c.in-Err.ensures.cut
