-- The workers ran, or none did, and what they worked over went back.
use Rattle.proxy_wire.proofs.Running.{pool_back, fault_of_one}
use Rattle.proxy_wire.proofs.working.run.Goals as goal

pub returns-clause-ran : goal.returns-clause-ran
returns-clause-ran g c = pool_back g.M.Meter.bare _ g.T.W.Wires.seen c.args.task.now.config.now c.args.task.now.turns c.args.address.now c.work_pool-end.new.pool.shared _ _ _ c.work_pool-end.new.pool.workers.items _ _ c.work_pool-end.result c.work_pool-end.ensures.works c.give_back_all.ensures.wired

pub returns-clause-write_fault : goal.returns-clause-write_fault
returns-clause-write_fault g c = fault_of_one _ _ _ _ _ _ _ c.work_pool-end.new.pool.workers.items c.work_pool-end.ensures.no_fall.0 c.give_back_all.ensures.no_fall c.work_pool-end.ensures.cause c.give_back_all.ensures.count
