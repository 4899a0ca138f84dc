-- A step of writing, and then one of reading.
use Rattle.std.proofs.Common.{ap, length}
use Rattle.std.proofs.lemmas.Result.{err_from_is_err_and}
use Rattle.session_run.proofs.Running.{judged_step, read_step, step_more, write_step}
use Rattle.session_run.proofs.run.Run.read_more.Goals as goal

pub returns-in-Some-clause-steps : goal.returns-in-Some-clause-steps
returns-in-Some-clause-steps g c = (judged_step c.args.self.now _ _ (length c.held.result.now) _ c.in-Some.status (ap length c.held.ensures.held) c.requires.whole c.in-Some.is c.judge.ensures).0

pub returns-in_err-write-clause-steps : goal.returns-in_err-write-clause-steps
returns-in_err-write-clause-steps g c =
    let p = err_from_is_err_and c.from_residual.result c.from_residual.ensures.1 in
    rw (p.1, p.2) (write_step c.args.self.now c.write.new.self _ _ _ _ c.in_err-write.ensures.writes)

pub returns-clause-steps : goal.returns-clause-steps
returns-clause-steps g c = step_more c.args.self.now c.write.new.self c.refill.new.self _ _ _ _ _ _ _ (write_step c.args.self.now c.write.new.self _ _ _ _ c.in_ok-write.ensures.writes) (read_step c.write.new.self c.refill.new.self _ _ _ _ c.refill.ensures.refills)
