-- A line and then a write, or else a read.
use Rattle.std.proofs.lemmas.Result.{err_from_is_err_and}
use Rattle.session_run.proofs.Running.{line_step, step_more, write_step}
use Rattle.session_run.proofs.run.Run.step.Goals as goal

pub returns-in_err-take_line-in-Some-clause-steps : goal.returns-in_err-take_line-in-Some-clause-steps
returns-in_err-take_line-in-Some-clause-steps g c =
    let p = err_from_is_err_and c.from_residual.result c.from_residual.ensures.1 in
    rw (p.1, p.2) (line_step c.args.self.now c.take_line.new.self _ _ _ c.in_err-take_line-in-Some.ensures.takes)

pub returns-in_ok-take_line-in-Some-clause-steps : goal.returns-in_ok-take_line-in-Some-clause-steps
returns-in_ok-take_line-in-Some-clause-steps g c =
    step_more c.args.self.now c.take_line.new.self c.write_piece.new.self _ _ _ _ _ _ _ (line_step c.args.self.now c.take_line.new.self _ _ _ c.in_ok-take_line-in-Some.ensures.takes)
    (write_step c.take_line.new.self c.write_piece.new.self _ _ _ _ c.write_piece.ensures.writes)
