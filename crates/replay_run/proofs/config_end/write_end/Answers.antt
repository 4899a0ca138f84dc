-- The line is written, or a front of it.
use Rattle.replay_run.proofs.Configuring.{end_cut, end_read_fault, end_write_fault, end_written}
use Rattle.replay_run.proofs.config_end.write_end.Goals as goal

pub returns-in-Ok-clause-ends : goal.returns-in-Ok-clause-ends
returns-in-Ok-clause-ends g c = end_written c.args.end _ _ _ _ c.requires c.in-Ok.ensures.ok c.of_end.ensures

pub returns-in-Ok-clause-read_fault : goal.returns-in-Ok-clause-read_fault
returns-in-Ok-clause-read_fault g c = end_read_fault c.args.end _ c.of_end.ensures

pub returns-in-Ok-clause-write_fault : goal.returns-in-Ok-clause-write_fault
returns-in-Ok-clause-write_fault g c = λ e. absurd (end_write_fault c.args.end _ c.of_end.ensures e)

pub returns-in-Err-clause-ends : goal.returns-in-Err-clause-ends
returns-in-Err-clause-ends g c = end_cut c.args.end _ _ _ c.requires c.in-Err.ensures.front
