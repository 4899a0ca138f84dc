-- A line is written, or a front of it.
use Rattle.worker_loop.proofs.events.put.Goals as goal

pub returns-in-Ok-clause-keeps : goal.returns-in-Ok-clause-keeps
returns-in-Ok-clause-keeps g c = c.in-Ok.ensures.ok

pub returns-in-Ok-clause-told : goal.returns-in-Ok-clause-told
returns-in-Ok-clause-told g c = c.line.ensures.told

pub returns-in-Ok-clause-cause : goal.returns-in-Ok-clause-cause
returns-in-Ok-clause-cause g c = λ e. cc

pub returns-in-Ok-clause-no_fall : goal.returns-in-Ok-clause-no_fall
returns-in-Ok-clause-no_fall g c = c.line.ensures.no_fall

pub returns-in-Err-clause-keeps : goal.returns-in-Err-clause-keeps
returns-in-Err-clause-keeps g c = c.line.ensures.front

pub returns-in-Err-clause-told : goal.returns-in-Err-clause-told
returns-in-Err-clause-told g c = c.line.ensures.told

pub returns-in-Err-clause-cause : goal.returns-in-Err-clause-cause
returns-in-Err-clause-cause g c = λ e. c.in-Err.ensures.cause

pub returns-in-Err-clause-no_fall : goal.returns-in-Err-clause-no_fall
returns-in-Err-clause-no_fall g c = c.line.ensures.no_fall
