-- The session was run under the configuration that was read, or there is none.
use Rattle.replay_run.proofs.Configuring.{config_fault, end_not_usage, loaded, none_under, run_under, shed_completed, shed_unconfigured}
use Rattle.std.proofs.Common.{inl, inr}
use Rattle.replay_run.proofs.shed.replay_shed.Goals as goal

pub run_shed-end-requires-clause-configured : goal.run_shed-end-requires-clause-configured
run_shed-end-requires-clause-configured g c = loaded _ _ _ c.in-Ok.keys c.in-Ok.is c.load_config.ensures.loads

pub returns-in-Ok-clause-tape : goal.returns-in-Ok-clause-tape
returns-in-Ok-clause-tape g c = run_under _ _ _ _ _ _ _ _ _ c.in-Ok.keys c.in-Ok.is c.load_config.ensures.loads (λ text e. c.run_shed-end.ensures.tape text e)

pub returns-in-Ok-clause-completes : goal.returns-in-Ok-clause-completes
returns-in-Ok-clause-completes g c = shed_completed _ _ _ _ _ c.in-Ok.keys c.in-Ok.is c.load_config.ensures.loads (λ text e. c.run_shed-end.ensures.completes text e)

pub returns-in-Ok-clause-read_fault : goal.returns-in-Ok-clause-read_fault
returns-in-Ok-clause-read_fault g c = λ e. inr (c.run_shed-end.ensures.read_fault e)

pub returns-in-Err-clause-tape : goal.returns-in-Err-clause-tape
returns-in-Err-clause-tape g c = none_under _ _ _ _ _ _ _ _ c.in-Err.end c.in-Err.is c.load_config.ensures.loads c.end_at_config.ensures.ends

pub returns-in-Err-clause-completes : goal.returns-in-Err-clause-completes
returns-in-Err-clause-completes g c = shed_unconfigured _ _ _ _ _ c.in-Err.end c.in-Err.is c.load_config.ensures.loads c.end_at_config.ensures.status

pub returns-in-Err-clause-some : goal.returns-in-Err-clause-some
returns-in-Err-clause-some g c = end_not_usage c.in-Err.end _ c.end_at_config.ensures.status

pub returns-in-Err-clause-read_fault : goal.returns-in-Err-clause-read_fault
returns-in-Err-clause-read_fault g c = λ e. inl (config_fault _ _ _ c.in-Err.end c.in-Err.is c.load_config.ensures.cause (c.end_at_config.ensures.read_fault e))
