-- The session was run under the configuration that was read, or there is none.
use Rattle.replay_run.proofs.Configuring.{config_fault, end_not_usage, loaded, none_under, relay_not_usage, run_under}
use Rattle.std.proofs.Common.{inl, inr}
use Rattle.replay_run.proofs.relay.replay_relay.Goals as goal

pub run_relay-end-requires : goal.run_relay-end-requires
run_relay-end-requires g c = loaded _ _ _ c.in-Ok.keys c.in-Ok.is c.load_config.ensures.loads

pub returns-in-Ok-clause-tape : goal.returns-in-Ok-clause-tape
returns-in-Ok-clause-tape g c = run_under _ _ _ _ _ _ _ _ _ c.in-Ok.keys c.in-Ok.is c.load_config.ensures.loads (λ text e. c.run_relay-end.ensures.tape text e)

pub returns-in-Ok-clause-some : goal.returns-in-Ok-clause-some
returns-in-Ok-clause-some g c =
    let l = loaded _ _ _ c.in-Ok.keys c.in-Ok.is c.load_config.ensures.loads in
    relay_not_usage l.0 _ _ _ _ _ (c.run_relay-end.ensures.tape l.0 l.1)

pub returns-in-Ok-clause-read_fault : goal.returns-in-Ok-clause-read_fault
returns-in-Ok-clause-read_fault g c = λ e. inr (c.run_relay-end.ensures.read_fault e)

pub returns-in-Err-clause-tape : goal.returns-in-Err-clause-tape
returns-in-Err-clause-tape g c = none_under _ _ _ _ _ _ _ _ c.in-Err.end c.in-Err.is c.load_config.ensures.loads c.end_at_config.ensures.ends

pub returns-in-Err-clause-some : goal.returns-in-Err-clause-some
returns-in-Err-clause-some g c = end_not_usage c.in-Err.end _ c.end_at_config.ensures.status

pub returns-in-Err-clause-read_fault : goal.returns-in-Err-clause-read_fault
returns-in-Err-clause-read_fault g c = λ e. inl (config_fault _ _ _ c.in-Err.end c.in-Err.is c.load_config.ensures.cause (c.end_at_config.ensures.read_fault e))
