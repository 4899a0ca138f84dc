use Rattle.tcp_relay.proofs.Rested.{goes_on_ok, refuses, stops}
use Rattle.tcp_relay.proofs.relay.Relay.dispatch.Goals as goal

pub returns-clause-ok : goal.returns-clause-ok
returns-clause-ok c = goes_on_ok c.attempt.result c.args.self.now c.args.notes.now c.args.event.now c.attempt.new.self c.attempt.new.notes c.attempt.ensures.ok

pub returns-clause-paused : goal.returns-clause-paused
returns-clause-paused c = refuses c.attempt.result c.args.self.now c.args.notes.now c.args.event.now c.attempt.new.self c.attempt.new.notes c.attempt.ensures.paused

pub returns-clause-cut : goal.returns-clause-cut
returns-clause-cut c = λ e. stops c.args.self.now c.args.notes.now c.args.event.now c.attempt.new.notes (c.attempt.ensures.cut e)
