use Rattle.std.proofs.Common.{ap, ◌∙◌}
use Rattle.std.specs.Prelude.{Err, Ok, []}
use Rattle.tcp_relay.proofs.Attempts.{refuses_none, refuses_same, turns_alone}
use Rattle.tcp_relay.proofs.Keeping.{tells}
use Rattle.tcp_relay.proofs.Rested.{goes_on, refuses}
use Rattle.tcp_relay.proofs.relay.Relay.carry_out.Goals as goal
use Rattle.tcp_relay.specs.Board.{board_of, held_for}
use Rattle.tcp_relay.specs.Interests.{interests_of}
use Rattle.tcp_relay.specs.Turns.{turn_notes}
use Rattle.tcp_relay.specs.declared.effect.Effect.{Effect}
use Rattle.tcp_relay.specs.declared.interests.Interests.{Interests}

pub returns-in-Ok-clause-ok : goal.returns-in-Ok-clause-ok
returns-in-Ok-clause-ok c = goes_on c.args.self.now [] c.args.event.now c.take.new.self (turn_notes c.args.self.now c.args.event.now)
    (turns_alone c.args.self.now c.take.new.self c.args.event.now c.in-Ok.effect c.in-Ok.ensures.ok c.in-Ok.ensures.reads)

pub returns-in-Ok-clause-paused : goal.returns-in-Ok-clause-paused
returns-in-Ok-clause-paused c = refuses {A = Interests} (Ok c.interests_of.result) c.args.self.now [] c.args.event.now c.take.new.self []
    (λ w. refuses_none (held_for c.args.event.now (board_of c.args.self.now.table)) c.args.self.now c.take.new.self c.in-Ok.effect c.interests_of.result (c.in-Ok.ensures.paused w))

pub returns-in-Ok-clause-interests : goal.returns-in-Ok-clause-interests
returns-in-Ok-clause-interests c = tells c.args.self.now c.take.new.self c.args.event.now c.interests_of.result
    (c.interests_of.ensures ∙ ap (λ (done : Effect). interests_of c.args.event.now done) c.in-Ok.ensures.ok.is)
    (turns_alone c.args.self.now c.take.new.self c.args.event.now c.in-Ok.effect c.in-Ok.ensures.ok c.in-Ok.ensures.reads)

pub returns-in-Err-clause-paused : goal.returns-in-Err-clause-paused
returns-in-Err-clause-paused c = refuses {A = Interests} (Err c.in-Err.fault) c.args.self.now [] c.args.event.now c.take.new.self []
    (λ w. refuses_same (held_for c.args.event.now (board_of c.args.self.now.table)) c.args.self.now c.take.new.self c.in-Err.fault (c.in-Err.ensures.paused w))
