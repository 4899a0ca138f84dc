-- By the stage.
use Rattle.session_lines.proofs.Readings.{other_stage, plays_now, plays_stage}
use Rattle.session_lines.proofs.order.Order.is_playing.Goals as goal

pub returns-in-Plays-clause-stage : goal.returns-in-Plays-clause-stage
returns-in-Plays-clause-stage c = plays_stage c.args.self.now _ c.in-Plays.is

pub returns-in_default : goal.returns-in_default
returns-in_default c =
    let e = other_stage c.args.self.now c.in_default.not-Plays in
    record { lines = plays_now c.args.self.now _ e; stage = e }
