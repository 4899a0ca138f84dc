-- It is lost, or the event is none of it.
use Rattle.tape_plot.proofs.Passing.{when_ok}
use Rattle.tape_plot.proofs.Writing.{turn_gone, turn_idle}
use Rattle.tape_plot.proofs.connection.Connection.turn.Goals as goal

pub returns-in-Gone : goal.returns-in-Gone
returns-in-Gone c = when_ok _ _ c.forget.result (λ f. turn_gone c.args.self.now _ _ c.args.event.now c.args.clock.now c.in-Gone.is f) c.forget.ensures

pub returns-in_default : goal.returns-in_default
returns-in_default c = turn_idle c.args.self.now c.args.event.now c.args.clock.now c.in_default.not-Gone
