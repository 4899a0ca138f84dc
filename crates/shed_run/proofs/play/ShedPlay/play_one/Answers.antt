-- The event is played, or nothing of it.
use Rattle.shed_run.proofs.Parts.{none_told, on_err, one_played}
use Rattle.shed_run.proofs.play.ShedPlay.play_one.Goals as goal

pub returns-in_err-event-clause-err : goal.returns-in_err-event-clause-err
returns-in_err-event-clause-err c = on_err c.from_residual.result (none_told c.args.self.now.play c.event.new.self c.args.event.now c.args.text.now c.event.new.text _ c.requires c.in_err-event.ensures)

pub returns-clause-ok : goal.returns-clause-ok
returns-clause-ok c = one_played c.args.self.now.play c.event.new.self c.args.event.now _ c.args.text.now c.event.new.text c.in_ok-event.ensures
