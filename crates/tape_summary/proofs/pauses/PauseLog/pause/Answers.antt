-- One more pause of the spot.
use Rattle.tape_summary.proofs.Pausing.{pause_told}
use Rattle.tape_summary.proofs.pauses.PauseLog.pause.Goals as goal
use Rattle.std.proofs.Common.{refl, ◌∙◌}

pub returns : goal.returns
returns c = pause_told c.args.self.now _ c.args.spot c.len.result c.in_ok-until.until (c.len.ensures ∙ c.args.self.now.pauses.ok.0) c.in_ok-until.ensures refl c.in_ok-push.ensures.items
