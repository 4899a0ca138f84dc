-- A place behind all others.
use Rattle.tape_summary.proofs.Placing.{added}
use Rattle.tape_summary.proofs.tracks.Tracks.add.Goals as goal
use Rattle.std.proofs.Common.{◌∙◌}

pub returns : goal.returns
returns c = added c.args.self.now _ c.args.spot c.new.result c.len-at.result (c.len-at.ensures ∙ c.args.self.now.spots.ok.0) c.in_ok-push.ensures.items c.in_ok-push-2.ensures.items c.new.ensures.waiting c.new.ensures.early c.in_ok-insert.ensures.updates
