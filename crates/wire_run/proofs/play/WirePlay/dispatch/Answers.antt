-- The event was carried out, and its notes were taken up.
use Rattle.std.proofs.Common.{refl}
use Rattle.wire_run.proofs.Playing.{carried}
use Rattle.wire_run.proofs.play.WirePlay.dispatch.Goals as goal

pub returns : goal.returns
returns c = carried c.args.self.now _ c.args.event.now _ _ c.note_all.result c.clear.ensures c.in-Ok.ensures.ok c.in_ok-pass_all.ensures c.note_all.ensures refl refl
