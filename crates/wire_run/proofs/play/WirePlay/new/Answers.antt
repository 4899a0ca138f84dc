-- Nothing was read, and the session stands for the empty tape.
use Rattle.std.proofs.Common.{ap}
use Rattle.std.specs.Prelude.{length}
use Rattle.wire_run.proofs.Playing.{play_begins}
use Rattle.wire_run.proofs.play.WirePlay.new.Goals as goal

pub returns : goal.returns
returns c = λ text configured.
    play_begins _ c.args.config text _ _ _ _ configured c.in-Ok.ensures c.known.ensures (ap length c.as_slice.ensures.rows) c.new-lines.ensures c.in-Ok-new-2.ensures.well c.in-Ok-new-2.ensures.sound c.in-Ok-new-2.ensures.turn
    c.in-Ok-new-2.ensures.new.0 c.in-Ok-new-2.ensures.octets c.limits_of.ensures c.new-log.ensures.log c.new-log.ensures.unsaid c.as_slice-2.ensures.rows c.in-Ok-new.ensures
