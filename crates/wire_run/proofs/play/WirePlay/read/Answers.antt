-- Lines alone were read.
use Rattle.std.proofs.Common.{refl}
use Rattle.wire_run.proofs.Playing.{lines_read}
use Rattle.wire_run.proofs.play.WirePlay.read.Goals as goal

pub returns-clause-rests : goal.returns-clause-rests
returns-clause-rests c = lines_read c.args.self.now _ refl refl refl
