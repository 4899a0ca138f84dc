-- No octet is read.
use Rattle.std.proofs.Common.{refl}
use Rattle.session_run.proofs.Running.{run_begun}
use Rattle.session_run.proofs.run.Run.new.Goals as goal

pub returns : goal.returns
returns g c = record { run = λ config k. run_begun _ config c.requires k c.new.ensures refl refl }
