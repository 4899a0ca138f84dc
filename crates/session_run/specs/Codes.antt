-- The exit code of each status.
use Rattle.session_run.specs.declared.status.Status.{Status}
use Rattle.std.specs.Prelude.{ℕ}
use Rattle.session_run.specs.declared.status.Status.TheVariants as status

abbrev pub status_code : Status → ℕ
status_code status.Done = 0
status_code status.Usage = 2
status_code status.Config = 3
status_code status.Session = 4
status_code status.ReadFault = 5
status_code status.WriteFault = 6
status_code status.Memory = 7
status_code status.TooLong = 9
