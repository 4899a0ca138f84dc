use Rattle.h2_windows.proofs.Shifts.{greatest_then_last}
use Rattle.h2_windows.proofs.send_window.greatest_then_last.Goals as goal

pub returns : goal.returns
returns c = greatest_then_last
