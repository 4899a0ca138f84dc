use Rattle.std.proofs.Common.{length}
use Rattle.wire_rows.proofs.timers.say_all.Given as goal

abbrev pub decreases-take : goal.decreases-take
decreases-take l = length l.due
