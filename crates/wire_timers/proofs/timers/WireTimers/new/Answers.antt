use Rattle.wire_timers.specs.Held.{find_in}
use Rattle.wire_timers.proofs.Changing.{held-empty}
use Rattle.wire_timers.proofs.timers.WireTimers.new.Goals as goal

pub invariant_of-result : goal.invariant_of-result
invariant_of-result c = held-empty c.spans-kinds.result (find_in c.new-2.result) c.in_ok-new.field-0 c.in_ok-new.ensures c.new-2.ensures
