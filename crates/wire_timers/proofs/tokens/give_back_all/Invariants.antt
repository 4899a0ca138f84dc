use Rattle.std.proofs.Common.{◌≡◌, []}
use Rattle.wire_timers.specs.Held.{find_in, places, Found}
use Rattle.wire_timers.proofs.tokens.give_back_all.Given as goal

abbrev pub invariant-loop-kind : goal.invariant-loop-kind
invariant-loop-kind l = record {
  none_fired : l.timers.fired ≡ [];
  found : Found (find_in l.tokens) l.timers.armed;
}

abbrev pub decreases-loop-kind : goal.decreases-loop-kind
decreases-loop-kind l = places l.tokens
