use Rattle.std.proofs.Common.{◌≡◌, drop}
use Rattle.wire_timers.specs.Held.{find_in, Spent}
use Rattle.wire_timers.proofs.tokens.give_back_fired.Given as goal

abbrev pub invariant-loop-timer : goal.invariant-loop-timer
invariant-loop-timer l = record {
  spent : Spent (find_in l.tokens) l.timers (drop l.timer-index l.fired);
  others : l.timers ≡ record l.initial.timers { fired = l.timers.fired };
}
