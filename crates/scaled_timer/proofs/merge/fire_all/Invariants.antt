use Rattle.std.proofs.Common.{◌≡◌, ◌⊎◌, ◌+◌, ◌≤◌, ◌++◌, List, [], map, length, vec_len}
use Rattle.std.specs.Vec.{vec_capacity}
use Rattle.scaled_timer.specs.Due.{Armed, due_timers, waiting_timers}
use Rattle.scaled_timer.specs.Timing.{firing, names_of}
use Rattle.scaled_timer.specs.Entries.{armed_of}
use Rattle.scaled_timer.specs.Merge.{HasFronts, AreKept, FewerKept}
use Rattle.scaled_timer.proofs.merge.fire_all.Given as goal

abbrev pub invariant-loop-next : goal.invariant-loop-next
invariant-loop-next l =
    let due : List Armed = due_timers l.kinds l.ppm l.now (armed_of l.lists.lists) in
    let first : List Armed = due_timers l.kinds l.ppm l.now (armed_of l.initial.lists.lists) in
    record {
      told : l.fired.items ++ map firing due ≡ map firing first;
      names : l.lists.retired ++ names_of due ≡ l.initial.lists.retired ++ names_of first;
      waiting : waiting_timers l.kinds l.ppm l.now (armed_of l.lists.lists) ≡ waiting_timers l.kinds l.ppm l.now (armed_of l.initial.lists.lists);
      room : (due ≡ []) ⊎ (vec_len l.fired + length (armed_of l.lists.lists) ≤ vec_capacity l.fired);
      fronts : HasFronts l.kinds l.ppm l.now l.lists.lists (length l.kinds) l.queue.fronts;
      kept : AreKept (length l.kinds) l.ppm l.lists.lists;
      fewer : FewerKept (vec_len l.fired) (length l.kinds) l.ppm l.initial.lists.lists l.lists.lists;
      left : vec_len l.fired + length (armed_of l.lists.lists) ≡ length (armed_of l.initial.lists.lists);
    }

abbrev pub decreases-loop-next : goal.decreases-loop-next
decreases-loop-next l = length (armed_of l.lists.lists)
