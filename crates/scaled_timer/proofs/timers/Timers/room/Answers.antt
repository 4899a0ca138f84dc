use Rattle.std.proofs.Common.{inr, ap, length, arith}
use Rattle.scaled_timer.specs.Timing.{Timing}
use Rattle.scaled_timer.proofs.Listed.{length-armed}
use Rattle.scaled_timer.proofs.timers.Timers.room.Goals as goal

pub returns-in_ok-with_capacity-clause-room : goal.returns-in_ok-with_capacity-clause-room
returns-in_ok-with_capacity-clause-room c =
    let i = c.self.inside in
    let seen = ap (λ (t : Timing). length t.armed) c.self.view_is in let all = length-armed i.lists.lists in let count = c.self.invariant.count in
    inr (omega (arith, seen, all, count, c.in_ok-with_capacity.ensures.exact))
