use Rattle.std.proofs.Common.{ap, arith}
use Rattle.std.specs.Prelude.{List, length}
use Rattle.wire_turns.proofs.firing.take_due.Goals as goal
use Rattle.wire_state.proofs.Timing.{due_fewer}
use Rattle.wire_state.specs.Progress.{to_go}
use Rattle.wire_timers.specs.Armed.{Timeouts}
use Rattle.wire_timers.specs.declared.due.Due.{Due}

pub returns-clause-sound : goal.returns-clause-sound
returns-clause-sound c =
    let t = ap (λ (v : Timeouts). v.latest) c.in_ok-due.ensures.left in
    record {
      range = c.requires.sound.range;
      moment = c.requires.sound.moment;
      armed = omega (arith, t);
      metered = c.requires.sound.metered;
      live = c.requires.sound.live;
      kept = c.requires.sound.kept;
    }

pub returns-clause-go : goal.returns-clause-go
unfolding to_go
returns-clause-go c =
    let a = ap (λ (v : Timeouts). length v.armed) c.in_ok-due.ensures.left in
    let d = ap (λ (ds : List Due). length ds) c.in_ok-due.ensures.due in
    omega (arith, a, d, due_fewer c.args.core.now.now c.args.core.now.timers)
