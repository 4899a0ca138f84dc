use Rattle.std.proofs.Common.{ap, arith}
use Rattle.std.specs.Prelude.{length}
use Rattle.wire_state.proofs.Timing.{disarmed_fewer}
use Rattle.wire_state.proofs.wire_core.WireCore.disarm.Goals as goal
use Rattle.wire_state.specs.Progress.{to_go}
use Rattle.wire_timers.specs.Armed.{Timeouts}

pub returns-clause-sound : goal.returns-clause-sound
returns-clause-sound c =
    let f = ap (λ (t : Timeouts). t.latest) c.disarm.ensures in
    record {
      range = c.requires.sound.range;
      moment = c.requires.sound.moment;
      armed = omega (arith, f, c.requires.sound.armed);
      metered = c.requires.sound.metered;
      live = c.requires.sound.live;
      kept = c.requires.sound.kept;
    }

pub returns-clause-go : goal.returns-clause-go
unfolding to_go
returns-clause-go c =
    let f = ap (λ (t : Timeouts). length t.armed) c.disarm.ensures in
    omega (arith, f, disarmed_fewer c.args.kind c.args.id c.args.self.now.timers)
