use Rattle.std.proofs.Common.{ap, arith}
use Rattle.wire_state.proofs.Fresh.{first_counts}
use Rattle.wire_state.proofs.Goings.{first_stands}
use Rattle.wire_state.proofs.Soundness.{empty_kept, empty_live}
use Rattle.wire_state.proofs.wire_core.WireCore.new.Goals as goal
use Rattle.wire_timers.specs.Armed.{Timeouts}

pub returns-clause-sound : goal.returns-clause-sound
returns-clause-sound c =
    let t = ap (λ (v : Timeouts). v.latest) c.in_ok-timers.ensures.none in
    record {
      range = c.requires;
      moment = omega arith;
      armed = omega (arith, t);
      metered = omega (arith, c.new-6.ensures.empty.time);
      live = empty_live c.new-3.result c.new-6.result c.new-3.ensures c.new-6.ensures.empty.live;
      kept = empty_kept c.args.config.limits c.new-4.result c.new-4.ensures.empty;
    }

pub returns-clause-octets : goal.returns-clause-octets
returns-clause-octets c = record {
  stands = first_stands c.new-4.result c.new-6.result c.new-3.result c.new-4.ensures.empty c.new-6.ensures.empty.live c.new-6.ensures.empty.last c.new-3.ensures;
  counts = first_counts c.args.config.limits c.new-4.result c.new-6.result c.new-4.ensures.empty c.new-6.ensures.empty c.new-6.ensures.sound;
}
