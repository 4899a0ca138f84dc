use Rattle.std.proofs.Common.{ap, arith}
use Rattle.std.specs.Prelude.{length, ◌≡◌}
use Rattle.wire_state.proofs.Results.{ok_map}
use Rattle.wire_state.proofs.Timing.{armed_more, armed_until}
use Rattle.wire_state.proofs.wire_core.WireCore.arm.Goals as goal
use Rattle.wire_state.specs.Progress.{to_go}
use Rattle.wire_timers.specs.Armed.{Timeouts, armed_anew}

pub returns-clause-sound : goal.returns-clause-sound
returns-clause-sound c =
    ok_map c.arm.result (λ (e : c.arm.new.self ≡ armed_anew c.args.kind c.args.id c.args.self.now.now c.args.self.now.timers).
    let f = ap (λ (t : Timeouts). t.latest) e in
    let u = armed_until c.args.kind c.args.id c.args.self.now.now c.args.self.now.timers c.requires.sound.armed in
    record {
      range = c.requires.sound.range;
      moment = c.requires.sound.moment;
      armed = omega (arith, f, u);
      metered = c.requires.sound.metered;
      live = c.requires.sound.live;
      kept = c.requires.sound.kept;
    }) c.arm.ensures.ok

pub returns-clause-go : goal.returns-clause-go
unfolding to_go
returns-clause-go c =
    ok_map c.arm.result (λ (e : c.arm.new.self ≡ armed_anew c.args.kind c.args.id c.args.self.now.now c.args.self.now.timers).
    let f = ap (λ (t : Timeouts). length t.armed) e in
    omega (arith, f, armed_more c.args.kind c.args.id c.args.self.now.now c.args.self.now.timers)) c.arm.ensures.ok
