use Rattle.std.proofs.Common.{subst, sym}
use Rattle.std.specs.Prelude.{◌≤◌}
use Rattle.wire_turns.proofs.events.obey.Goals as goal
use Rattle.wire_state.proofs.Soundness.{timers_sound}
use Rattle.wire_timers.specs.Armed.{Timeouts}

pub begin-requires : goal.begin-requires
begin-requires c =
    let k = c.args.core.now in
    record { sound = timers_sound k.config k.now k.links k.conns k.flows k.timers c.requires.sound c.set_state.new.self (subst (λ (t : Timeouts). t.latest ≤ k.now) (sym c.set_state.ensures) c.requires.sound.armed) }
