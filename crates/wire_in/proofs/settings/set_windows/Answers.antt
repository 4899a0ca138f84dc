use Rattle.std.proofs.Common.{ap, arith, refl, sym}
use Rattle.wire_in.proofs.Settled.{same_kept}
use Rattle.wire_in.proofs.settings.set_windows.Goals as goal
use Rattle.wire_state.proofs.Goings.{conn_keeps}
use Rattle.wire_state.proofs.Keeping.{kept_changed}
use Rattle.wire_state.proofs.Soundness.{conns_sound}
use Rattle.wire_state.proofs.Weights.{conn_changed}
use Rattle.wire_state.specs.Progress.{to_go}

pub returns-in-Some-clause-sound : goal.returns-in-Some-clause-sound
returns-in-Some-clause-sound c =
    let k = c.args.core.now in
    let new = c.get_mut.follows.lender c.set_windows_of.new.conn in
    conns_sound k.config k.now k.links k.conns k.flows k.timers c.requires.sound new
    (kept_changed k.config.limits c.args.number k.conns new c.in-Some.conn.now c.set_windows_of.new.conn (sym c.in-Some.ensures.value) (c.get_mut.follows.holds c.set_windows_of.new.conn) c.requires.sound.kept
    (same_kept k.config.limits c.in-Some.conn.now.outlet c.set_windows_of.new.conn.outlet c.set_windows_of.ensures.write c.set_windows_of.ensures.waiting))

pub returns-in-Some-clause-go : goal.returns-in-Some-clause-go
unfolding to_go
returns-in-Some-clause-go c =
    omega (arith, conn_changed c.args.number c.args.core.now.conns.entries (c.get_mut.follows.lender c.set_windows_of.new.conn).entries c.in-Some.conn.now c.set_windows_of.new.conn c.in-Some.ensures.value (c.get_mut.follows.holds c.set_windows_of.new.conn).0, c.set_windows_of.ensures.go)

pub returns-in-Some-clause-octets : goal.returns-in-Some-clause-octets
returns-in-Some-clause-octets c =
    conn_keeps c.args.number c.args.core.now _ c.in-Some.conn.now c.set_windows_of.new.conn (sym c.in-Some.ensures.value) (c.get_mut.follows.holds c.set_windows_of.new.conn) c.set_windows_of.ensures.write c.set_windows_of.ensures.opened refl refl
