use Rattle.std.proofs.Common.{ap, arith, false, length, subst, sym, ◌≡◌, ◌≤◌}
use Rattle.wire_outlet.proofs.Ready.{appended}
use Rattle.wire_outlet.proofs.outlet.Outlet.farewell.Goals as goal
use Rattle.wire_outlet.specs.Outgoing.{IsReady, Outgoing}

pub returns-clause-ready : goal.returns-clause-ready
returns-clause-ready c unit large ready =
    let was : IsReady unit c.self.inside.write = subst (λ (o : Outgoing). IsReady unit o.write) (sym c.self.view_is) ready in
    let low : c.self.inside.write.above ≡ false = subst (λ (o : Outgoing). o.write.above ≡ false) (sym c.self.view_is) c.requires.open in
    let fits : length c.as_slice.result.now ≤ unit = omega (arith, c.into_octets-octets.ensures.fits, ap length c.as_slice.ensures) in
    appended unit c.as_slice.result.now c.self.inside.write c.add.new.self was low fits c.in_ok-crossed.ensures.appends
