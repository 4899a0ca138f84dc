use Rattle.std.proofs.Common.{ap, arith, false, length, subst, sym, ◌≡◌, ◌≤◌}
use Rattle.std.proofs.lemmas.Result.{on_ok_weaker}
use Rattle.wire_outlet.proofs.Ready.{appended}
use Rattle.wire_outlet.proofs.outlet.Outlet.frame_update.Goals as goal
use Rattle.wire_outlet.specs.Outgoing.{IsReady, Outgoing}

pub returns-clause-ready : goal.returns-clause-ready
returns-clause-ready c unit large ready =
    let was : IsReady unit c.self.inside.write = subst (λ (o : Outgoing). IsReady unit o.write) (sym c.self.view_is) ready in
    let low : c.self.inside.write.above ≡ false = subst (λ (o : Outgoing). o.write.above ≡ false) (sym c.self.view_is) c.requires.open in
    let fits : length c.update_octets.result ≤ unit = omega (arith, ap length c.update_octets.ensures) in
    on_ok_weaker c.add.result (appended unit c.update_octets.result c.self.inside.write c.add.new.self was low fits) c.add.ensures.appends
