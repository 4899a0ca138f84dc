use Rattle.std.proofs.Common.{ap, arith, false, length, subst, sym, ◌≡◌, ◌≤◌}
use Rattle.hpack_codec.specs.Sections.{list_size}
use Rattle.wire_outlet.proofs.HeadSizes.{greatest}
use Rattle.wire_outlet.proofs.Ready.{appended}
use Rattle.wire_outlet.proofs.outlet.Outlet.frame_block.Goals as goal
use Rattle.wire_outlet.specs.Outgoing.{IsReady, Outgoing}

pub returns-in-Ok-clause-ready : goal.returns-in-Ok-clause-ready
returns-in-Ok-clause-ready c unit large small ready =
    let was : IsReady unit c.self.inside.write = subst (λ (o : Outgoing). IsReady unit o.write) (sym c.self.view_is) ready in
    let low : c.self.inside.write.above ≡ false = subst (λ (o : Outgoing). o.write.above ≡ false) (sym c.self.view_is) c.requires.open in
    let fits : length c.as_slice.result.now ≤ unit =
    omega (arith, c.in_ok-octets.ensures.bound, greatest (list_size c.args.fields.now) small, ap length c.as_slice.ensures) in
    appended unit c.as_slice.result.now c.self.inside.write c.add.new.self was low fits c.in-Ok.ensures.appends
