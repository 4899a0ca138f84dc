use Rattle.std.proofs.Common.{ap, arith, length, ◌≤◌}
use Rattle.wire_outlet.proofs.Entries.{within}
use Rattle.wire_outlet.proofs.control.Control.settings.Goals as goal

pub invariant_of-result : goal.invariant_of-result
invariant_of-result c =
    let none : length c.new-octets.result ≤ 24 = omega (arith, ap length c.new-octets.ensures) in
    within c.new-octets.result c.push_settings.new.into c.args.settings.now c.in_ok-push_settings.ensures none c.requires
