use Rattle.std.proofs.Common.{ap, arith, length, ◌≤◌}
use Rattle.wire_outlet.proofs.Entries.{within}
use Rattle.wire_outlet.proofs.control.Control.preface_settings.Goals as goal

pub invariant_of-result : goal.invariant_of-result
invariant_of-result c =
    let preface : length c.in_ok-octets.octets ≤ 24 = omega (arith, ap length c.in_ok-octets.ensures) in
    within c.in_ok-octets.octets c.push_settings.new.into c.args.settings.now c.in_ok-push_settings.ensures preface c.requires
