use Rattle.relay_ports.proofs.Gives.{holds_one}
use Rattle.relay_ports.proofs.mem_taps.MemTapsTaps.hold.Goals as goal
use Rattle.relay_ports.specs.Memory.{Tap, memory_of}
use Rattle.std.proofs.Common.{ap, arith, ◌∙◌}
use Rattle.std.specs.Prelude.{List}

pub invariant_of-self : goal.invariant_of-self
invariant_of-self c = record {
  closes = omega (arith, c.hold.ensures.len, c.self.invariant.closes);
  rises = c.hold.ensures.rises;
  below = c.hold.ensures.below c.self.inside.greatest c.self.invariant.below;
}

pub returns-clause-holds : goal.returns-clause-holds
returns-clause-holds c =
    rw (← c.self.view_is)
    (holds_one c.args.conn c.args.held (memory_of c.self.inside) (record (memory_of c.self.inside) { taps = c.hold.new.taps.entries })
    (ap (λ (taps : List Tap). record (memory_of c.self.inside) { taps = taps }) c.hold.ensures.taps))

pub returns-clause-taps : goal.returns-clause-taps
returns-clause-taps c = rw (← c.self.view_is) (ap (λ (taps : List Tap). record (memory_of c.self.inside) { taps = taps }) c.hold.ensures.taps)
