use Rattle.flow_gate.proofs.SideBySide.{in_order_whole, live_whole}
use Rattle.flow_gate.proofs.gate.Gate.rise.Goals as goal
use Rattle.flow_gate.specs.Line.{between}
use Rattle.std.specs.Prelude.{true}

pub invariant_of-self : goal.invariant_of-self
invariant_of-self c =
    in_order_whole _ _ _ _ _ _ _ _ _ _ _ c.make_whole.ensures.line c.make_whole.ensures.row c.self.invariant.forward c.self.invariant.within c.self.invariant

pub returns : goal.returns
returns c =
    let same = live_whole _ c.self.inside.line.items _ c.make_whole.ensures.line in
    rw (← c.self.view_is) (λ i. record { above = true; watchers = same i; pending = between c.self.inside.told c.self.inside.drained (same i) })
