use Rattle.flow_gate.proofs.Live.{live-all}
use Rattle.flow_gate.proofs.Places.{between-all}
use Rattle.flow_gate.proofs.SideBySide.{in_order_whole, live_whole}
use Rattle.flow_gate.proofs.gate.Gate.drain.Goals as goal
use Rattle.flow_gate.specs.Line.{between}
use Rattle.std.proofs.Common.{ap, arith, ◌∙◌}
use Rattle.std.specs.Prelude.{false, ◌<◌}

pub invariant_of-self : goal.invariant_of-self
invariant_of-self c = in_order_whole _ _ _ _ _ _ _ _ _ _ _ c.make_whole.ensures.line c.make_whole.ensures.row (omega arith) (omega arith) c.self.invariant

pub returns : goal.returns
returns c =
    let same = live_whole _ c.self.inside.line.items _ c.make_whole.ensures.line in
    let all = between-all _ _ (live-all (λ q. q < c.self.inside.next) c.self.inside.line.items c.self.invariant.below) in
    let pending = ap (between 0 c.self.inside.next) same ∙ all in
    rw (← c.self.view_is) (λ i. record { above = false; watchers = same i; pending = pending i })
