use Rattle.exchange_core.specs.Exchanges.{flow_at}
use Rattle.exchange_core.specs.declared.step.Step.{Step}
use Rattle.std.proofs.Common.{subst, sym}
use Rattle.std.specs.Prelude.{IfSome, ◌+◌}
use Rattle.wire_flows.proofs.Finals.{both_cross}
use Rattle.wire_flows.proofs.moving.mark_step.Goals as goal
use Rattle.wire_flows.specs.Moves.{StepCrosses, is_high, is_low}

pub returns-in-Moved-clause-crosses : goal.returns-in-Moved-clause-crosses
returns-in-Moved-clause-crosses c = subst (λ (step : Step). IfSome (flow_at c.args.exchanges.now c.args.flow) (λ flow. StepCrosses c.args.flow flow step c.args.gates.now c.drain-drained.new.gates)) (sym c.in-Moved.is)
    (both_cross c.args.flow (flow_at c.args.exchanges.now c.args.flow) (is_high c.in-Moved.shifted.to) c.in-Moved.place (c.in-Moved.place + 1) (is_low c.in-Moved.shifted.from) c.in-Moved.overflow
    c.args.gates.now c.rise-rose.new.gates c.drain-drained.new.gates c.rise-rose.ensures.rises c.drain-drained.ensures.drains)
