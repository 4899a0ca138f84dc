-- There are no more flows in a line than stands.
use Rattle.flow_gate.proofs.Full.{few_live}
use Rattle.flow_gate.proofs.line.Watchers.most.Goals as goal
use Rattle.flow_gate.specs.Line.{live}
use Rattle.flow_rules.specs.declared.ids.FlowId.{FlowId}
use Rattle.std.proofs.Common.{arith}
use Rattle.std.proofs.lemmas.List.{length-append, length-map}
use Rattle.std.specs.Map.{values_of}
use Rattle.std.specs.Prelude.{ℕ}

pub returns : goal.returns
returns c =
    let few = few_live c.self.inside.stands.now in
    let flows = length-map (live c.self.inside.stands.now) (λ (e : ℕ × FlowId). e.1) in
    let long = length-append c.self.inside.row.now (values_of (live c.self.inside.stands.now)) in
    rw (← c.self.view_is) (omega (arith, few, flows, long))
