use Rattle.exchange_core.specs.Exchanges.{flow_at}
use Rattle.exchange_core.specs.Units.{next_unit}
use Rattle.std.proofs.Common.{ap, w64, ◌∙◌}
use Rattle.std.proofs.lemmas.Int.{to_z-of_z}
use Rattle.std.specs.Prelude.{option_map, ◌≡◌}
use Rattle.wire_flows.proofs.Finals.{unit_within}
use Rattle.wire_flows.proofs.flows.WireFlows.next_unit.Goals as goal
use Rattle.wire_flows.specs.Flows.{flows_of}
use mir.Val.{of_z, to_z}

pub returns-clause-within : goal.returns-clause-within
returns-clause-within c = λ n last is.
    let same : to_z w64 (of_z w64 c.args.room) ≡ c.args.room = to_z-of_z w64 c.args.room (assumption c.ranges.room) in
    let w = unit_within c.args.flow (flows_of c.self.inside) c.args.room c.args.frame n last c.next_unit.result c.self.invariant (rw (← c.self.view_is) at c.requires)
    (c.next_unit.ensures.unit ∙ ap (λ z. option_map (next_unit z c.args.frame) (flow_at c.self.inside.exchanges c.args.flow)) same) is in
    (w.frame_is, w.room_is, w.small)
