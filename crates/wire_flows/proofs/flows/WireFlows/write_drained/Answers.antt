use Rattle.flow_gate.specs.Board.{is_marked, pending_on}
use Rattle.flow_rules.specs.declared.ids.FlowId.{FlowId}
use Rattle.std.proofs.Common.{ap, refl, sym, ◌∙◌}
use Rattle.std.specs.Prelude.{Bool, List, [], false, length, ◌&&◌, ◌==◌, ◌≡◌, ◌∷◌, ◌↔◌}
use Rattle.wire_flows.proofs.Boards.{changes_none, drained_already, drains}
use Rattle.wire_flows.proofs.Finals.{some_left, not_above}
use Rattle.wire_flows.proofs.Writing.{lows_drained}
use Rattle.wire_flows.proofs.flows.WireFlows.write_drained.Goals as goal
use Rattle.wire_flows.proofs.flows.WireFlows.write_drained.Goals.{else-is_marked-via-else-is_marked, else-is_marked-via-then-is_marked+else-not-has_pending}
use Rattle.wire_flows.specs.Flows.{flows_of}
use Rattle.wire_flows.specs.Writes.{watchers_on}
use Rattle.flow_rules.specs.declared.ids.BufferId.TheVariants as buffer

pub returns-then-not-has_pending-clause-drains : goal.returns-then-not-has_pending-clause-drains
returns-then-not-has_pending-clause-drains c = rw (← c.self.view_is)
    (drains c.args.conn (flows_of c.self.inside) (record { exchanges = c.self.inside.exchanges; gates = c.begin_low.new.self }) (sym (c.is_marked.ensures) ∙ c.if-is_marked.true) (c.has_pending.ensures.0 c.if-not-has_pending.true) c.begin_low.ensures.drains)

pub returns-else-is_marked-clause-drains : goal.returns-else-is_marked-clause-drains
returns-else-is_marked-clause-drains c = rw (← c.self.view_is) (changes_none c.args.conn (flows_of c.self.inside) _ (drained_already c.args.conn (flows_of c.self.inside) (watchers_on c.args.conn (flows_of c.self.inside))
    (elim c.else-is_marked.branch [
      | else-is_marked-via-then-is_marked+else-not-has_pending w ↦ some_left (is_marked c.self.inside.gates (buffer.Write c.args.conn)) (pending_on c.self.inside.gates (buffer.Write c.args.conn)) w.has_pending.result w.has_pending.ensures w.if-not-has_pending.false
      | else-is_marked-via-else-is_marked w ↦ not_above (is_marked c.self.inside.gates (buffer.Write c.args.conn)) (pending_on c.self.inside.gates (buffer.Write c.args.conn)) (sym c.is_marked.ensures ∙ w.if-is_marked.false)
    ])))

pub returns-then-not-has_pending-clause-lows : goal.returns-then-not-has_pending-clause-lows
returns-then-not-has_pending-clause-lows c = rw (← c.self.view_is) (lows_drained c.args.conn (flows_of c.self.inside) c.begin_low.new.self c.begin_low.ensures.drains)
