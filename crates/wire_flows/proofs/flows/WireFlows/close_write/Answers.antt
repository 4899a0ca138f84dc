use Rattle.wire_flows.proofs.Boards.{changes_none, closes}
use Rattle.wire_flows.proofs.Finals.{write_none}
use Rattle.wire_flows.proofs.Writing.{go_untold}
use Rattle.std.proofs.Common.{sym, ◌∙◌}
use Rattle.std.specs.Prelude.{None}
use Rattle.flow_rules.specs.declared.ids.BufferId.TheVariants as buffer
use Rattle.wire_flows.proofs.flows.WireFlows.close_write.Goals as goal
use Rattle.wire_flows.specs.Flows.{flows_of}

pub returns-then-is_known-clause-closed : goal.returns-then-is_known-clause-closed
returns-then-is_known-clause-closed c = rw (← c.self.view_is) (λ yes. closes c.args.conn (flows_of c.self.inside) (record { exchanges = c.self.inside.exchanges; gates = c.close_buffer.new.self }) c.close_buffer.ensures.closes)

pub returns-then-is_known-clause-go : goal.returns-then-is_known-clause-go
returns-then-is_known-clause-go c = rw (← c.self.view_is) (go_untold (flows_of c.self.inside) c.close_buffer.new.self (λ d. c.close_buffer.ensures.closes.pending (buffer.Write d)))

pub returns-else-is_known-clause-closed : goal.returns-else-is_known-clause-closed
returns-else-is_known-clause-closed c = rw (← c.self.view_is) (λ yes. changes_none c.args.conn (flows_of c.self.inside) None (write_none c.args.conn (flows_of c.self.inside) (sym c.is_known.ensures ∙ c.if-is_known.false)))

pub returns-then-is_known-clause-lows : goal.returns-then-is_known-clause-lows
returns-then-is_known-clause-lows c = rw (← c.self.view_is) (record { lows = c.close_buffer.ensures.closes.pending })
