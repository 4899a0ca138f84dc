use Rattle.exchange_core.proofs.Outcomes.{either, on_ok}
use Rattle.flow_gate.specs.Board.{pending_on}
use Rattle.flow_rules.specs.declared.ids.BufferId.TheVariants as buffer
use Rattle.std.proofs.Common.{ap, sym, ◌∙◌}
use Rattle.wire_flows.proofs.Boards.{opens}
use Rattle.wire_flows.proofs.Finals.{known_write, write_none}
use Rattle.wire_flows.proofs.Writing.{go_untold}
use Rattle.wire_flows.proofs.flows.WireFlows.open_write.Goals as goal
use Rattle.wire_flows.specs.Flows.{flows_of}

pub returns-then-is_known-clause-ok : goal.returns-then-is_known-clause-ok
returns-then-is_known-clause-ok c = rw (← c.self.view_is) (λ none. absurd (known_write c.args.conn (flows_of c.self.inside) (sym c.is_known.ensures ∙ c.if-is_known.true) none))

pub returns-clause-ok : goal.returns-clause-ok
returns-clause-ok c = rw (← c.self.view_is) (on_ok _ _ c.open_buffer.result c.open_buffer.ensures.ok (λ k none. opens c.args.conn (flows_of c.self.inside) (record { exchanges = c.self.inside.exchanges; gates = c.open_buffer.new.self }) none k))

pub returns-clause-known : goal.returns-clause-known
returns-clause-known c = rw (← c.self.view_is) (λ some. absurd (some (write_none c.args.conn (flows_of c.self.inside) (sym c.is_known.ensures ∙ c.if-is_known.false))))

pub returns-clause-go : goal.returns-clause-go
returns-clause-go c = rw (← c.self.view_is) (either _ _ _ c.open_buffer.result c.open_buffer.ensures.ok c.open_buffer.ensures.err
    (λ k. go_untold (flows_of c.self.inside) c.open_buffer.new.self (λ d. k.pending (buffer.Write d)))
    (λ e. go_untold (flows_of c.self.inside) c.open_buffer.new.self (λ d. ap (λ b. pending_on b (buffer.Write d)) e)))

pub returns-clause-lows : goal.returns-clause-lows
returns-clause-lows c = rw (← c.self.view_is) (either _ _ _ c.open_buffer.result c.open_buffer.ensures.ok c.open_buffer.ensures.err
    (λ k. record { lows = k.pending })
    (λ e. record { lows = λ b. ap (λ g. pending_on g b) e }))
