use Rattle.wire_flows.proofs.Boards.{tells}
use Rattle.wire_flows.proofs.Finals.{told_if_goes, told_if_less, told_most}
use Rattle.wire_flows.proofs.Writing.{lows_told}
use Rattle.wire_flows.proofs.flows.WireFlows.next_told.Goals as goal
use Rattle.wire_flows.specs.Flows.{flows_of}

pub returns-clause-tells : goal.returns-clause-tells
returns-clause-tells c = rw (← c.self.view_is) (tells c.args.conn (flows_of c.self.inside) (record { exchanges = c.self.inside.exchanges; gates = c.next_low.new.self }) c.next_low.result c.next_low.ensures.none c.next_low.ensures.tells)

pub returns-clause-goes : goal.returns-clause-goes
returns-clause-goes c = rw (← c.self.view_is) (told_if_goes c.args.conn c.next_low.result (flows_of c.self.inside) c.next_low.new.self c.self.invariant c.next_low.ensures.tells)

pub returns-clause-less : goal.returns-clause-less
returns-clause-less c = rw (← c.self.view_is) (told_if_less c.args.conn c.next_low.result (flows_of c.self.inside) c.next_low.new.self c.self.invariant c.next_low.ensures.tells)

pub returns-clause-go : goal.returns-clause-go
returns-clause-go c = rw (← c.self.view_is) (told_most c.args.conn c.next_low.result (flows_of c.self.inside) c.next_low.new.self c.self.invariant c.next_low.ensures.tells)

pub returns-clause-lows : goal.returns-clause-lows
returns-clause-lows c = rw (← c.self.view_is) (lows_told c.args.conn _ (flows_of c.self.inside) c.next_low.new.self c.next_low.ensures.tells)
