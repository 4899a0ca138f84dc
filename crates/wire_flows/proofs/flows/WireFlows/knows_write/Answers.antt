use Rattle.std.proofs.Common.{sym, ◌∙◌}
use Rattle.wire_flows.proofs.Boards.{write_known}
use Rattle.wire_flows.proofs.flows.WireFlows.knows_write.Goals as goal
use Rattle.wire_flows.specs.Flows.{flows_of}

pub returns : goal.returns
returns c = rw (← c.self.view_is) (c.is_known.ensures ∙ sym (write_known c.args.conn (flows_of c.self.inside)))
