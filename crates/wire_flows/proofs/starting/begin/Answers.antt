use Rattle.std.proofs.Common.{sym, ◌∙◌}
use Rattle.wire_flows.proofs.Opening.{sender_all}
use Rattle.wire_flows.proofs.starting.begin.Goals as goal

pub returns-in-Some-clause-ok : goal.returns-in-Some-clause-ok
returns-in-Some-clause-ok c = sender_all c.args.flow c.in-Some.conn c.args.gates.now c.open_sender.new.self c.args.filters.now c.args.to c.open_sender.result
    (sym c.is_empty.ensures ∙ c.if-is_empty.true) c.in-Some.is c.requires.new c.open_sender.ensures.ok
