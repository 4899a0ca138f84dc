use Rattle.std.proofs.Common.{subst, sym}
use Rattle.std.specs.Prelude.{OnOk, Some}
use Rattle.wire_flows.proofs.Begun.{write_watched}
use Rattle.wire_flows.proofs.Opening.{either_grow, either_watched}
use Rattle.wire_flows.proofs.starting.watch_write.Goals as goal
use Rattle.wire_flows.specs.Begins.{WatchesAll, write_of}

pub returns-in-Some-clause-grows : goal.returns-in-Some-clause-grows
returns-in-Some-clause-grows c = either_grow c.args.flow c.in-Some.conn c.args.gates.now c.watch.new.self c.watch.result c.watch.ensures.ok c.watch.ensures.err

pub returns-in-Some-clause-ok : goal.returns-in-Some-clause-ok
returns-in-Some-clause-ok c = subst (λ to. OnOk c.watch.result (WatchesAll c.args.flow (write_of to) to c.args.gates.now c.watch.new.self)) (sym c.in-Some.is)
    (either_watched c.watch.result _ _ (write_watched c.args.flow c.in-Some.conn c.args.gates.now c.watch.new.self) c.watch.ensures.ok)
