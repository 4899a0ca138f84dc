use Rattle.std.proofs.Common.{subst}
use Rattle.std.specs.Prelude.{OnOk}
use Rattle.wire_flows.proofs.Opening.{begun_all, begun_apart, begun_back, begun_fresh, begun_held, begun_known, begun_open}
use Rattle.wire_flows.proofs.starting.begin_slowly.Goals as goal
use Rattle.wire_flows.specs.Begins.{WatchesAll, watches_from}

pub watch_all-requires-clause-open : goal.watch_all-requires-clause-open
watch_all-requires-clause-open c = begun_open c.args.flow c.args.gates.now c.open_flow.new.self (c.in_ok-open_flow.ensures {u = tt}).ok

pub watch_all-requires-clause-fresh : goal.watch_all-requires-clause-fresh
watch_all-requires-clause-fresh c = begun_fresh c.args.flow c.args.gates.now c.open_flow.new.self (c.in_ok-open_flow.ensures {u = tt}).ok c.requires.fresh

pub watch_all-requires-clause-to : goal.watch_all-requires-clause-to
watch_all-requires-clause-to c = begun_known c.args.flow c.args.gates.now c.open_flow.new.self (c.in_ok-open_flow.ensures {u = tt}).ok c.args.to c.requires.to

pub watch_all-requires-clause-apart : goal.watch_all-requires-clause-apart
watch_all-requires-clause-apart c = begun_apart c.args.flow c.args.gates.now c.open_flow.new.self (c.in_ok-open_flow.ensures {u = tt}).ok c.args.to c.requires.sound c.requires.new

pub returns-in-Ok-clause-ok : goal.returns-in-Ok-clause-ok
returns-in-Ok-clause-ok c = begun_all c.args.flow c.args.gates.now c.open_flow.new.self (c.in_ok-open_flow.ensures {u = tt}).ok (watches_from c.args.flow c.args.filters.now c.args.to) c.args.to c.watch_all.new.gates c.requires.new c.watch_all.ensures.grows
    (subst (λ r. OnOk r (WatchesAll c.args.flow (watches_from c.args.flow c.args.filters.now c.args.to) c.args.to c.open_flow.new.self c.watch_all.new.gates)) c.in-Ok.is c.watch_all.ensures.ok)

pub returns-in-Err-clause-err : goal.returns-in-Err-clause-err
returns-in-Err-clause-err c = begun_back c.args.flow c.args.gates.now c.open_flow.new.self (c.in_ok-open_flow.ensures {u = tt}).ok c.watch_all.new.gates c.forget.new.self c.watch_all.ensures.grows c.forget.ensures.forgets c.requires.new c.requires.fresh c.requires.sound
