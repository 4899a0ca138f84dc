use Rattle.wire_flows.proofs.Begun.{watch_grows}
use Rattle.wire_flows.proofs.Finals.{fresh_apart}
use Rattle.wire_flows.proofs.starting.watch_own.Goals as goal

pub watch-requires-clause-apart : goal.watch-requires-clause-apart
watch-requires-clause-apart c = fresh_apart c.args.flow c.args.buffer c.args.gates.now c.open_buffer.new.self c.requires.unknown (c.in_ok-open_buffer.ensures {u = tt}).ok

pub returns-clause-grows : goal.returns-clause-grows
returns-clause-grows c = watch_grows c.args.flow c.args.buffer c.args.gates.now c.open_buffer.new.self c.requires.own (c.in_ok-open_buffer.ensures {u = tt}).ok c.watch.new.self (c.in_ok-_above.ensures {u = tt}).ok
