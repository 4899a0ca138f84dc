use Rattle.flow_gate.proofs.SameIds.{same_flow-refl}
use Rattle.std.proofs.Common.{◌∙◌}
use Rattle.wire_flows.proofs.Begun.{all_watched, send_unknown}
use Rattle.wire_flows.proofs.Opening.{all_grow, grown_open, write_apart, write_held, write_known}
use Rattle.wire_flows.proofs.starting.watch_all.Goals as goal

pub watch_own-requires-clause-open : goal.watch_own-requires-clause-open
watch_own-requires-clause-open c = grown_open c.args.flow c.args.gates.now c.watch_meters.new.gates c.watch_meters.ensures.grows c.requires.open

pub watch_own-requires-clause-own : goal.watch_own-requires-clause-own
watch_own-requires-clause-own c = same_flow-refl c.args.flow

pub watch_own-requires-clause-unknown : goal.watch_own-requires-clause-unknown
watch_own-requires-clause-unknown c = send_unknown c.args.flow c.args.filters.now c.args.gates.now c.watch_meters.new.gates c.requires.fresh (c.in_ok-watch_meters.ensures {u = tt}).ok

pub watch_write-requires-clause-open : goal.watch_write-requires-clause-open
watch_write-requires-clause-open c = grown_open c.args.flow c.watch_meters.new.gates c.watch_own.new.gates c.watch_own.ensures.grows
    (grown_open c.args.flow c.args.gates.now c.watch_meters.new.gates c.watch_meters.ensures.grows c.requires.open)

pub watch_write-requires-clause-to : goal.watch_write-requires-clause-to
watch_write-requires-clause-to c = write_known c.args.flow c.args.filters.now c.args.gates.now c.watch_meters.new.gates c.watch_own.new.gates c.watch_meters.ensures.grows (c.in_ok-watch_meters.ensures {u = tt}).ok c.watch_own.ensures.grows (c.in_ok-watch_own.ensures {u = tt}).ok c.args.to c.requires.to

pub watch_write-requires-clause-apart : goal.watch_write-requires-clause-apart
watch_write-requires-clause-apart c = write_apart c.args.flow c.args.filters.now c.args.gates.now c.watch_meters.new.gates c.watch_own.new.gates c.watch_meters.ensures.grows (c.in_ok-watch_meters.ensures {u = tt}).ok c.watch_own.ensures.grows (c.in_ok-watch_own.ensures {u = tt}).ok c.args.to c.requires.apart

pub returns-clause-answer : goal.returns-clause-answer
returns-clause-answer c = (c.in_ok-held.ensures {u = tt}).answer ∙ write_held c.args.flow c.args.filters.now c.args.gates.now c.watch_meters.new.gates c.watch_own.new.gates c.watch_meters.ensures.grows (c.in_ok-watch_meters.ensures {u = tt}).ok c.watch_own.ensures.grows (c.in_ok-watch_own.ensures {u = tt}).ok c.args.to

pub returns-clause-grows : goal.returns-clause-grows
returns-clause-grows c = all_grow c.args.flow c.args.filters.now c.args.gates.now c.watch_meters.new.gates c.watch_own.new.gates c.watch_meters.ensures.grows (c.in_ok-watch_meters.ensures {u = tt}).ok c.watch_own.ensures.grows (c.in_ok-watch_own.ensures {u = tt}).ok c.watch_write.new.gates c.watch_write.ensures.grows

pub returns-clause-ok : goal.returns-clause-ok
returns-clause-ok c = all_watched c.args.flow c.args.filters.now c.args.gates.now c.watch_meters.new.gates c.watch_own.new.gates (c.in_ok-watch_meters.ensures {u = tt}).ok (c.in_ok-watch_own.ensures {u = tt}).ok c.args.to c.watch_write.new.gates (c.in_ok-held.ensures {u = tt}).ok
