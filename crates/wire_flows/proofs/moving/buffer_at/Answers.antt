use Rattle.std.proofs.Common.{rules}
use Rattle.wire_flows.proofs.Finals.{send_next}
use Rattle.wire_flows.proofs.moving.buffer_at.Goals as goal

pub returns-then-eq : goal.returns-then-eq
returns-then-eq c = send_next c.args.flow c.args.place c.args.exchanges.now c.stages.result c.requires.sound c.requires.behind c.stages.ensures (search rules)
