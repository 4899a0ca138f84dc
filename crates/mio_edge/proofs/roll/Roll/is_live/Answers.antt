use Rattle.mio_edge.proofs.roll.Roll.is_live.Goals as goal
use Rattle.mio_edge.specs.Rolls.{RollValue, roll_seen}
use Rattle.relay_ports.proofs.Lists.{some_live}
use Rattle.std.proofs.Common.{ap, ◌∙◌}
use Rattle.worker_ports.specs.Wires.{is_live}

pub returns : goal.returns
returns c = c.contains_key.ensures ∙ some_live c.args.conn c.self.inside.live.entries ∙ ap (λ (r : RollValue). is_live c.args.conn (roll_seen r)) c.self.view_is
