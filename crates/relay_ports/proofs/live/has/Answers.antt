use Rattle.relay_ports.proofs.Lists.{some_live}
use Rattle.relay_ports.proofs.live.has.Goals as goal
use Rattle.std.proofs.Common.{◌∙◌}

pub returns : goal.returns
returns c = c.contains_key.ensures ∙ some_live c.args.conn c.args.taps.now.entries
