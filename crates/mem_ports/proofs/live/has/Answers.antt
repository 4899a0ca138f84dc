use Rattle.mem_ports.proofs.Living.{any_at}
use Rattle.mem_ports.proofs.live.has.Goals as goal
use Rattle.std.proofs.Common.{◌∙◌}

pub returns : goal.returns
returns c = c.contains.ensures ∙ any_at c.args.conn c.args.live.now.keys
