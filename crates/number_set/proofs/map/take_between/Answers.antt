use Rattle.number_set.proofs.Tests.{on_some}
use Rattle.number_set.proofs.map.take_between.Goals as goal
use Rattle.std.proofs.Common.{arith}

pub returns : goal.returns
returns g c = on_some c.remove.result (c.remove.ensures.variant.1 (omega (arith, c.requires, c.args.items.now.ok.0))) c.remove.ensures.items
