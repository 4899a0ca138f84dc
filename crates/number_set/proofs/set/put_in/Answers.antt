use Rattle.number_set.proofs.Searching.{put_last}
use Rattle.number_set.proofs.set.put_in.Goals as goal
use Rattle.std.proofs.Common.{arith, ◌∙◌}

pub returns-then-index-len-clause-items : goal.returns-then-index-len-clause-items
returns-then-index-len-clause-items c = c.push_reserved.ensures.items ∙ put_last c.args.items.now.items c.args.number c.args.index (omega (arith, c.if-index-len.true, c.len.ensures, c.args.items.now.ok.0))
