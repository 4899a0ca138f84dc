use Rattle.number_set.proofs.Searching.{put_last}
use Rattle.number_set.proofs.map.put_in.Goals as goal
use Rattle.std.proofs.Common.{arith, ◌∙◌}

pub returns-then-place-len-clause-ok : goal.returns-then-place-len-clause-ok
returns-then-place-len-clause-ok g c =
    c.in_ok-push_back.ensures.items ∙ put_last c.args.items.now.items c.args.item c.args.place (omega (arith, c.if-place-len.true, c.len.ensures, c.args.items.now.ok.0))
