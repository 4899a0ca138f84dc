use Rattle.number_set.proofs.set.put_between.Goals as goal
use Rattle.std.proofs.Common.{ap, arith, is_ok, sym, ◌∙◌}
use Rattle.std.proofs.lemmas.Bool.{false≢true}

pub unreachable-requires : goal.unreachable-requires
unreachable-requires c = false≢true (sym (ap is_ok c.in_default.is) ∙ c.insert.ensures.succeeds (omega (arith, c.requires.room, c.args.items.now.ok.0)))
