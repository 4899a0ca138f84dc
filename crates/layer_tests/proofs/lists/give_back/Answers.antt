use Rattle.std.proofs.Common.{sym, subst}
use Rattle.link_lists.specs.Lists.{IsKnown}
use Rattle.layer_tests.proofs.Known.{known-without}
use Rattle.layer_tests.proofs.lists.give_back.Goals as goal

pub returns-else-is_in-clause-others : goal.returns-else-is_in-clause-others
returns-else-is_in-clause-others g c = λ q n k. subst (IsKnown q) (sym c.retire.ensures) (known-without q c.args.lists.now k c.args.node n)
