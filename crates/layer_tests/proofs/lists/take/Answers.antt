use Rattle.std.proofs.Common.{ap, sym, ◌∙◌, length, subst}
use Rattle.link_lists.specs.Lists.{IsKnown}
use Rattle.link_lists.proofs.Facts.{length-pull_from}
use Rattle.layer_tests.proofs.Known.{known-pull}
use Rattle.layer_tests.proofs.lists.take.Goals as goal

pub returns-clause-number : goal.returns-clause-number
returns-clause-number g c = ap (λ s. length s.lists) c.remove.ensures.left ∙ length-pull_from c.args.node c.args.lists.now.lists

pub returns-clause-others : goal.returns-clause-others
returns-clause-others g c = λ q n k. subst (IsKnown q) (sym c.remove.ensures.left) (known-pull q c.args.lists.now k c.args.node n)
