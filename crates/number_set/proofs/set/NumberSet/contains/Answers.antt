use Rattle.number_set.proofs.Searching.{search_has}
use Rattle.number_set.proofs.set.NumberSet.contains.Goals as goal
use Rattle.number_set.specs.NumberSet.{NumberSet, has}
use Rattle.std.proofs.Common.{ap, subst, ◌∙◌}
use Rattle.std.specs.List.Sorted.{IsBinarySearchResult}
use Rattle.std.specs.Ordering.{nat_cmp}

pub returns-in_default : goal.returns-in_default
returns-in_default c =
    c.is_ok.ensures.value
    ∙ search_has c.self.inside.items.items c.args.number c.binary_search.result
    (subst (λ xs. IsBinarySearchResult (λ y. nat_cmp y c.args.number) xs c.binary_search.result) c.as_slice.ensures.value c.binary_search.ensures.position) c.self.invariant.order
    ∙ ap (λ (n : NumberSet). has n.items c.args.number) c.self.view_is
