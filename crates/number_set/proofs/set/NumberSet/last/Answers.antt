use Rattle.number_set.proofs.Searching.{place_has}
use Rattle.number_set.proofs.set.NumberSet.last.Goals as goal
use Rattle.number_set.specs.NumberSet.{NumberSet, has}
use Rattle.std.proofs.Common.{ap, subst, sym, ◌∙◌}
use Rattle.std.specs.Prelude.{IfSome, length, slice_get, true, ◌-◌, ◌≡◌}

greatest : (c : goal.After-copied) → c.copied.result ≡ slice_get c.self.inside.items.items (length c.self.inside.items.items - 1)
greatest c = c.copied.ensures ∙ (c.last.ensures.value ∙ ap (λ xs. slice_get xs (length xs - 1)) c.deref.ensures.value)

pub returns-clause-last : goal.returns-clause-last
returns-clause-last c = greatest c ∙ ap (λ (n : NumberSet). slice_get n.items (length n.items - 1)) c.self.view_is

pub returns-clause-found : goal.returns-clause-found
returns-clause-found c = subst (λ (n : NumberSet). IfSome c.copied.result (λ x. has n.items x ≡ true)) c.self.view_is
    (subst (λ o. IfSome o (λ x. has c.self.inside.items.items x ≡ true)) (sym (greatest c)) (place_has c.self.inside.items.items (length c.self.inside.items.items - 1)))
