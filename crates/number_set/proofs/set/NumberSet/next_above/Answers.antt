use Rattle.number_set.proofs.Next.{next_found, next_least}
use Rattle.number_set.proofs.Searching.{above_at, item_copied}
use Rattle.number_set.proofs.set.NumberSet.next_above.Goals as goal
use Rattle.number_set.specs.NumberSet.{NumberSet, first_above, has}
use Rattle.std.proofs.Common.{ap, subst, sym, ◌∙◌}
use Rattle.std.specs.Prelude.{IfSome, IsSomeAnd, slice_get, true, ℕ, ◌<◌, ◌≡◌, ◌≤◌}

next : (c : goal.After-copied) → c.copied.result ≡ first_above c.args.after c.self.inside.items.items
next c =
    c.copied.ensures ∙ item_copied c.deref.result.now c.count_upto.result c.get.result c.get.ensures.lookup ∙ ap (λ xs. slice_get xs c.count_upto.result) c.deref.ensures.value
    ∙ above_at c.self.inside.items.items c.args.after c.count_upto.result (rw (← c.self.view_is) at c.count_upto.ensures.within) (rw (← c.self.view_is) at c.count_upto.ensures.below) (rw (← c.self.view_is) at c.count_upto.ensures.above)

pub returns-clause-next : goal.returns-clause-next
returns-clause-next c = next c ∙ ap (λ (n : NumberSet). first_above c.args.after n.items) c.self.view_is

pub returns-clause-found : goal.returns-clause-found
returns-clause-found c = subst (λ (n : NumberSet). IfSome c.copied.result (λ x. (c.args.after < x) × (has n.items x ≡ true))) c.self.view_is
    (subst (λ o. IfSome o (λ x. (c.args.after < x) × (has c.self.inside.items.items x ≡ true))) (sym (next c)) (next_found c.self.inside.items.items c.args.after))

pub returns-clause-least : goal.returns-clause-least
returns-clause-least c = subst (λ (n : NumberSet). (y : ℕ) → c.args.after < y → has n.items y ≡ true → IsSomeAnd c.copied.result (λ x. x ≤ y)) c.self.view_is
    (subst (λ o. (y : ℕ) → c.args.after < y → has c.self.inside.items.items y ≡ true → IsSomeAnd o (λ x. x ≤ y)) (sym (next c)) (next_least c.self.inside.items.items c.args.after c.self.invariant.order))
