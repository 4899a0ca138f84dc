use Rattle.std.proofs.Common.{arith, subst}
use Rattle.std.specs.List.Sorted.{IsBinarySearchResult}
use Rattle.std.specs.Ordering.{nat_cmp}
use Rattle.std.specs.Prelude.{Err, Ok, length, slice_index, ℕ, ◌+◌, ◌<◌, ◌≤◌}
use Rattle.number_set.proofs.Searching.{found_at, from_found, gap_at, upto_found}
use Rattle.number_set.proofs.set.NumberSet.count_upto.Goals as goal
use Rattle.number_set.specs.NumberSet.{IsFoundAt, IsGapAt, NumberSet}

pub returns-in-Ok-clause-below : goal.returns-in-Ok-clause-below
returns-in-Ok-clause-below c =
    let found : IsFoundAt c.self.inside.items.items c.args.most c.in-Ok.index =
    found_at c.self.inside.items.items c.args.most c.in-Ok.index (subst (λ xs. IsBinarySearchResult (λ y. nat_cmp y c.args.most) xs (Ok c.in-Ok.index)) c.deref.ensures.value c.in-Ok.ensures.position) c.self.invariant.order in
    subst (λ (n : NumberSet). (k : ℕ) → k < c.in-Ok.index + 1 → slice_index n.items k ≤ c.args.most) c.self.view_is (upto_found c.self.inside.items.items c.args.most c.in-Ok.index found c.self.invariant.order)

pub returns-in-Ok-clause-above : goal.returns-in-Ok-clause-above
returns-in-Ok-clause-above c =
    let found : IsFoundAt c.self.inside.items.items c.args.most c.in-Ok.index =
    found_at c.self.inside.items.items c.args.most c.in-Ok.index (subst (λ xs. IsBinarySearchResult (λ y. nat_cmp y c.args.most) xs (Ok c.in-Ok.index)) c.deref.ensures.value c.in-Ok.ensures.position) c.self.invariant.order in
    subst (λ (n : NumberSet). (k : ℕ) → c.in-Ok.index + 1 ≤ k → k < length n.items → c.args.most < slice_index n.items k) c.self.view_is (from_found c.self.inside.items.items c.args.most c.in-Ok.index found c.self.invariant.order)

pub returns-in-Err-clause-below : goal.returns-in-Err-clause-below
returns-in-Err-clause-below c = λ k h.
    let gap : IsGapAt c.self.inside.items.items c.args.most c.in-Err.index =
    gap_at c.self.inside.items.items c.args.most c.in-Err.index (subst (λ xs. IsBinarySearchResult (λ y. nat_cmp y c.args.most) xs (Err c.in-Err.index)) c.deref.ensures.value c.in-Err.ensures.position) c.self.invariant.order in
    subst (λ (n : NumberSet). slice_index n.items k ≤ c.args.most) c.self.view_is (omega (arith, gap.below k h))

pub returns-in-Err-clause-above : goal.returns-in-Err-clause-above
returns-in-Err-clause-above c =
    let gap : IsGapAt c.self.inside.items.items c.args.most c.in-Err.index =
    gap_at c.self.inside.items.items c.args.most c.in-Err.index (subst (λ xs. IsBinarySearchResult (λ y. nat_cmp y c.args.most) xs (Err c.in-Err.index)) c.deref.ensures.value c.in-Err.ensures.position) c.self.invariant.order in
    subst (λ (n : NumberSet). (k : ℕ) → c.in-Err.index ≤ k → k < length n.items → c.args.most < slice_index n.items k) c.self.view_is gap.above
