use Rattle.number_set.specs.NumberMap.{IsSorted}
use Rattle.paged_map.proofs.Ascending.{ascending, below_inserted, updated_in}
use Rattle.paged_map.proofs.Directory.{found, kept_more, kept_same, put_on}
use Rattle.paged_map.proofs.map.PagedMap.insert.Goals as goal
use Rattle.paged_map.specs.Pages.{AreBelow}
use Rattle.paged_map.specs.PagedMap.{PagedMap, value_at}
use Rattle.std.proofs.Common.{ap, arith, cond, subst, sym, ◌∙◌}
use Rattle.std.specs.BTreeMap.{insert_entry, is_at}
use Rattle.std.specs.Map.{lookup}
use Rattle.std.specs.Ordering.{nat_cmp}
use Rattle.std.specs.Prelude.{is_some, length, ℕ, ◌<◌, ◌≡◌}

pub returns-then-is_some-clause-old : goal.returns-then-is_some-clause-old
returns-then-is_some-clause-old g c =
    c.put-old.ensures.old
    ∙ sym (found c.number-number.result c.in_ok-place.place c.index_mut.result.now c.page_for.new.pages.items c.in_ok-place.ensures.ordered c.in_ok-place.ensures.place c.index_mut.ensures.value)
    ∙ ap (lookup (is_at (nat_cmp c.number-number.result))) c.in_ok-place.ensures.same
    ∙ ap (value_at c.number-number.result) c.self.view_is
    ∙ ap (λ n. value_at n c.args.self.now) c.number-number.ensures.number

pub returns-then-is_some-clause-entries : goal.returns-then-is_some-clause-entries
returns-then-is_some-clause-entries g c =
    put_on c.number-number.result c.in_ok-place.place c.args.value c.index_mut.result.now c.put-old.new.self c.page_for.new.pages.items c.in_ok-place.ensures.ordered c.in_ok-place.ensures.place c.index_mut.ensures.value c.put-old.ensures.new
    ∙ ap (λ es. insert_entry nat_cmp es c.number-number.result c.args.value) (c.in_ok-place.ensures.same ∙ ap (λ (m : PagedMap g.row.V.Denot). m.entries) c.self.view_is)
    ∙ ap (λ n. insert_entry nat_cmp c.args.self.now.entries n c.args.value) c.number-number.ensures.number

pub invariant_of-self-then-is_some : goal.invariant_of-self-then-is_some
invariant_of-self-then-is_some g c = (
  kept_same c.self.inside.len c.number-number.result c.in_ok-place.place c.args.value c.index_mut.result.now c.put-old.new.self c.page_for.new.pages.items c.in_ok-place.ensures.ordered c.self.invariant.0.small
      (c.self.invariant.0.counted ∙ sym (ap length c.in_ok-place.ensures.same)) c.in_ok-place.ensures.place c.index_mut.ensures.value c.put-old.ensures.new
      (sym (ap is_some c.put-old.ensures.old) ∙ sym c.is_some.ensures ∙ c.if-is_some.true),
  below_inserted g.K.Key.bound (g.K.Key.number c.args.key) c.args.value c.args.self.now.entries _ (subst (λ (m : PagedMap g.row.V.Denot). AreBelow g.K.Key.bound m.entries) c.self.view_is c.self.invariant.1)
      (subst (λ n. n < g.K.Key.bound) c.number-number.ensures.number c.number-number.ensures.bound) (returns-then-is_some-clause-entries g c),
)

pub returns-clause-old : goal.returns-clause-old
returns-clause-old g c =
    c.put-old.ensures.old
    ∙ sym (found c.number-number.result c.in_ok-place.place c.index_mut.result.now c.page_for.new.pages.items c.in_ok-place.ensures.ordered c.in_ok-place.ensures.place c.index_mut.ensures.value)
    ∙ ap (lookup (is_at (nat_cmp c.number-number.result))) c.in_ok-place.ensures.same
    ∙ ap (value_at c.number-number.result) c.self.view_is
    ∙ ap (λ n. value_at n c.args.self.now) c.number-number.ensures.number

pub returns-clause-entries : goal.returns-clause-entries
returns-clause-entries g c =
    put_on c.number-number.result c.in_ok-place.place c.args.value c.index_mut.result.now c.put-old.new.self c.page_for.new.pages.items c.in_ok-place.ensures.ordered c.in_ok-place.ensures.place c.index_mut.ensures.value c.put-old.ensures.new
    ∙ ap (λ es. insert_entry nat_cmp es c.number-number.result c.args.value) (c.in_ok-place.ensures.same ∙ ap (λ (m : PagedMap g.row.V.Denot). m.entries) c.self.view_is)
    ∙ ap (λ n. insert_entry nat_cmp c.args.self.now.entries n c.args.value) c.number-number.ensures.number

pub invariant_of-self-2 : goal.invariant_of-self-2
invariant_of-self-2 g c = (
  kept_more c.self.inside.len c.number-number.result c.in_ok-place.place c.args.value c.index_mut.result.now c.put-old.new.self c.page_for.new.pages.items c.in_ok-place.ensures.ordered (omega (arith, c.self.invariant.0.small, c.if-self-eq-MOST.false))
      (c.self.invariant.0.counted ∙ sym (ap length c.in_ok-place.ensures.same)) c.in_ok-place.ensures.place c.index_mut.ensures.value c.put-old.ensures.new
      (sym (ap is_some c.put-old.ensures.old) ∙ sym c.is_some.ensures ∙ c.if-is_some.false),
  below_inserted g.K.Key.bound (g.K.Key.number c.args.key) c.args.value c.args.self.now.entries _ (subst (λ (m : PagedMap g.row.V.Denot). AreBelow g.K.Key.bound m.entries) c.self.view_is c.self.invariant.1)
      (subst (λ n. n < g.K.Key.bound) c.number-number.ensures.number c.number-number.ensures.bound) (returns-clause-entries g c),
)

pub returns-then-is_some-clause-updates : goal.returns-then-is_some-clause-updates
returns-then-is_some-clause-updates g c = updated_in (g.K.Key.number c.args.key) c.args.value c.args.self.now _ (returns-then-is_some-clause-entries g c)

pub returns-then-is_some-clause-len : goal.returns-then-is_some-clause-len
returns-then-is_some-clause-len g c =
    let some : ◌≡◌ {A = ℕ} (cond (is_some c.put-old.result) 0 1) 0 = ap (λ b. cond b 0 1) (sym c.is_some.ensures ∙ c.if-is_some.true) in
    omega (arith, some, (invariant_of-self-then-is_some g c).0.counted, c.self.invariant.0.counted, ap (λ (m : PagedMap g.row.V.Denot). length m.entries) c.self.view_is)

pub returns-then-is_some-clause-ordered : goal.returns-then-is_some-clause-ordered
returns-then-is_some-clause-ordered g c = ascending _ (invariant_of-self-then-is_some g c).0.pages

pub returns-clause-updates : goal.returns-clause-updates
returns-clause-updates g c = updated_in (g.K.Key.number c.args.key) c.args.value c.args.self.now _ (returns-clause-entries g c)

pub returns-clause-len : goal.returns-clause-len
returns-clause-len g c =
    let none : ◌≡◌ {A = ℕ} (cond (is_some c.put-old.result) 0 1) 1 = ap (λ b. cond b 0 1) (sym c.is_some.ensures ∙ c.if-is_some.false) in
    omega (arith, none, (invariant_of-self-2 g c).0.counted, c.self.invariant.0.counted, ap (λ (m : PagedMap g.row.V.Denot). length m.entries) c.self.view_is)

pub returns-clause-ordered : goal.returns-clause-ordered
returns-clause-ordered g c = ascending _ (invariant_of-self-2 g c).0.pages

pub returns-then-self-eq-MOST-clause-ordered : goal.returns-then-self-eq-MOST-clause-ordered
returns-then-self-eq-MOST-clause-ordered g c = subst (λ (m : PagedMap g.row.V.Denot). IsSorted m.entries) c.self.view_is (ascending c.self.inside.pages.items c.self.invariant.0.pages)

pub returns-in_err-place-clause-ordered : goal.returns-in_err-place-clause-ordered
returns-in_err-place-clause-ordered g c = ascending c.page_for.new.pages.items c.in_err-place.ensures.ordered
