use Rattle.number_set.specs.NumberMap.{IsSorted}
use Rattle.paged_map.proofs.Ascending.{ascending, below_inserted, updated_in}
use Rattle.paged_map.proofs.Directory.{kept_more, kept_same, put_on}
use Rattle.paged_map.proofs.map.PagedMap.put.Goals as goal
use Rattle.paged_map.specs.Pages.{AreBelow}
use Rattle.paged_map.specs.PagedMap.{PagedMap}
use Rattle.std.proofs.Common.{ap, arith, subst, sym, ◌∙◌}
use Rattle.std.specs.BTreeMap.{insert_entry}
use Rattle.std.specs.Ordering.{nat_cmp}
use Rattle.std.specs.Prelude.{length, ◌<◌}

pub returns-then-set-clause-entries : goal.returns-then-set-clause-entries
returns-then-set-clause-entries g c =
    put_on c.number-number.result c.in_ok-place.place c.args.value c.index_mut.result.now c.set.new.self c.page_for.new.pages.items c.in_ok-place.ensures.ordered c.in_ok-place.ensures.place c.index_mut.ensures.value c.set.ensures.new
    ∙ ap (λ es. insert_entry nat_cmp es c.number-number.result c.args.value) (c.in_ok-place.ensures.same ∙ ap (λ (m : PagedMap g.row.V.Denot). m.entries) c.self.view_is)
    ∙ ap (λ n. insert_entry nat_cmp c.args.self.now.entries n c.args.value) c.number-number.ensures.number

pub invariant_of-self-then-set : goal.invariant_of-self-then-set
invariant_of-self-then-set g c = (
  kept_same c.self.inside.len c.number-number.result c.in_ok-place.place c.args.value c.index_mut.result.now c.set.new.self c.page_for.new.pages.items c.in_ok-place.ensures.ordered c.self.invariant.0.small
      (c.self.invariant.0.counted ∙ sym (ap length c.in_ok-place.ensures.same)) c.in_ok-place.ensures.place c.index_mut.ensures.value c.set.ensures.new
      (sym c.set.ensures.had ∙ c.if-set.true),
  below_inserted g.K.Key.bound (g.K.Key.number c.args.key) c.args.value c.args.self.now.entries _ (subst (λ (m : PagedMap g.row.V.Denot). AreBelow g.K.Key.bound m.entries) c.self.view_is c.self.invariant.1)
      (subst (λ n. n < g.K.Key.bound) c.number-number.ensures.number c.number-number.ensures.bound) (returns-then-set-clause-entries g c),
)

pub returns-clause-entries : goal.returns-clause-entries
returns-clause-entries g c =
    put_on c.number-number.result c.in_ok-place.place c.args.value c.index_mut.result.now c.set.new.self c.page_for.new.pages.items c.in_ok-place.ensures.ordered c.in_ok-place.ensures.place c.index_mut.ensures.value c.set.ensures.new
    ∙ ap (λ es. insert_entry nat_cmp es c.number-number.result c.args.value) (c.in_ok-place.ensures.same ∙ ap (λ (m : PagedMap g.row.V.Denot). m.entries) c.self.view_is)
    ∙ ap (λ n. insert_entry nat_cmp c.args.self.now.entries n c.args.value) c.number-number.ensures.number

pub invariant_of-self-2 : goal.invariant_of-self-2
invariant_of-self-2 g c = (
  kept_more c.self.inside.len c.number-number.result c.in_ok-place.place c.args.value c.index_mut.result.now c.set.new.self c.page_for.new.pages.items c.in_ok-place.ensures.ordered (omega (arith, c.self.invariant.0.small, c.if-self-eq-MOST.false))
      (c.self.invariant.0.counted ∙ sym (ap length c.in_ok-place.ensures.same)) c.in_ok-place.ensures.place c.index_mut.ensures.value c.set.ensures.new
      (sym c.set.ensures.had ∙ c.if-set.false),
  below_inserted g.K.Key.bound (g.K.Key.number c.args.key) c.args.value c.args.self.now.entries _ (subst (λ (m : PagedMap g.row.V.Denot). AreBelow g.K.Key.bound m.entries) c.self.view_is c.self.invariant.1)
      (subst (λ n. n < g.K.Key.bound) c.number-number.ensures.number c.number-number.ensures.bound) (returns-clause-entries g c),
)

pub returns-then-set-clause-updates : goal.returns-then-set-clause-updates
returns-then-set-clause-updates g c = updated_in (g.K.Key.number c.args.key) c.args.value c.args.self.now _ (returns-then-set-clause-entries g c)

pub returns-then-set-clause-ordered : goal.returns-then-set-clause-ordered
returns-then-set-clause-ordered g c = ascending _ (invariant_of-self-then-set g c).0.pages

pub returns-clause-updates : goal.returns-clause-updates
returns-clause-updates g c = updated_in (g.K.Key.number c.args.key) c.args.value c.args.self.now _ (returns-clause-entries g c)

pub returns-clause-ordered : goal.returns-clause-ordered
returns-clause-ordered g c = ascending _ (invariant_of-self-2 g c).0.pages

pub returns-then-self-eq-MOST-clause-ordered : goal.returns-then-self-eq-MOST-clause-ordered
returns-then-self-eq-MOST-clause-ordered g c = subst (λ (m : PagedMap g.row.V.Denot). IsSorted m.entries) c.self.view_is (ascending c.self.inside.pages.items c.self.invariant.0.pages)

pub returns-in_err-place-clause-ordered : goal.returns-in_err-place-clause-ordered
returns-in_err-place-clause-ordered g c = ascending c.page_for.new.pages.items c.in_err-place.ensures.ordered
