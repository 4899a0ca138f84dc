use Rattle.number_set.specs.NumberMap.{IsAt, IsGap, IsSorted}
use Rattle.paged_map.proofs.Ascending.{ascending, below_set, unwritten, written_through}
use Rattle.paged_map.proofs.Directory.{found, kept_same, not_found, written_on}
use Rattle.paged_map.proofs.Slotted.{has_none}
use Rattle.paged_map.proofs.map.PagedMap.get_mut.Goals as goal
use Rattle.paged_map.specs.PagedMap.{PagedMap, value_at}
use Rattle.paged_map.specs.Pages.{AreKept, entries_on}
use Rattle.std.proofs.Common.{Some, ap, refl, set, subst, sym, ◌∙◌}
use Rattle.std.specs.BTreeMap.{is_at}
use Rattle.std.specs.Map.{set_value}
use Rattle.std.specs.Ordering.{nat_cmp}
use Rattle.std.specs.Prelude.{is_some, ◌%◌, ◌/◌, ◌≡◌}

pub invariant_of-self-lent : goal.invariant_of-self-lent
invariant_of-self-lent g c = λ w.
    let at = subst (IsAt (c.number-number.result / 16) c.in-Ok.place) c.as_slice.ensures.value c.in-Ok.ensures in (
      kept_same c.self.inside.len c.number-number.result c.in-Ok.place w c.index_mut.result.now _ c.self.inside.pages.items c.self.invariant.0.pages c.self.invariant.0.small c.self.invariant.0.counted at c.index_mut.ensures.value refl
          (ap is_some c.value_mut.ensures.value),
      below_set g.K.Key.bound c.number-number.result w (entries_on c.self.inside.pages.items) _ c.self.invariant.1
          (written_on c.number-number.result c.in-Ok.place w c.index_mut.result.now _ c.self.inside.pages.items c.self.invariant.0.pages at c.index_mut.ensures.value (ap is_some c.value_mut.ensures.value) refl),
    )

pub returns-then-has : goal.returns-then-has
returns-then-has g c =
    let at = subst (IsAt (c.number-number.result / 16) c.in-Ok.place) c.as_slice.ensures.value c.in-Ok.ensures in
    let wrote : (w : g.row.V.Denot) → entries_on (set c.self.inside.pages.items c.in-Ok.place (c.index_mut.result.now.0, set c.index_mut.result.now.1 (c.number-number.result % 16) (Some w))) ≡ set_value (is_at (nat_cmp (g.K.Key.number c.args.key.now))) c.args.self.now.entries w = λ w.
    written_on c.number-number.result c.in-Ok.place w c.index_mut.result.now _ c.self.inside.pages.items c.self.invariant.0.pages at c.index_mut.ensures.value (ap is_some c.value_mut.ensures.value) refl
    ∙ ap (λ (m : PagedMap g.row.V.Denot). set_value (is_at (nat_cmp c.number-number.result)) m.entries w) c.self.view_is
    ∙ ap (λ n. set_value (is_at (nat_cmp n)) c.args.self.now.entries w) c.number-number.ensures.number in
    let kept : (w : g.row.V.Denot) → AreKept c.self.inside.len (set c.self.inside.pages.items c.in-Ok.place (c.index_mut.result.now.0, set c.index_mut.result.now.1 (c.number-number.result % 16) (Some w))) = λ w.
    kept_same c.self.inside.len c.number-number.result c.in-Ok.place w c.index_mut.result.now _ c.self.inside.pages.items c.self.invariant.0.pages c.self.invariant.0.small c.self.invariant.0.counted at c.index_mut.ensures.value refl
    (ap is_some c.value_mut.ensures.value) in (
      (refl, λ w. written_through (g.K.Key.number c.args.key.now) w c.args.self.now _ (wrote w) (ascending _ (kept w).pages), refl),
      record {
        writes_back = tt;
        ordered = subst (λ (m : PagedMap g.row.V.Denot). IsSorted m.entries) c.self.view_is (ascending c.self.inside.pages.items c.self.invariant.0.pages);
        value = sym c.value_mut.ensures.value
            ∙ sym (found c.number-number.result c.in-Ok.place c.index_mut.result.now c.self.inside.pages.items c.self.invariant.0.pages at c.index_mut.ensures.value)
            ∙ ap (value_at c.number-number.result) c.self.view_is
            ∙ ap (λ n. value_at n c.args.self.now) c.number-number.ensures.number;
      },
    )

pub returns-else-has : goal.returns-else-has
returns-else-has g c =
    let at = subst (IsAt (c.number-number.result / 16) c.in-Ok.place) c.as_slice.ensures.value c.in-Ok.ensures in
    let none = sym (has_none _ (sym c.has.ensures ∙ c.if-has.false))
    ∙ sym (found c.number-number.result c.in-Ok.place c.index.result.now c.self.inside.pages.items c.self.invariant.0.pages at c.index.ensures)
    ∙ ap (value_at c.number-number.result) c.self.view_is
    ∙ ap (λ n. value_at n c.args.self.now) c.number-number.ensures.number in
    let sorted = ascending c.self.inside.pages.items c.self.invariant.0.pages in (
      (refl, λ w. unwritten (g.K.Key.number c.args.key.now) w c.args.self.now _ c.self.view_is (sym none) sorted, c.self.view_is),
      record {
        writes_back = tt;
        ordered = subst (λ (m : PagedMap g.row.V.Denot). IsSorted m.entries) c.self.view_is sorted;
        value = none;
      },
    )

pub returns-in-Err : goal.returns-in-Err
returns-in-Err g c =
    let gap = subst (IsGap (c.number-number.result / 16) c.in-Err.field-0) c.as_slice.ensures.value c.in-Err.ensures in
    let none = sym (not_found c.number-number.result c.in-Err.field-0 c.self.inside.pages.items c.self.invariant.0.pages gap)
    ∙ ap (value_at c.number-number.result) c.self.view_is
    ∙ ap (λ n. value_at n c.args.self.now) c.number-number.ensures.number in
    let sorted = ascending c.self.inside.pages.items c.self.invariant.0.pages in (
      (refl, λ w. unwritten (g.K.Key.number c.args.key.now) w c.args.self.now _ c.self.view_is (sym none) sorted, c.self.view_is),
      record {
        writes_back = tt;
        ordered = subst (λ (m : PagedMap g.row.V.Denot). IsSorted m.entries) c.self.view_is sorted;
        value = none;
      },
    )
