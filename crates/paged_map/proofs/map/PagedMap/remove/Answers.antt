use Rattle.number_set.specs.NumberMap.{IsAt, IsGap, IsSorted}
use Rattle.paged_map.proofs.Ascending.{ascending, below_removed, updated_out}
use Rattle.paged_map.proofs.Directory.{found, not_found, one_less, ordered_written, same_read, taken_on}
use Rattle.paged_map.proofs.Slotted.{has_none, remove_none}
use Rattle.paged_map.proofs.map.PagedMap.remove.Goals as goal
use Rattle.paged_map.specs.Pages.{AreBelow}
use Rattle.paged_map.specs.PagedMap.{PagedMap, value_at}
use Rattle.std.proofs.Common.{None, ap, arith, cond, get_or, subst, sym, ◌∙◌}
use Rattle.std.specs.BTreeMap.{is_at}
use Rattle.std.specs.Map.{remove_entry}
use Rattle.std.specs.Ordering.{nat_cmp}
use Rattle.std.specs.Prelude.{List, Option, is_some, length, ℕ, ◌%◌, ◌/◌, ◌≡◌}

pub returns-in_default-clause-value : goal.returns-in_default-clause-value
returns-in_default-clause-value g c =
    let gap = subst (IsGap (c.number-number.result / 16) c.in_default.field-0) c.as_slice.ensures.value c.in_default.ensures in
    sym (not_found c.number-number.result c.in_default.field-0 c.self.inside.pages.items c.self.invariant.0.pages gap)
    ∙ ap (value_at c.number-number.result) c.self.view_is
    ∙ ap (λ n. value_at n c.args.self.now) c.number-number.ensures.number

pub returns-in_default-clause-entries : goal.returns-in_default-clause-entries
returns-in_default-clause-entries g c = remove_none (is_at (nat_cmp (g.K.Key.number c.args.key.now))) c.args.self.now.entries (sym (returns-in_default-clause-value g c))

pub returns-then-not-has-clause-value : goal.returns-then-not-has-clause-value
returns-then-not-has-clause-value g c =
    let at = subst (IsAt (c.number-number.result / 16) c.in-Ok.place) c.as_slice.ensures.value c.in-Ok.ensures in
    sym (has_none _ (sym c.has.ensures ∙ c.if-not-has.true))
    ∙ sym (found c.number-number.result c.in-Ok.place c.index.result.now c.self.inside.pages.items c.self.invariant.0.pages at c.index.ensures)
    ∙ ap (value_at c.number-number.result) c.self.view_is
    ∙ ap (λ n. value_at n c.args.self.now) c.number-number.ensures.number

pub returns-then-not-has-clause-entries : goal.returns-then-not-has-clause-entries
returns-then-not-has-clause-entries g c = remove_none (is_at (nat_cmp (g.K.Key.number c.args.key.now))) c.args.self.now.entries (sym (returns-then-not-has-clause-value g c))

pub overflow_sub-self : goal.overflow_sub-self
overflow_sub-self g c =
    let at = subst (IsAt (c.number-number.result / 16) c.in-Ok.place) c.as_slice.ensures.value c.in-Ok.ensures in
    let same = same_read c.in-Ok.place c.index_mut.result.now c.index.result.now c.self.inside.pages.items at.within c.index_mut.ensures.value c.index.ensures in
    let some = ap (λ (s : ℕ × List (Option g.row.V.Denot)). is_some (get_or s.1 (c.number-number.result % 16) None)) same ∙ sym c.has.ensures ∙ c.if-not-has.false in
    omega (arith, one_less c.self.inside.len c.number-number.result c.in-Ok.place c.index_mut.result.now c.take-old.new.self c.self.inside.pages.items c.self.invariant.0.pages c.self.invariant.0.counted at c.index_mut.ensures.value c.take-old.ensures.new some)

pub clear-requires-clause-ordered : goal.clear-requires-clause-ordered
clear-requires-clause-ordered g c =
    let at = subst (IsAt (c.number-number.result / 16) c.in-Ok.place) c.as_slice.ensures.value c.in-Ok.ensures in
    ordered_written c.number-number.result c.in-Ok.place None c.index_mut.result.now c.take-old.new.self c.self.inside.pages.items c.self.invariant.0.pages at c.index_mut.ensures.value c.take-old.ensures.new

pub returns-clause-value : goal.returns-clause-value
returns-clause-value g c =
    let at = subst (IsAt (c.number-number.result / 16) c.in-Ok.place) c.as_slice.ensures.value c.in-Ok.ensures in
    c.take-old.ensures.old
    ∙ sym (found c.number-number.result c.in-Ok.place c.index_mut.result.now c.self.inside.pages.items c.self.invariant.0.pages at c.index_mut.ensures.value)
    ∙ ap (value_at c.number-number.result) c.self.view_is
    ∙ ap (λ n. value_at n c.args.self.now) c.number-number.ensures.number

pub returns-clause-entries : goal.returns-clause-entries
returns-clause-entries g c =
    let at = subst (IsAt (c.number-number.result / 16) c.in-Ok.place) c.as_slice.ensures.value c.in-Ok.ensures in
    let same = same_read c.in-Ok.place c.index_mut.result.now c.index.result.now c.self.inside.pages.items at.within c.index_mut.ensures.value c.index.ensures in
    let some = ap (λ (s : ℕ × List (Option g.row.V.Denot)). is_some (get_or s.1 (c.number-number.result % 16) None)) same ∙ sym c.has.ensures ∙ c.if-not-has.false in
    c.clear.ensures.same
    ∙ taken_on c.number-number.result c.in-Ok.place c.index_mut.result.now c.take-old.new.self c.self.inside.pages.items c.self.invariant.0.pages at c.index_mut.ensures.value some c.take-old.ensures.new
    ∙ ap (λ (m : PagedMap g.row.V.Denot). remove_entry (is_at (nat_cmp c.number-number.result)) m.entries) c.self.view_is
    ∙ ap (λ n. remove_entry (is_at (nat_cmp n)) c.args.self.now.entries) c.number-number.ensures.number

pub invariant_of-self : goal.invariant_of-self
invariant_of-self g c =
    let at = subst (IsAt (c.number-number.result / 16) c.in-Ok.place) c.as_slice.ensures.value c.in-Ok.ensures in
    let same = same_read c.in-Ok.place c.index_mut.result.now c.index.result.now c.self.inside.pages.items at.within c.index_mut.ensures.value c.index.ensures in
    let some = ap (λ (s : ℕ × List (Option g.row.V.Denot)). is_some (get_or s.1 (c.number-number.result % 16) None)) same ∙ sym c.has.ensures ∙ c.if-not-has.false in
    let less = one_less c.self.inside.len c.number-number.result c.in-Ok.place c.index_mut.result.now c.take-old.new.self c.self.inside.pages.items c.self.invariant.0.pages c.self.invariant.0.counted at c.index_mut.ensures.value c.take-old.ensures.new some in (
      record { pages = c.clear.ensures.ordered; small = omega (arith, c.self.invariant.0.small); counted = omega (arith, less, ap length c.clear.ensures.same) },
      below_removed g.K.Key.bound (g.K.Key.number c.args.key.now) c.args.self.now.entries _ (subst (λ (m : PagedMap g.row.V.Denot). AreBelow g.K.Key.bound m.entries) c.self.view_is c.self.invariant.1) (returns-clause-entries g c),
    )

pub returns-in_default-clause-updates : goal.returns-in_default-clause-updates
returns-in_default-clause-updates g c = updated_out (g.K.Key.number c.args.key.now) c.args.self.now _ (subst (λ (m : PagedMap g.row.V.Denot). IsSorted m.entries) c.self.view_is (ascending c.self.inside.pages.items c.self.invariant.0.pages)) (returns-in_default-clause-entries g c)

pub returns-in_default-clause-ordered : goal.returns-in_default-clause-ordered
returns-in_default-clause-ordered g c = subst (λ (m : PagedMap g.row.V.Denot). IsSorted m.entries) c.self.view_is (ascending c.self.inside.pages.items c.self.invariant.0.pages)

pub returns-then-not-has-clause-updates : goal.returns-then-not-has-clause-updates
returns-then-not-has-clause-updates g c = updated_out (g.K.Key.number c.args.key.now) c.args.self.now _ (subst (λ (m : PagedMap g.row.V.Denot). IsSorted m.entries) c.self.view_is (ascending c.self.inside.pages.items c.self.invariant.0.pages)) (returns-then-not-has-clause-entries g c)

pub returns-then-not-has-clause-ordered : goal.returns-then-not-has-clause-ordered
returns-then-not-has-clause-ordered g c = subst (λ (m : PagedMap g.row.V.Denot). IsSorted m.entries) c.self.view_is (ascending c.self.inside.pages.items c.self.invariant.0.pages)

pub returns-clause-updates : goal.returns-clause-updates
returns-clause-updates g c = updated_out (g.K.Key.number c.args.key.now) c.args.self.now _ (subst (λ (m : PagedMap g.row.V.Denot). IsSorted m.entries) c.self.view_is (ascending c.self.inside.pages.items c.self.invariant.0.pages)) (returns-clause-entries g c)

pub returns-clause-len : goal.returns-clause-len
returns-clause-len g c =
    let at = subst (IsAt (c.number-number.result / 16) c.in-Ok.place) c.as_slice.ensures.value c.in-Ok.ensures in
    let same = same_read c.in-Ok.place c.index_mut.result.now c.index.result.now c.self.inside.pages.items at.within c.index_mut.ensures.value c.index.ensures in
    let some = ap (λ (s : ℕ × List (Option g.row.V.Denot)). is_some (get_or s.1 (c.number-number.result % 16) None)) same ∙ sym c.has.ensures ∙ c.if-not-has.false in
    let less = one_less c.self.inside.len c.number-number.result c.in-Ok.place c.index_mut.result.now c.take-old.new.self c.self.inside.pages.items c.self.invariant.0.pages c.self.invariant.0.counted at c.index_mut.ensures.value c.take-old.ensures.new some in
    let one : ◌≡◌ {A = ℕ} (cond (is_some c.take-old.result) 1 0) 1 = ap (λ b. cond b 1 0) (ap is_some c.take-old.ensures.old ∙ some) in
    omega (arith, one, less, ap length c.clear.ensures.same, c.self.invariant.0.counted, ap (λ (m : PagedMap g.row.V.Denot). length m.entries) c.self.view_is)

pub returns-clause-ordered : goal.returns-clause-ordered
returns-clause-ordered g c = ascending _ (invariant_of-self g c).0.pages
