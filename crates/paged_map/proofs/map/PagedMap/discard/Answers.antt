use Rattle.number_set.specs.NumberMap.{IsAt, IsGap, IsSorted}
use Rattle.paged_map.proofs.Ascending.{ascending, below_removed, updated_out}
use Rattle.paged_map.proofs.Directory.{found, not_found, one_less, ordered_written, same_read, taken_on}
use Rattle.paged_map.proofs.Slotted.{has_none, remove_none}
use Rattle.paged_map.proofs.map.PagedMap.discard.Goals as goal
use Rattle.paged_map.specs.Pages.{AreBelow}
use Rattle.paged_map.specs.PagedMap.{PagedMap, value_at}
use Rattle.std.proofs.Common.{None, ap, arith, cond, get_or, subst, sym, ◌∙◌}
use Rattle.std.specs.BTreeMap.{is_at}
use Rattle.std.specs.Map.{remove_entry}
use Rattle.std.specs.Ordering.{nat_cmp}
use Rattle.std.specs.Prelude.{List, Option, is_some, length, true, ℕ, ◌%◌, ◌/◌, ◌≡◌}

-- the key's page isn't there
pub returns-in_default-clause-entries : goal.returns-in_default-clause-entries
returns-in_default-clause-entries g c =
    let gap = subst (IsGap (c.number-number.result / 16) c.in_default.field-0) c.as_slice.ensures.value c.in_default.ensures in
    remove_none (is_at (nat_cmp (g.K.Key.number c.args.key.now))) c.args.self.now.entries (
    sym (ap (λ n. value_at n c.args.self.now) c.number-number.ensures.number)
    ∙ sym (ap (value_at c.number-number.result) c.self.view_is)
    ∙ not_found c.number-number.result c.in_default.field-0 c.self.inside.pages.items c.self.invariant.0.pages gap)

pub returns-in_default-clause-len : goal.returns-in_default-clause-len
returns-in_default-clause-len g c =
    let gap = subst (IsGap (c.number-number.result / 16) c.in_default.field-0) c.as_slice.ensures.value c.in_default.ensures in
    let none : value_at (g.K.Key.number c.args.key.now) c.args.self.now ≡ None =
    sym (ap (λ n. value_at n c.args.self.now) c.number-number.ensures.number)
    ∙ sym (ap (value_at c.number-number.result) c.self.view_is)
    ∙ not_found c.number-number.result c.in_default.field-0 c.self.inside.pages.items c.self.invariant.0.pages gap in
    let zero : ◌≡◌ {A = ℕ} (cond (is_some (value_at (g.K.Key.number c.args.key.now) c.args.self.now)) 1 0) 0 = ap (λ (o : Option g.row.V.Denot). cond (is_some o) 1 0) none in
    omega (arith, zero)

pub returns-in_default-clause-updates : goal.returns-in_default-clause-updates
returns-in_default-clause-updates g c = updated_out (g.K.Key.number c.args.key.now) c.args.self.now _ (subst (λ (m : PagedMap g.row.V.Denot). IsSorted m.entries) c.self.view_is (ascending c.self.inside.pages.items c.self.invariant.0.pages)) (returns-in_default-clause-entries g c)

pub returns-in_default-clause-ordered : goal.returns-in_default-clause-ordered
returns-in_default-clause-ordered g c = subst (λ (m : PagedMap g.row.V.Denot). IsSorted m.entries) c.self.view_is (ascending c.self.inside.pages.items c.self.invariant.0.pages)

-- the key's slot has no value
pub returns-else-has-clause-entries : goal.returns-else-has-clause-entries
returns-else-has-clause-entries g c =
    let at = subst (IsAt (c.number-number.result / 16) c.in-Ok.place) c.as_slice.ensures.value c.in-Ok.ensures in
    remove_none (is_at (nat_cmp (g.K.Key.number c.args.key.now))) c.args.self.now.entries (
    sym (ap (λ n. value_at n c.args.self.now) c.number-number.ensures.number)
    ∙ sym (ap (value_at c.number-number.result) c.self.view_is)
    ∙ found c.number-number.result c.in-Ok.place c.index.result.now c.self.inside.pages.items c.self.invariant.0.pages at c.index.ensures
    ∙ has_none _ (sym c.has.ensures ∙ c.if-has.false))

pub returns-else-has-clause-len : goal.returns-else-has-clause-len
returns-else-has-clause-len g c =
    let at = subst (IsAt (c.number-number.result / 16) c.in-Ok.place) c.as_slice.ensures.value c.in-Ok.ensures in
    let none : value_at (g.K.Key.number c.args.key.now) c.args.self.now ≡ None =
    sym (ap (λ n. value_at n c.args.self.now) c.number-number.ensures.number)
    ∙ sym (ap (value_at c.number-number.result) c.self.view_is)
    ∙ found c.number-number.result c.in-Ok.place c.index.result.now c.self.inside.pages.items c.self.invariant.0.pages at c.index.ensures
    ∙ has_none _ (sym c.has.ensures ∙ c.if-has.false) in
    let zero : ◌≡◌ {A = ℕ} (cond (is_some (value_at (g.K.Key.number c.args.key.now) c.args.self.now)) 1 0) 0 = ap (λ (o : Option g.row.V.Denot). cond (is_some o) 1 0) none in
    omega (arith, zero)

pub returns-else-has-clause-updates : goal.returns-else-has-clause-updates
returns-else-has-clause-updates g c = updated_out (g.K.Key.number c.args.key.now) c.args.self.now _ (subst (λ (m : PagedMap g.row.V.Denot). IsSorted m.entries) c.self.view_is (ascending c.self.inside.pages.items c.self.invariant.0.pages)) (returns-else-has-clause-entries g c)

pub returns-else-has-clause-ordered : goal.returns-else-has-clause-ordered
returns-else-has-clause-ordered g c = subst (λ (m : PagedMap g.row.V.Denot). IsSorted m.entries) c.self.view_is (ascending c.self.inside.pages.items c.self.invariant.0.pages)

-- the key's slot has a value
pub overflow_sub-self : goal.overflow_sub-self
overflow_sub-self g c =
    let at = subst (IsAt (c.number-number.result / 16) c.in-Ok.place) c.as_slice.ensures.value c.in-Ok.ensures in
    let same = same_read c.in-Ok.place c.index_mut.result.now c.index.result.now c.self.inside.pages.items at.within c.index_mut.ensures.value c.index.ensures in
    let some = ap (λ (s : ℕ × List (Option g.row.V.Denot)). is_some (get_or s.1 (c.number-number.result % 16) None)) same ∙ sym c.has.ensures ∙ c.if-has.true in
    omega (arith, one_less c.self.inside.len c.number-number.result c.in-Ok.place c.index_mut.result.now c.discard.new.self c.self.inside.pages.items c.self.invariant.0.pages c.self.invariant.0.counted at c.index_mut.ensures.value c.discard.ensures some)

pub clear-requires-clause-ordered : goal.clear-requires-clause-ordered
clear-requires-clause-ordered g c =
    let at = subst (IsAt (c.number-number.result / 16) c.in-Ok.place) c.as_slice.ensures.value c.in-Ok.ensures in
    ordered_written c.number-number.result c.in-Ok.place None c.index_mut.result.now c.discard.new.self c.self.inside.pages.items c.self.invariant.0.pages at c.index_mut.ensures.value c.discard.ensures

pub returns-then-has-clause-entries : goal.returns-then-has-clause-entries
returns-then-has-clause-entries g c =
    let at = subst (IsAt (c.number-number.result / 16) c.in-Ok.place) c.as_slice.ensures.value c.in-Ok.ensures in
    let same = same_read c.in-Ok.place c.index_mut.result.now c.index.result.now c.self.inside.pages.items at.within c.index_mut.ensures.value c.index.ensures in
    let some = ap (λ (s : ℕ × List (Option g.row.V.Denot)). is_some (get_or s.1 (c.number-number.result % 16) None)) same ∙ sym c.has.ensures ∙ c.if-has.true in
    c.clear.ensures.same
    ∙ taken_on c.number-number.result c.in-Ok.place c.index_mut.result.now c.discard.new.self c.self.inside.pages.items c.self.invariant.0.pages at c.index_mut.ensures.value some c.discard.ensures
    ∙ ap (λ (m : PagedMap g.row.V.Denot). remove_entry (is_at (nat_cmp c.number-number.result)) m.entries) c.self.view_is
    ∙ ap (λ n. remove_entry (is_at (nat_cmp n)) c.args.self.now.entries) c.number-number.ensures.number

pub invariant_of-self : goal.invariant_of-self
invariant_of-self g c =
    let at = subst (IsAt (c.number-number.result / 16) c.in-Ok.place) c.as_slice.ensures.value c.in-Ok.ensures in
    let same = same_read c.in-Ok.place c.index_mut.result.now c.index.result.now c.self.inside.pages.items at.within c.index_mut.ensures.value c.index.ensures in
    let some = ap (λ (s : ℕ × List (Option g.row.V.Denot)). is_some (get_or s.1 (c.number-number.result % 16) None)) same ∙ sym c.has.ensures ∙ c.if-has.true in
    let less = one_less c.self.inside.len c.number-number.result c.in-Ok.place c.index_mut.result.now c.discard.new.self c.self.inside.pages.items c.self.invariant.0.pages c.self.invariant.0.counted at c.index_mut.ensures.value c.discard.ensures some in (
      record { pages = c.clear.ensures.ordered; small = omega (arith, c.self.invariant.0.small); counted = omega (arith, less, ap length c.clear.ensures.same) },
      below_removed g.K.Key.bound (g.K.Key.number c.args.key.now) c.args.self.now.entries _ (subst (λ (m : PagedMap g.row.V.Denot). AreBelow g.K.Key.bound m.entries) c.self.view_is c.self.invariant.1) (returns-then-has-clause-entries g c),
    )

pub returns-then-has-clause-updates : goal.returns-then-has-clause-updates
returns-then-has-clause-updates g c = updated_out (g.K.Key.number c.args.key.now) c.args.self.now _ (subst (λ (m : PagedMap g.row.V.Denot). IsSorted m.entries) c.self.view_is (ascending c.self.inside.pages.items c.self.invariant.0.pages)) (returns-then-has-clause-entries g c)

pub returns-then-has-clause-len : goal.returns-then-has-clause-len
returns-then-has-clause-len g c =
    let at = subst (IsAt (c.number-number.result / 16) c.in-Ok.place) c.as_slice.ensures.value c.in-Ok.ensures in
    let same = same_read c.in-Ok.place c.index_mut.result.now c.index.result.now c.self.inside.pages.items at.within c.index_mut.ensures.value c.index.ensures in
    let some = ap (λ (s : ℕ × List (Option g.row.V.Denot)). is_some (get_or s.1 (c.number-number.result % 16) None)) same ∙ sym c.has.ensures ∙ c.if-has.true in
    let less = one_less c.self.inside.len c.number-number.result c.in-Ok.place c.index_mut.result.now c.discard.new.self c.self.inside.pages.items c.self.invariant.0.pages c.self.invariant.0.counted at c.index_mut.ensures.value c.discard.ensures some in
    let value : value_at (g.K.Key.number c.args.key.now) c.args.self.now ≡ get_or c.index.result.now.1 (c.number-number.result % 16) None =
    sym (ap (λ n. value_at n c.args.self.now) c.number-number.ensures.number)
    ∙ sym (ap (value_at c.number-number.result) c.self.view_is)
    ∙ found c.number-number.result c.in-Ok.place c.index.result.now c.self.inside.pages.items c.self.invariant.0.pages at c.index.ensures in
    let there : is_some (value_at (g.K.Key.number c.args.key.now) c.args.self.now) ≡ true = ap (λ (o : Option g.row.V.Denot). is_some o) value ∙ sym c.has.ensures ∙ c.if-has.true in
    let one : ◌≡◌ {A = ℕ} (cond (is_some (value_at (g.K.Key.number c.args.key.now) c.args.self.now)) 1 0) 1 = ap (λ b. cond b 1 0) there in
    omega (arith, one, less, ap length c.clear.ensures.same, c.self.invariant.0.counted, ap (λ (m : PagedMap g.row.V.Denot). length m.entries) c.self.view_is)

pub returns-then-has-clause-ordered : goal.returns-then-has-clause-ordered
returns-then-has-clause-ordered g c = ascending _ (invariant_of-self g c).0.pages
