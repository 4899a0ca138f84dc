use Rattle.number_set.proofs.Next.{next_found, next_least}
use Rattle.number_set.specs.NumberMap.{IsSorted}
use Rattle.number_set.specs.NumberSet.{first_above, has}
use Rattle.paged_map.proofs.Ascending.{ascending, each_below}
use Rattle.paged_map.proofs.Following.{is_there}
use Rattle.paged_map.proofs.map.PagedMap.next_above.Goals as goal
use Rattle.paged_map.specs.PagedMap.{PagedMap, value_at}
use Rattle.paged_map.specs.Pages.{AreBelow, entries_on}
use Rattle.std.proofs.Common.{None, Some, ap, subst, sym, ◌∙◌}
use Rattle.std.specs.Map.{keys_of}
use Rattle.std.specs.Prelude.{IfSome, IsSomeAnd, List, Option, is_some, true, ℕ, ◌<◌, ◌≡◌, ◌≤◌}

module _ {X : Type 0} where
  -- the answer on the pages is that of the map
  is_next : (o : Option ℕ) (n after : ℕ) (pages items : List (ℕ × List (Option X))) (m : PagedMap X) → o ≡ first_above n (keys_of (entries_on pages)) → pages ≡ items → record { entries = entries_on items } ≡ m → n ≡ after
      → o ≡ first_above after (keys_of m.entries)
  is_next o n after pages items m is read seen same =
      is ∙ ap (λ ps. first_above n (keys_of (entries_on ps))) read ∙ ap (λ (k : PagedMap X). first_above n (keys_of k.entries)) seen ∙ ap (λ k. first_above k (keys_of m.entries)) same

  found_in : (after n : ℕ) (m : PagedMap X) → Some n ≡ first_above after (keys_of m.entries) → (after < n) × (has (keys_of m.entries) n ≡ true)
  found_in after n m is = subst (λ o. IfSome o (λ x. (after < x) × (has (keys_of m.entries) x ≡ true))) (sym is) (next_found (keys_of m.entries) after)

  least_in : (after : ℕ) (o : Option ℕ) (m : PagedMap X) → o ≡ first_above after (keys_of m.entries) → IsSorted m.entries → (n : ℕ) → after < n → is_some (value_at n m) ≡ true → IsSomeAnd o (λ x. x ≤ n)
  least_in after o m is sorted n more there =
      subst (λ p. IsSomeAnd p (λ x. x ≤ n)) (sym is) (next_least (keys_of m.entries) after sorted n more (is_there n m.entries ∙ there))

pub of-requires : goal.of-requires
of-requires g c =
    let is = is_next c.next.result c.number.result (g.K.Key.number c.args.after) c.as_slice.result.now c.self.inside.pages.items c.args.self.now c.next.ensures c.as_slice.ensures.value c.self.view_is c.number.ensures.number in
    each_below g.K.Key.bound c.in-Some.number c.args.self.now.entries (subst (λ (m : PagedMap g.row.V.Denot). AreBelow g.K.Key.bound m.entries) c.self.view_is c.self.invariant.1)
    (found_in (g.K.Key.number c.args.after) c.in-Some.number c.args.self.now (sym c.in-Some.is ∙ is)).1

pub returns-in-Some-clause-next : goal.returns-in-Some-clause-next
returns-in-Some-clause-next g c =
    let is = is_next c.next.result c.number.result (g.K.Key.number c.args.after) c.as_slice.result.now c.self.inside.pages.items c.args.self.now c.next.ensures c.as_slice.ensures.value c.self.view_is c.number.ensures.number in
    ap Some c.of.ensures ∙ sym c.in-Some.is ∙ is

pub returns-in-Some-clause-found : goal.returns-in-Some-clause-found
returns-in-Some-clause-found g c =
    let is = is_next c.next.result c.number.result (g.K.Key.number c.args.after) c.as_slice.result.now c.self.inside.pages.items c.args.self.now c.next.ensures c.as_slice.ensures.value c.self.view_is c.number.ensures.number in
    let found = found_in (g.K.Key.number c.args.after) c.in-Some.number c.args.self.now (sym c.in-Some.is ∙ is) in
    subst (λ n. (g.K.Key.number c.args.after < n) × (is_some (value_at n c.args.self.now) ≡ true)) (sym c.of.ensures) (found.0, sym (is_there c.in-Some.number c.args.self.now.entries) ∙ found.1)

pub returns-in-Some-clause-least : goal.returns-in-Some-clause-least
returns-in-Some-clause-least g c =
    let is = is_next c.next.result c.number.result (g.K.Key.number c.args.after) c.as_slice.result.now c.self.inside.pages.items c.args.self.now c.next.ensures c.as_slice.ensures.value c.self.view_is c.number.ensures.number in
    let sorted = subst (λ (m : PagedMap g.row.V.Denot). IsSorted m.entries) c.self.view_is (ascending c.self.inside.pages.items c.self.invariant.0.pages) in
    λ n more there. subst (λ k. k ≤ n) (sym c.of.ensures) (least_in (g.K.Key.number c.args.after) (Some c.in-Some.number) c.args.self.now (sym c.in-Some.is ∙ is) sorted n more there)

pub returns-in-None-clause-next : goal.returns-in-None-clause-next
returns-in-None-clause-next g c =
    sym c.in-None.is ∙ is_next c.next.result c.number.result (g.K.Key.number c.args.after) c.as_slice.result.now c.self.inside.pages.items c.args.self.now c.next.ensures c.as_slice.ensures.value c.self.view_is c.number.ensures.number

pub returns-in-None-clause-least : goal.returns-in-None-clause-least
returns-in-None-clause-least g c =
    let is = is_next c.next.result c.number.result (g.K.Key.number c.args.after) c.as_slice.result.now c.self.inside.pages.items c.args.self.now c.next.ensures c.as_slice.ensures.value c.self.view_is c.number.ensures.number in
    let sorted = subst (λ (m : PagedMap g.row.V.Denot). IsSorted m.entries) c.self.view_is (ascending c.self.inside.pages.items c.self.invariant.0.pages) in
    λ n more there. least_in (g.K.Key.number c.args.after) None c.args.self.now (sym c.in-None.is ∙ is) sorted n more there
