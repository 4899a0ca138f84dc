-- What a doom takes out, and a sweep.
use Rattle.exchange_core.proofs.Maps.{lookup_number, seen_of, stored_at, writes_number}
use Rattle.exchange_core.proofs.Metered.{IsMarked, count_removed, count_values}
use Rattle.exchange_core.specs.Changes.{Dooms}
use Rattle.exchange_core.specs.Exchange.{is_metered, seen_at}
use Rattle.exchange_core.specs.Exchanges.{Exchanges, IsSound, exchange_at}
use Rattle.number_set.specs.NumberSet.{NumberSet, has}
use Rattle.exchange_core.specs.View.{IsKept, exchanges_of, stored}
use Rattle.exchange_core.specs.declared.exchange.Exchange.{Exchange}
use Rattle.exchange_core.specs.declared.exchanges.Exchanges.TheInside.{Inside}
use Rattle.flow_gate.proofs.Places.{weaken}
use Rattle.std.proofs.Common.{ap, arith, inl, inr, refl, subst, sym, ◌∙◌}
use Rattle.std.proofs.lemmas.Bool.{cases_Bool, eq-eqb, false≢true, eqb-false, eqb-true, ne_eqb}
use Rattle.std.proofs.lemmas.List.Sums.{sum_by-cons, sum_by_push}
use Rattle.std.proofs.lemmas.Option.{none-some}
use Rattle.std.specs.BTreeMap.{is_at}
use Rattle.std.specs.List.{AllByRecursion}
use Rattle.std.specs.List.Sorted.{IsStrictlySortedBy}
use Rattle.std.specs.Map.{keys_of, lookup, remove_entry}
use Rattle.std.specs.Option.{option_map_or}
use Rattle.std.specs.Ordering.{nat_cmp}
use Rattle.std.specs.VecDeque.{deque_capacity, deque_len}
use Rattle.std.specs.Prelude.{Bool, IsSome, List, None, Some, [], cond, count_by, false, length, nat_eq, option_map, true, ℕ, ◌++◌, ◌+◌, ◌∷◌, ◌≡◌, ◌≤◌}

-- ---- the deferred list
all_last : {X : Type 0} (P : X → Type 0) (xs : List X) (x : X) → AllByRecursion P xs → P x → AllByRecursion P (xs ++ x ∷ [])
all_last P [] x all last = (last, tt)
all_last P (y ∷ ys) x all last = (all.0, all_last P ys x all.1 last)

module _ (y x : ℕ) (doomed : List ℕ) where
  count_last : count_by (nat_eq y) (doomed ++ x ∷ []) ≡ count_by (nat_eq y) doomed + cond (nat_eq y x) 1 0
  count_last = sum_by_push (λ z. cond (nat_eq y z) 1 0) doomed x

  count_first : count_by (nat_eq y) (x ∷ doomed) ≡ cond (nat_eq y x) 1 0 + count_by (nat_eq y) doomed
  count_first = sum_by-cons (λ z. cond (nat_eq y z) 1 0) x doomed

at_most_one : (b : Bool) → cond b 1 0 ≤ 1
at_most_one true = omega arith
at_most_one false = omega arith

-- ---- a doom
module _ (x : ℕ) (found : Exchange) (old : Exchanges) (live : List (ℕ × Exchange)) (there : exchange_at old x ≡ Some found)
    (writes : (y : ℕ) → exchange_at (record old { live = live }) y ≡ cond (nat_eq x y) None (exchange_at old y))
    (order : IsStrictlySortedBy nat_cmp (keys_of live)) where
  apart : (y : ℕ) → exchange_at old y ≡ None → nat_eq x y ≡ false
  apart y none = elim (cases_Bool (nat_eq x y)) [
    | inl same ↦ absurd (none-some found (cc (eqb-true x y same)))
    | inr other ↦ other
  ]

  at_other : (y : ℕ) → nat_eq x y ≡ false → exchange_at (record old { live = live }) y ≡ exchange_at old y
  at_other y other = cc (writes y)

  at_itself : (y : ℕ) → nat_eq x y ≡ true → exchange_at (record old { live = live }) y ≡ None
  at_itself y same = cc (writes y)

  not_twice : (doomed : List ℕ) → AllByRecursion (λ y. (y ≤ old.last) × (exchange_at old y ≡ None)) doomed → count_by (nat_eq x) doomed ≡ 0
  not_twice [] all = refl
  not_twice (y ∷ ys) all =
      let rest = not_twice ys all.1 in
      omega (arith, rest, count_first x y ys, ap {B = ℕ} (λ b. cond b 1 0) (apart y all.0.1))

  pub sound_after : IsSound old → IsSound (record old { live = live; doomed = old.doomed ++ x ∷ [] })
  unfolding exchange_at
  sound_after sound = record {
    order = order;
    below = λ y some. elim (cases_Bool (nat_eq x y)) [
      | inl same ↦ absurd (false≢true (subst IsSome (at_itself y same) some))
      | inr other ↦ sound.below y (subst IsSome (at_other y other) some)
    ];
    each = λ y. elim (cases_Bool (nat_eq x y)) [
      | inl same ↦ rw (at_itself y same) tt
      | inr other ↦ rw (at_other y other) (sound.each y)
    ];
    dead = all_last _ old.doomed x
        (weaken old.doomed (λ y is. (is.0, at_other y (apart y is.1) ∙ is.1)) sound.dead)
        (sound.below x (subst IsSome (sym there) refl), at_itself x (eq-eqb x x refl));
    once = λ y. elim (cases_Bool (nat_eq x y)) [
      | inl same ↦
          let e : x ≡ y = eqb-true x y same in
          let none : count_by (nat_eq y) old.doomed ≡ 0 = rw (← e) (not_twice old.doomed sound.dead) in
          omega (arith, none, count_last y x old.doomed, at_most_one (nat_eq y x))
      | inr other ↦
          let apart : cond (nat_eq y x) 1 0 ≡ 0 = ap {B = ℕ} (λ b. cond b 1 0) (ne_eqb y x (λ e. eqb-false x y other (sym e))) in
          omega (arith, sound.once y, count_last y x old.doomed, apart)
    ];
  }

module _ (c a : Inside) (x : ℕ) (found : Exchange) (kept : IsKept c)
    (found_is : Some found ≡ lookup (is_at (nat_cmp x)) c.live.entries)
    (updates : (y : ℕ) → lookup (is_at (nat_cmp y)) a.live.entries ≡ cond (is_at (nat_cmp x) y) None (lookup (is_at (nat_cmp y)) c.live.entries)) where
  leaves_at : (y : ℕ) → lookup (nat_eq y) a.live.entries ≡ cond (nat_eq x y) None (lookup (nat_eq y) c.live.entries)
  leaves_at = writes_number x None c.live.entries a.live.entries updates

  stored_leaves : (y : ℕ) → exchange_at (record (stored c) { live = a.live.entries }) y ≡ cond (nat_eq x y) None (exchange_at (stored c) y)
  stored_leaves y = cc (stored_at (record c { live = a.live }) y, leaves_at y, stored_at c y)

  in_map : exchange_at (stored c) x ≡ Some found
  in_map = stored_at c x ∙ sym (lookup_number c.live.entries x) ∙ sym found_is

  doomed_seen : a.ticked ≡ c.ticked → (y : ℕ) → exchange_at (exchanges_of a) y ≡ cond (nat_eq x y) None (exchange_at (exchanges_of c) y)
  doomed_seen same y = seen_of a y ∙ (λ i. option_map (seen_at (same i)) (leaves_at y i))
      ∙ elim (nat_eq x y) as (λ b. option_map (seen_at c.ticked) (cond b None (lookup (nat_eq y) c.live.entries)) ≡ cond b None (exchange_at (exchanges_of c) y)) [
        | true ↦ refl
        | false ↦ sym (seen_of c y)
      ]

  pub dooms : a.ticked ≡ c.ticked → a.last ≡ c.last → a.time ≡ c.time → a.doomed.items ≡ c.doomed.items ++ x ∷ [] → Dooms x (exchanges_of c) (exchanges_of a)
  dooms same last time doomed = record { gone = record { live = doomed_seen same; last = last; time = time }; doomed = doomed }

  pub doom_kept : IsStrictlySortedBy nat_cmp (keys_of a.live.entries) → a.live.entries ≡ remove_entry (is_at (nat_cmp x)) c.live.entries → length a.live.entries + 1 ≡ length c.live.entries →
      a.ticked ≡ c.ticked → a.last ≡ c.last → a.time ≡ c.time → a.doomed.items ≡ c.doomed.items ++ x ∷ [] → deque_len a.doomed ≡ deque_len c.doomed + 1 → deque_capacity a.doomed ≡ deque_capacity c.doomed →
      IsMarked x (is_metered found) false c.metered a.metered → IsKept a
  doom_kept order entries long same last time doomed more room marks = record {
    sound = subst IsSound (λ i. record { live = a.live.entries; doomed = sym doomed i; last = sym last i; time = sym time i })
        (sound_after x found (stored c) a.live.entries in_map stored_leaves order kept.sound);
    told = omega (arith, same, time, kept.told);
    room = omega (arith, long, more, room, kept.room);
    metered = λ y. marks.items y ∙ elim (nat_eq x y) as (λ b. cond b false (has c.metered.items y) ≡ option_map_or is_metered (cond b None (exchange_at (stored c) y)) false) [ true ↦ refl | false ↦ kept.metered y ]
        ∙ ap (λ o. option_map_or is_metered o false) (ap (cond (nat_eq x y) None) (stored_at c y) ∙ sym (leaves_at y) ∙ sym (stored_at a y));
    counted =
        let left : count_values is_metered a.live.entries + cond (is_metered found) 1 0 ≡ count_values is_metered c.live.entries =
        cc (count_removed is_metered (is_at (nat_cmp x)) c.live.entries found found_is) in
        omega (arith, left, marks.counted, kept.counted);
    ready = omega (arith, long, kept.ready, marks.room);
  }

pub is_unmarked : (c : Inside) (x : ℕ) (found : Exchange) → IsKept c → Some found ≡ lookup (is_at (nat_cmp x)) c.live.entries → (marked : NumberSet) →
    ((y : ℕ) → has marked.items y ≡ cond (nat_eq x y) false (has c.metered.items y)) → length marked.items + cond (has c.metered.items x) 1 0 ≡ length c.metered.items + 0 → marked.room ≡ c.metered.room →
    IsMarked x (is_metered found) false c.metered marked
is_unmarked c x found kept found_is marked items len room =
    let is : has c.metered.items x ≡ is_metered found =
    cc (kept.metered x, stored_at c x, lookup_number c.live.entries x) in
    record { items = items; counted = cc; room = room }

-- ---- a sweep
pub sound_swept : (x : ℕ) (rest : List ℕ) (old : Exchanges) → old.doomed ≡ x ∷ rest → IsSound old → IsSound (record old { doomed = rest })
unfolding exchange_at
sound_swept x rest old is sound = record {
  order = sound.order;
  below = sound.below;
  each = sound.each;
  dead = (subst (AllByRecursion (λ y. (y ≤ old.last) × (exchange_at old y ≡ None))) is sound.dead).1;
  once = λ y. let one : count_by (nat_eq y) (x ∷ rest) ≤ 1 = subst (λ ys. count_by (nat_eq y) ys ≤ 1) is (sound.once y) in
      omega (arith, one, count_first y x rest);
}
