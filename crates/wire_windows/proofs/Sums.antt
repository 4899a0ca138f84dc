-- Sums over the values of a finite map by number.
use Rattle.std.proofs.Common.{ap, arith, refl, subst, sym, ◌∙◌}
use Rattle.std.proofs.lemmas.List.Sums.{sum_by-cons}
use Rattle.std.specs.Cmp.{nat_cmp_total}
use Rattle.std.specs.FinMap.{FinMap, contains_key, entries, entries-insert, entries_sorted, get, get-entries, insert, len, len-entries, len-insert, remove, values}
use Rattle.std.specs.FinMap.Entries.{below_all, by_order, find, is_sorted, put}
use Rattle.std.specs.Map.{values_of}
use Rattle.std.specs.Option.{option_map_or}
use Rattle.std.specs.Ordering.{is_eq, is_lt, nat_cmp}
use Rattle.std.specs.declared.cmp.Ordering.{Ordering}
use Rattle.std.specs.declared.cmp.Ordering.TheVariants.{Equal, Greater, Less}
use Rattle.std.specs.Prelude.{Bool, List, None, Option, Some, T, [], cond, false, is_some, length, sum_by, true, ℕ, ◌&&◌, ◌+◌, ◌<◌, ◌∷◌, ◌≡◌, ◌≤◌}
use Rattle.wire_windows.proofs.Maps.{get_gone, put_back, remove_absent}

first : (a b : Bool) → T (a && b) → T a
first true b h = tt
first false b h = h

second : (a b : Bool) → T (a && b) → T b
second true b h = h
second false b h = absurd h

both : (a b : Bool) → T a → T b → T (a && b)
both true b p q = q
both false b p q = p

less_is : (o : Ordering) → T (is_lt o) → o ≡ Less
less_is Less h = refl
less_is Equal h = absurd h
less_is Greater h = absurd h

swapped : (s t v e r : ℕ) → s ≡ v + r → t ≡ e + r → s + e ≡ t + v
swapped s t v e r a b = omega arith

joined : (s p w t r v e : ℕ) → s ≡ e + p → p + w ≡ r + v → t ≡ e + r → s + w ≡ t + v
joined s p w t r v e a b c = omega arith

module _ {X : Type 0} where
  below_lesser : (x y : ℕ) (es : List (ℕ × X)) → nat_cmp x y ≡ Less → T (below_all nat_cmp y es) → T (below_all nat_cmp x es)
  below_lesser x y [] less h = tt
  below_lesser x y (e ∷ es) less h =
      let next : nat_cmp x e.0 ≡ Less = nat_cmp_total.trans x y e.0 less (less_is _ (first _ _ h)) in
      both _ _ (subst (λ o. T (is_lt o)) (sym next) tt) (below_lesser x y es less (second _ _ h))

  below_none : (k : ℕ) (es : List (ℕ × X)) → T (below_all nat_cmp k es) → find nat_cmp k es ≡ None
  below_none k [] h = refl
  below_none k (e ∷ es) h =
      elim (nat_cmp k e.0) as (λ o. T (is_lt o && below_all nat_cmp k es) → cond (is_eq o) (Some e.1) (find nat_cmp k es) ≡ None) [
        | Less ↦ λ below. below_none k es below
        | Equal ↦ λ below. absurd below
        | Greater ↦ λ below. absurd below
      ] h

module _ {X : Type 0} (f : X → ℕ) where
  -- what the values weigh together, and what a value weighs, if there is one
  abbrev pub weighed : FinMap nat_cmp X → ℕ
  weighed m = sum_by f (values m)

  abbrev pub weight : Option X → ℕ
  weight o = option_map_or f o 0

  sum_put : (k : ℕ) (v : X) (es : List (ℕ × X)) → T (is_sorted nat_cmp es) → sum_by f (values_of (put nat_cmp k v es)) + weight (find nat_cmp k es) ≡ sum_by f (values_of es) + f v
  sum_put k v [] sorted = omega (arith, sum_by-cons f v [])
  sum_put k v (e ∷ es) sorted =
      let whole : sum_by f (values_of (e ∷ es)) ≡ f e.1 + sum_by f (values_of es) = sum_by-cons f e.1 (values_of es) in
      elim (nat_cmp k e.0) as (λ o. nat_cmp k e.0 ≡ o → sum_by f (values_of (by_order o ((k, v) ∷ e ∷ es) ((e.0, v) ∷ es) (e ∷ put nat_cmp k v es))) + weight (cond (is_eq o) (Some e.1) (find nat_cmp k es)) ≡ sum_by f (values_of (e ∷ es)) + f v) [
        | Less ↦ λ less.
            let none : weight (find nat_cmp k es) ≡ 0 = ap weight (below_none k es (below_lesser k e.0 es less (first _ _ sorted))) in
            let more : sum_by f (v ∷ values_of (e ∷ es)) ≡ f v + sum_by f (values_of (e ∷ es)) = sum_by-cons f v (values_of (e ∷ es)) in
            ap (λ n. sum_by f (v ∷ values_of (e ∷ es)) + n) none ∙ omega (arith, more)
        | Equal ↦ λ same.
            let other : sum_by f (v ∷ values_of es) ≡ f v + sum_by f (values_of es) = sum_by-cons f v (values_of es) in
            swapped (sum_by f (v ∷ values_of es)) (sum_by f (values_of (e ∷ es))) (f v) (f e.1) (sum_by f (values_of es)) other whole
        | Greater ↦ λ greater.
            let rest : sum_by f (values_of (put nat_cmp k v es)) + weight (find nat_cmp k es) ≡ sum_by f (values_of es) + f v = sum_put k v es (second _ _ sorted) in
            let after : sum_by f (e.1 ∷ values_of (put nat_cmp k v es)) ≡ f e.1 + sum_by f (values_of (put nat_cmp k v es)) = sum_by-cons f e.1 (values_of (put nat_cmp k v es)) in
            joined (sum_by f (e.1 ∷ values_of (put nat_cmp k v es))) (sum_by f (values_of (put nat_cmp k v es))) (weight (find nat_cmp k es)) (sum_by f (values_of (e ∷ es))) (sum_by f (values_of es)) (f v) (f e.1) after rest whole
      ] refl

  pub sum_insert : (m : FinMap nat_cmp X) (k : ℕ) (v : X) → weighed (insert m k v) + weight (get m k) ≡ weighed m + f v
  sum_insert m k v =
      let after : weighed (insert m k v) ≡ sum_by f (values_of (put nat_cmp k v (entries m))) = ap (λ es. sum_by f (values_of es)) (entries-insert nat_cmp_total m k v) in
      let at : weight (get m k) ≡ weight (find nat_cmp k (entries m)) = ap weight (get-entries m k) in
      omega (arith, after, at, sum_put k v (entries m) (entries_sorted m))

  pub sum_remove : (m : FinMap nat_cmp X) (k : ℕ) → weighed (remove m k) + weight (get m k) ≡ weighed m
  sum_remove m k = at (get m k) refl
    where
      at : (o : Option X) → get m k ≡ o → weighed (remove m k) + weight (get m k) ≡ weighed m
      at None none =
          let same : weighed (remove m k) ≡ weighed m = ap weighed (remove_absent m k none) in
          let nothing : weight (get m k) ≡ 0 = ap weight none in
          omega (arith, same, nothing)
      at (Some v) there =
          let back : weighed (insert (remove m k) k v) ≡ weighed m = ap weighed (put_back m k v there) in
          let gone : weight (get (remove m k) k) ≡ 0 = ap weight (get_gone m k) in
          let here : weight (get m k) ≡ f v = ap weight there in
          omega (arith, back, gone, here, sum_insert (remove m k) k v)

  -- a value weighs no more than all of them
  pub sum_at_least : (m : FinMap nat_cmp X) (k : ℕ) → weight (get m k) ≤ weighed m
  sum_at_least m k = omega (arith, sum_remove m k)

  -- nothing weighs nothing
  pub sum_none : (m : FinMap nat_cmp X) → len m ≡ 0 → weighed m ≡ 0
  sum_none m none = at (entries m) (sym (len-entries m) ∙ none)
    where
      at : (es : List (ℕ × X)) → length es ≡ 0 → sum_by f (values_of es) ≡ 0
      at [] e = refl
      at (e ∷ es) some = absurd (omega (arith, some))

  sum_below : ((v : X) → f v ≤ 1) → (es : List (ℕ × X)) → sum_by f (values_of es) ≤ length es
  sum_below light [] = omega arith
  sum_below light (e ∷ es) = omega (arith, light e.1, sum_below light es, sum_by-cons f e.1 (values_of es))

  -- where each weighs at most 1, and this one nothing, they weigh less than there are
  pub sum_less : (m : FinMap nat_cmp X) (k : ℕ) (v : X) → ((w : X) → f w ≤ 1) → get m k ≡ Some v → f v ≡ 0 → weighed m < len m
  sum_less m k v light there nothing =
      let absent : contains_key (remove m k) k ≡ false = ap is_some (get_gone m k) in
      let one_more : len (insert (remove m k) k v) ≡ len (remove m k) + 1 = len-insert nat_cmp_total (remove m k) k v ∙ ap (λ b. cond b (len (remove m k)) (len (remove m k) + 1)) absent in
      let back : len (insert (remove m k) k v) ≡ len m = ap len (put_back m k v there) in
      let here : weight (get m k) ≡ 0 = ap weight there ∙ nothing in
      omega (arith, one_more, back, here, sum_remove m k, sum_below light (entries (remove m k)), len-entries (remove m k))
