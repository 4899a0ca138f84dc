-- How many exchanges have Meters that hold octets.
use Rattle.exchange_core.proofs.Moments.{chain_kept}
use Rattle.exchange_core.proofs.Refilled.{refilled_any}
use Rattle.exchange_core.specs.Exchange.{at_moment, is_metered, seen_at}
use Rattle.exchange_core.specs.Flow.{Flow, is_filled_meter, meters_hold}
use Rattle.number_set.specs.NumberSet.{NumberSet, has}
use Rattle.exchange_core.specs.declared.exchange.Exchange.{Exchange}
use Rattle.std.proofs.Common.{ap, arith, inl, inr, refl, sym, ◌∙◌}
use Rattle.std.proofs.lemmas.Bool.{cases_Bool}
use Rattle.std.proofs.lemmas.List.Sums.{sum_by-cons}
use Rattle.std.proofs.lemmas.Option.{none-some, same_Some}
use Rattle.std.specs.BTreeMap.{insert_entry, is_at}
use Rattle.std.specs.List.{list_any}
use Rattle.std.specs.Map.{lookup, remove_entry, set_value}
use Rattle.std.specs.Option.{option_map_or}
use Rattle.std.specs.Ordering.{is_eq, match_ordering, nat_cmp}
use Rattle.std.specs.Prelude.{Bool, List, None, Option, Some, [], cond, count_by, false, length, nat_eq, option_map, true, ℕ, ◌+◌, ◌<◌, ◌||◌, ◌∷◌, ◌≡◌, ◌≤◌}
use Rattle.std.specs.declared.cmp.Ordering.TheVariants.{Equal, Greater, Less}

-- the set was told which exchanges have Meters that hold octets
pub record IsMarked (x : ℕ) (before now : Bool) (old new : NumberSet) : Type 0 where
  pub items : (y : ℕ) → has new.items y ≡ cond (nat_eq x y) now (has old.items y)
  pub counted : length new.items + cond before 1 0 ≡ length old.items + cond now 1 0
  pub room : new.room ≡ old.room

-- ---- time leaves it
flow_metered : (now : ℕ) (flow : Flow) → meters_hold (at_moment now flow) ≡ meters_hold flow
flow_metered now flow = chain_kept (λ chain. list_any is_filled_meter chain.places) now flow.chain (refilled_any _ flow.chain.places)

pub exchange_metered : (now : ℕ) (exchange : Exchange) → is_metered (seen_at now exchange) ≡ is_metered exchange
exchange_metered now exchange = λ i. flow_metered now exchange.request i || by_response exchange.response i
  where
    by_response : (response : Option Flow) → option_map_or meters_hold (option_map (at_moment now) response) false ≡ option_map_or meters_hold response false
    by_response None = refl
    by_response (Some flow) = flow_metered now flow

-- ---- how many there are
module _ {X : Type 0} (p : X → Bool) where
  abbrev pub count_values : List (ℕ × X) → ℕ
  count_values es = count_by (λ e. p e.1) es

  count_cons : (e : ℕ × X) (es : List (ℕ × X)) → count_values (e ∷ es) ≡ cond (p e.1) 1 0 + count_values es
  count_cons e es = sum_by-cons (λ d. cond (p d.1) 1 0) e es

  pub count_set : (test : ℕ → Bool) (es : List (ℕ × X)) (v w : X) → Some v ≡ lookup test es →
      count_values (set_value test es w) + cond (p v) 1 0 ≡ count_values es + cond (p w) 1 0
  count_set test [] v w is = absurd (none-some v (sym is))
  count_set test (e ∷ es) v w is = elim (cases_Bool (test e.0)) [
    | inl here ↦
        let value : v ≡ e.1 = same_Some v e.1 (cc) in
        let set : count_values (set_value test (e ∷ es) w) ≡ count_values ((e.0, w) ∷ es) = cc in
        let same : cond (p v) 1 0 ≡ cond (p e.1) 1 0 = ap {B = ℕ} (λ x. cond (p x) 1 0) value in
        omega (arith, set, same, count_cons e es, count_cons (e.0, w) es)
    | inr other ↦
        let set : count_values (set_value test (e ∷ es) w) ≡ count_values (e ∷ set_value test es w) = cc in
        let rest = count_set test es v w (cc) in
        omega (arith, set, rest, count_cons e es, count_cons e (set_value test es w))
  ]

  pub count_removed : (test : ℕ → Bool) (es : List (ℕ × X)) (v : X) → Some v ≡ lookup test es →
      count_values (remove_entry test es) + cond (p v) 1 0 ≡ count_values es
  count_removed test [] v is = absurd (none-some v (sym is))
  count_removed test (e ∷ es) v is = elim (cases_Bool (test e.0)) [
    | inl here ↦
        let value : v ≡ e.1 = same_Some v e.1 (cc) in
        let left : count_values (remove_entry test (e ∷ es)) ≡ count_values es = cc in
        let same : cond (p v) 1 0 ≡ cond (p e.1) 1 0 = ap {B = ℕ} (λ x. cond (p x) 1 0) value in
        omega (arith, left, same, count_cons e es)
    | inr other ↦
        let left : count_values (remove_entry test (e ∷ es)) ≡ count_values (e ∷ remove_entry test es) = cc in
        let rest = count_removed test es v (cc) in
        omega (arith, left, rest, count_cons e es, count_cons e (remove_entry test es))
  ]

  -- one that isn't counted leaves room
  pub count_room : (test : ℕ → Bool) (es : List (ℕ × X)) (v : X) → Some v ≡ lookup test es → p v ≡ false → count_values es < length es
  count_room test [] v is quiet = absurd (none-some v (sym is))
  count_room test (e ∷ es) v is quiet = elim (cases_Bool (test e.0)) [
    | inl here ↦
        let value : v ≡ e.1 = same_Some v e.1 (cc) in
        let none : cond (p e.1) 1 0 ≡ 0 = ap {B = ℕ} (λ x. cond (p x) 1 0) (sym value) ∙ ap (λ b. cond b 1 0) quiet in
        omega (arith, none, count_cons e es, count_most es)
    | inr other ↦
        let rest = count_room test es v (cc) quiet in
        omega (arith, rest, count_cons e es, at_most_one (p e.1))
  ]
    where
      at_most_one : (b : Bool) → cond b 1 0 ≤ 1
      at_most_one true = omega arith
      at_most_one false = omega arith

      count_most : (xs : List (ℕ × X)) → count_values xs ≤ length xs
      count_most [] = omega arith
      count_most (x ∷ xs) = let rest = count_most xs in omega (arith, rest, count_cons x xs, at_most_one (p x.1))

  -- a new number
  pub count_inserted : (k : ℕ) (v : X) (es : List (ℕ × X)) → lookup (is_at (nat_cmp k)) es ≡ None → count_values (insert_entry nat_cmp es k v) ≡ cond (p v) 1 0 + count_values es
  count_inserted k v [] none = count_cons (k, v) []
  count_inserted k v (e ∷ es) none = (elim (nat_cmp k e.0) as (λ o. cond (is_eq o) (Some e.1) (lookup (is_at (nat_cmp k)) es) ≡ None
      → count_values (match_ordering o ((k, v) ∷ e ∷ es) ((e.0, v) ∷ es) (e ∷ insert_entry nat_cmp es k v)) ≡ cond (p v) 1 0 + count_values (e ∷ es)) [
        | Less ↦ λ is. count_cons (k, v) (e ∷ es)
        | Equal ↦ λ is. absurd (none-some e.1 (sym is))
        | Greater ↦ λ is. (let rest = count_inserted k v es is in omega (arith, rest, count_cons e es, count_cons e (insert_entry nat_cmp es k v)))
      ]) none
