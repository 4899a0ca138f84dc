-- What stands under a number, after one comes, changes or goes.
use Rattle.std.proofs.Common.{ap, arith, inl, inr, refl, subst, sym, ◌∙◌}
use Rattle.std.proofs.lemmas.Bool.{cases_Bool}
use Rattle.std.proofs.lemmas.Map.{keys-set_value}
use Rattle.std.proofs.lemmas.Map.Made.{lookup-map_values}
use Rattle.std.proofs.lemmas.Map.Steps.{set_value_same}
use Rattle.std.proofs.lemmas.Option.{none-some}
use Rattle.std.specs.BTreeMap.{insert_entry, is_at}
use Rattle.std.specs.BTreeSet.{insert_key}
use Rattle.std.specs.Map.{keys_of, remove_entry, set_value}
use Rattle.std.specs.Option.{option_map, option_map_or}
use Rattle.std.specs.Ordering.{match_ordering, nat_cmp}
use Rattle.std.specs.List.Sorted.{IsStrictlySortedBy}
use Rattle.std.specs.Prelude.{Bool, List, None, Option, Some, [], false, if◌then◌else◌, length, map, nat_eq, true, ℕ, ◌∷◌, ◌≡◌, ◌≤◌}
use Rattle.std.specs.declared.cmp.Ordering.{Ordering}
use Rattle.std.specs.declared.cmp.Ordering.TheVariants.{Equal, Greater, Less}
use Rattle.std.specs.Set.{remove_key}
use Rattle.number_set.proofs.Sorted.{Above, rises_insert, rises_remove}
use Rattle.number_set.proofs.Tests.{above_apart, at_apart, at_here, below_apart, compared, here, less_is, same_or_apart, turned}
use Rattle.number_set.specs.NumberSet.{Rises}
use Rattle.wire_links.specs.Numbers.{changed, under}

pub some_is : {X : Type 0} (x y : X) → Some x ≡ Some y → x ≡ y
some_is x y e = ap (λ o. option_map_or (λ z. z) o x) e

pub choice : {Y : Type 0} (n m : ℕ) (a b : Y) → n ≡ m → (if nat_eq n m then a else b) ≡ a
choice n m a b is = ap (λ t. if t then a else b) (here n m is)

pub other : {Y : Type 0} (n m : ℕ) (a b : Y) → nat_eq n m ≡ false → (if nat_eq n m then a else b) ≡ b
other n m a b apart = ap (λ t. if t then a else b) apart

module _ {X : Type 0} where
  pub under_first : (e : ℕ × X) (es : List (ℕ × X)) (n : ℕ) → n ≡ e.0 → under n (e ∷ es) ≡ Some e.1
  under_first e es n is = ap (λ t. if t then Some e.1 else under n es) (at_here n e.0 is)

  pub under_later : (e : ℕ × X) (es : List (ℕ × X)) (n : ℕ) → nat_eq n e.0 ≡ false → under n (e ∷ es) ≡ under n es
  under_later e es n apart = ap (λ t. if t then Some e.1 else under n es) (at_apart n e.0 apart)

  -- below all others nothing stands
  pub under_none : (es : List (ℕ × X)) (n : ℕ) → Above n (keys_of es) → under n es ≡ None
  under_none [] n above = refl
  under_none (e ∷ es) n above = under_later e es n (below n e.0 above.0) ∙ under_none es n above.1
    where
      below : (m k : ℕ) → nat_cmp m k ≡ Less → nat_eq m k ≡ false
      below m k less = below_apart m k (less_is m k less)

  -- ---- a value is written
  pub under_set : (es : List (ℕ × X)) (n m : ℕ) (v w : X) → under n es ≡ Some v → under m (set_value (is_at (nat_cmp n)) es w) ≡ (if nat_eq n m then Some w else under m es)
  under_set [] n m v w is = absurd (none-some v is)
  under_set (e ∷ es) n m v w is = elim (same_or_apart n e.0) [
    | inl same ↦
        ap (λ t. under m (if t then (e.0, w) ∷ es else e ∷ set_value (is_at (nat_cmp n)) es w)) (at_here n e.0 same)
        ∙ elim (same_or_apart m e.0) [
          | inl there ↦ under_first (e.0, w) es m there ∙ sym (choice n m (Some w) (under m (e ∷ es)) (same ∙ sym there))
          | inr apart ↦ under_later (e.0, w) es m apart ∙ sym (under_later e es m apart)
              ∙ sym (other n m (Some w) (under m (e ∷ es)) (ap (λ k. nat_eq k m) same ∙ turned e.0 m ∙ apart))
        ]
    | inr not_so ↦
        ap (λ t. under m (if t then (e.0, w) ∷ es else e ∷ set_value (is_at (nat_cmp n)) es w)) (at_apart n e.0 not_so)
        ∙ elim (same_or_apart m e.0) [
          | inl there ↦ under_first e (set_value (is_at (nat_cmp n)) es w) m there ∙ sym (under_first e es m there)
              ∙ sym (other n m (Some w) (under m (e ∷ es)) (ap (nat_eq n) there ∙ not_so))
          | inr apart ↦ under_later e (set_value (is_at (nat_cmp n)) es w) m apart
              ∙ under_set es n m v w (sym (under_later e es n not_so) ∙ is)
              ∙ ap (λ o. if nat_eq n m then Some w else o) (sym (under_later e es m apart))
        ]
  ]

  pub changed_some : (es : List (ℕ × X)) (n : ℕ) (f : X → X) (v : X) → under n es ≡ Some v → changed n f es ≡ set_value (is_at (nat_cmp n)) es (f v)
  changed_some es n f v is = ap (λ o. option_map_or (λ x. set_value (is_at (nat_cmp n)) es (f x)) o es) is

  pub changed_none : (es : List (ℕ × X)) (n : ℕ) (f : X → X) → under n es ≡ None → changed n f es ≡ es
  changed_none es n f none = ap (λ o. option_map_or (λ x. set_value (is_at (nat_cmp n)) es (f x)) o es) none

  pub under_changed : (es : List (ℕ × X)) (n m : ℕ) (f : X → X) → under m (changed n f es) ≡ (if nat_eq n m then option_map f (under n es) else under m es)
  under_changed es n m f = by_found (under n es) refl
    where
      by_found : (o : Option X) → under n es ≡ o → under m (changed n f es) ≡ (if nat_eq n m then option_map f (under n es) else under m es)
      by_found None none = ap (under m) (changed_none es n f none) ∙ elim (same_or_apart n m) [
        | inl same ↦ ap (λ k. under k es) (sym same) ∙ none ∙ sym (choice n m (option_map f (under n es)) (under m es) same ∙ ap (option_map f) none)
        | inr apart ↦ sym (other n m (option_map f (under n es)) (under m es) apart)
      ]
      by_found (Some v) is = ap (under m) (changed_some es n f v is) ∙ under_set es n m v (f v) is
          ∙ ap (λ o. if nat_eq n m then o else under m es) (sym (ap (option_map f) is))

  pub under_it : (es : List (ℕ × X)) (n : ℕ) (f : X → X) (v : X) → under n es ≡ Some v → under n (changed n f es) ≡ Some (f v)
  under_it es n f v is = under_changed es n n f ∙ choice n n (option_map f (under n es)) (under n es) refl ∙ ap (option_map f) is

  pub under_others : (es : List (ℕ × X)) (n m : ℕ) (f : X → X) → nat_eq n m ≡ false → under m (changed n f es) ≡ under m es
  under_others es n m f apart = under_changed es n m f ∙ other n m (option_map f (under n es)) (under m es) apart

  pub keys_changed : (es : List (ℕ × X)) (n : ℕ) (f : X → X) → keys_of (changed n f es) ≡ keys_of es
  keys_changed es n f = by_found (under n es)
    where
      by_found : (o : Option X) → keys_of (option_map_or (λ x. set_value (is_at (nat_cmp n)) es (f x)) o es) ≡ keys_of es
      by_found None = refl
      by_found (Some v) = keys-set_value (is_at (nat_cmp n)) es (f v)

  -- what is seen of each stays
  pub seen_changed : {Y : Type 0} (g : X → Y) (es : List (ℕ × X)) (n : ℕ) (f : X → X) → ((x : X) → g (f x) ≡ g x) →
      map {B = ℕ × Y} (λ e. (e.0, g e.1)) (changed n f es) ≡ map (λ e. (e.0, g e.1)) es
  seen_changed {Y} g es n f same = by_found (under n es) refl
    where
      written : (fs : List (ℕ × X)) (v : X) → under n fs ≡ Some v → map {B = ℕ × Y} (λ e. (e.0, g e.1)) (set_value (is_at (nat_cmp n)) fs (f v)) ≡ map (λ e. (e.0, g e.1)) fs
      written [] v is = refl
      written (e ∷ fs) v is = elim (same_or_apart n e.0) [
        | inl here ↦ ap (λ t. map {B = ℕ × Y} (λ d. (d.0, g d.1)) (if t then (e.0, f v) ∷ fs else e ∷ set_value (is_at (nat_cmp n)) fs (f v))) (at_here n e.0 here)
            ∙ ap (λ y. (e.0, y) ∷ map {B = ℕ × Y} (λ d. (d.0, g d.1)) fs) (same v ∙ ap g (some_is v e.1 (sym is ∙ under_first e fs n here)))
        | inr apart ↦ ap (λ t. map {B = ℕ × Y} (λ d. (d.0, g d.1)) (if t then (e.0, f v) ∷ fs else e ∷ set_value (is_at (nat_cmp n)) fs (f v))) (at_apart n e.0 apart)
            ∙ ap (λ ys. (e.0, g e.1) ∷ ys) (written fs v (sym (under_later e fs n apart) ∙ is))
      ]

      by_found : (o : Option X) → under n es ≡ o → map {B = ℕ × Y} (λ e. (e.0, g e.1)) (option_map_or (λ x. set_value (is_at (nat_cmp n)) es (f x)) o es) ≡ map (λ e. (e.0, g e.1)) es
      by_found None none = refl
      by_found (Some v) is = written es v is

  -- written twice, it is as if written once
  pub changed_twice : (es : List (ℕ × X)) (n : ℕ) (f g : X → X) (v : X) → under n es ≡ Some v → g (f v) ≡ v → changed n g (changed n f es) ≡ es
  changed_twice es n f g v is back =
      changed_some (changed n f es) n g (f v) (under_it es n f v is)
      ∙ ap (λ fs. set_value (is_at (nat_cmp n)) fs (g (f v))) (changed_some es n f v is)
      ∙ over es (f v) (g (f v))
      ∙ set_value_same (is_at (nat_cmp n)) es (g (f v)) (is ∙ ap Some (sym back))
    where
      over : (fs : List (ℕ × X)) (w u : X) → set_value (is_at (nat_cmp n)) (set_value (is_at (nat_cmp n)) fs w) u ≡ set_value (is_at (nat_cmp n)) fs u
      over [] w u = refl
      over (e ∷ fs) w u = elim (cases_Bool (is_at (nat_cmp n) e.0)) [
        | inl so ↦ ap (λ t. set_value (is_at (nat_cmp n)) (if t then (e.0, w) ∷ fs else e ∷ set_value (is_at (nat_cmp n)) fs w) u) so
            ∙ ap (λ t. if t then (e.0, u) ∷ fs else (e.0, w) ∷ set_value (is_at (nat_cmp n)) fs u) so
            ∙ sym (ap (λ t. if t then (e.0, u) ∷ fs else e ∷ set_value (is_at (nat_cmp n)) fs u) so)
        | inr not_so ↦ ap (λ t. set_value (is_at (nat_cmp n)) (if t then (e.0, w) ∷ fs else e ∷ set_value (is_at (nat_cmp n)) fs w) u) not_so
            ∙ ap (λ t. if t then (e.0, u) ∷ set_value (is_at (nat_cmp n)) fs w else e ∷ set_value (is_at (nat_cmp n)) (set_value (is_at (nat_cmp n)) fs w) u) not_so
            ∙ ap (λ gs. e ∷ gs) (over fs w u)
            ∙ sym (ap (λ t. if t then (e.0, u) ∷ fs else e ∷ set_value (is_at (nat_cmp n)) fs u) not_so)
      ]

  -- ---- one comes
  pub under_insert : (es : List (ℕ × X)) (n m : ℕ) (v : X) → under m (insert_entry nat_cmp es n v) ≡ (if nat_eq n m then Some v else under m es)
  under_insert [] n m v = elim (same_or_apart n m) [
    | inl same ↦ under_first (n, v) [] m (sym same) ∙ sym (choice n m (Some v) None same)
    | inr apart ↦ under_later (n, v) [] m (turned m n ∙ apart) ∙ sym (other n m (Some v) None apart)
  ]
  under_insert (e ∷ es) n m v = elim (compared n e.0) [
    | inl below ↦ ap (λ o. under m (match_ordering o ((n, v) ∷ e ∷ es) ((e.0, v) ∷ es) (e ∷ insert_entry nat_cmp es n v))) below.order
        ∙ elim (same_or_apart n m) [
          | inl same ↦ under_first (n, v) (e ∷ es) m (sym same) ∙ sym (choice n m (Some v) (under m (e ∷ es)) same)
          | inr apart ↦ under_later (n, v) (e ∷ es) m (turned m n ∙ apart) ∙ sym (other n m (Some v) (under m (e ∷ es)) apart)
        ]
    | inr rest ↦ elim rest [
      | inl equal ↦ ap (λ o. under m (match_ordering o ((n, v) ∷ e ∷ es) ((e.0, v) ∷ es) (e ∷ insert_entry nat_cmp es n v))) equal.order
          ∙ elim (same_or_apart n m) [
            | inl same ↦ under_first (e.0, v) es m (sym same ∙ equal.same) ∙ sym (choice n m (Some v) (under m (e ∷ es)) same)
            | inr apart ↦
                let not_so : nat_eq m e.0 ≡ false = ap (nat_eq m) (sym equal.same) ∙ turned m n ∙ apart in
                under_later (e.0, v) es m not_so ∙ sym (under_later e es m not_so) ∙ sym (other n m (Some v) (under m (e ∷ es)) apart)
          ]
      | inr above ↦ ap (λ o. under m (match_ordering o ((n, v) ∷ e ∷ es) ((e.0, v) ∷ es) (e ∷ insert_entry nat_cmp es n v))) above.order
          ∙ elim (same_or_apart m e.0) [
            | inl there ↦ under_first e (insert_entry nat_cmp es n v) m there ∙ sym (under_first e es m there)
                ∙ sym (other n m (Some v) (under m (e ∷ es)) (ap (nat_eq n) there ∙ above_apart n e.0 above.more))
            | inr apart ↦ under_later e (insert_entry nat_cmp es n v) m apart ∙ under_insert es n m v
                ∙ ap (λ o. if nat_eq n m then Some v else o) (sym (under_later e es m apart))
          ]
    ]
  ]

  pub keys_insert : (es : List (ℕ × X)) (n : ℕ) (v : X) → keys_of (insert_entry nat_cmp es n v) ≡ insert_key nat_cmp (keys_of es) n
  keys_insert [] n v = refl
  keys_insert (e ∷ es) n v = elim (compared n e.0) [
    | inl below ↦ ap (λ o. keys_of (match_ordering o ((n, v) ∷ e ∷ es) ((e.0, v) ∷ es) (e ∷ insert_entry nat_cmp es n v))) below.order
        ∙ sym (ap (λ o. match_ordering o (n ∷ e.0 ∷ keys_of es) (e.0 ∷ keys_of es) (e.0 ∷ insert_key nat_cmp (keys_of es) n)) below.order)
    | inr rest ↦ elim rest [
      | inl equal ↦ ap (λ o. keys_of (match_ordering o ((n, v) ∷ e ∷ es) ((e.0, v) ∷ es) (e ∷ insert_entry nat_cmp es n v))) equal.order
          ∙ sym (ap (λ o. match_ordering o (n ∷ e.0 ∷ keys_of es) (e.0 ∷ keys_of es) (e.0 ∷ insert_key nat_cmp (keys_of es) n)) equal.order)
      | inr above ↦ ap (λ o. keys_of (match_ordering o ((n, v) ∷ e ∷ es) ((e.0, v) ∷ es) (e ∷ insert_entry nat_cmp es n v))) above.order
          ∙ ap (λ ks. e.0 ∷ ks) (keys_insert es n v)
          ∙ sym (ap (λ o. match_ordering o (n ∷ e.0 ∷ keys_of es) (e.0 ∷ keys_of es) (e.0 ∷ insert_key nat_cmp (keys_of es) n)) above.order)
    ]
  ]

  pub entries_insert : (es : List (ℕ × X)) (n : ℕ) (v : X) → Rises (keys_of es) → Rises (keys_of (insert_entry nat_cmp es n v))
  entries_insert es n v r = subst Rises (sym (keys_insert es n v)) (rises_insert (keys_of es) n r)

  -- what came and is changed then came so
  pub changed_insert : (es : List (ℕ × X)) (n : ℕ) (v : X) (f : X → X) → changed n f (insert_entry nat_cmp es n v) ≡ insert_entry nat_cmp es n (f v)
  changed_insert es n v f = changed_some (insert_entry nat_cmp es n v) n f v (under_insert es n n v ∙ choice n n (Some v) (under n es) refl) ∙ over es
    where
      over : (fs : List (ℕ × X)) → set_value (is_at (nat_cmp n)) (insert_entry nat_cmp fs n v) (f v) ≡ insert_entry nat_cmp fs n (f v)
      over [] = ap (λ t. if t then (n, f v) ∷ [] else (n, v) ∷ []) (at_here n n refl)
      over (e ∷ fs) = elim (compared n e.0) [
        | inl below ↦ ap (λ o. set_value (is_at (nat_cmp n)) (match_ordering o ((n, v) ∷ e ∷ fs) ((e.0, v) ∷ fs) (e ∷ insert_entry nat_cmp fs n v)) (f v)) below.order
            ∙ ap (λ t. if t then (n, f v) ∷ e ∷ fs else (n, v) ∷ set_value (is_at (nat_cmp n)) (e ∷ fs) (f v)) (at_here n n refl)
            ∙ sym (ap (λ o. match_ordering o ((n, f v) ∷ e ∷ fs) ((e.0, f v) ∷ fs) (e ∷ insert_entry nat_cmp fs n (f v))) below.order)
        | inr rest ↦ elim rest [
          | inl equal ↦ ap (λ o. set_value (is_at (nat_cmp n)) (match_ordering o ((n, v) ∷ e ∷ fs) ((e.0, v) ∷ fs) (e ∷ insert_entry nat_cmp fs n v)) (f v)) equal.order
              ∙ ap (λ t. if t then (e.0, f v) ∷ fs else (e.0, v) ∷ set_value (is_at (nat_cmp n)) fs (f v)) (at_here n e.0 equal.same)
              ∙ sym (ap (λ o. match_ordering o ((n, f v) ∷ e ∷ fs) ((e.0, f v) ∷ fs) (e ∷ insert_entry nat_cmp fs n (f v))) equal.order)
          | inr above ↦ ap (λ o. set_value (is_at (nat_cmp n)) (match_ordering o ((n, v) ∷ e ∷ fs) ((e.0, v) ∷ fs) (e ∷ insert_entry nat_cmp fs n v)) (f v)) above.order
              ∙ ap (λ t. if t then (e.0, f v) ∷ insert_entry nat_cmp fs n v else e ∷ set_value (is_at (nat_cmp n)) (insert_entry nat_cmp fs n v) (f v)) (at_apart n e.0 (above_apart n e.0 above.more))
              ∙ ap (λ gs. e ∷ gs) (over fs)
              ∙ sym (ap (λ o. match_ordering o ((n, f v) ∷ e ∷ fs) ((e.0, f v) ∷ fs) (e ∷ insert_entry nat_cmp fs n (f v))) above.order)
        ]
      ]

  -- ---- one goes
  pub under_remove : (es : List (ℕ × X)) (n m : ℕ) → Rises (keys_of es) → under m (remove_entry (is_at (nat_cmp n)) es) ≡ (if nat_eq n m then None else under m es)
  unfolding IsStrictlySortedBy
  under_remove [] n m r = elim (cases_Bool (nat_eq n m)) [
    | inl so ↦ sym (ap (λ t. if t then None else None) so)
    | inr not_so ↦ sym (ap (λ t. if t then None else None) not_so)
  ]
  under_remove (e ∷ es) n m r = elim (same_or_apart n e.0) [
    | inl same ↦ ap (λ t. under m (if t then es else e ∷ remove_entry (is_at (nat_cmp n)) es)) (at_here n e.0 same)
        ∙ elim (same_or_apart n m) [
          | inl there ↦ under_none es m (subst (λ k. Above k (keys_of es)) (sym same ∙ there) r.0) ∙ sym (choice n m None (under m (e ∷ es)) there)
          | inr apart ↦ sym (under_later e es m (ap (nat_eq m) (sym same) ∙ turned m n ∙ apart)) ∙ sym (other n m None (under m (e ∷ es)) apart)
        ]
    | inr not_so ↦ ap (λ t. under m (if t then es else e ∷ remove_entry (is_at (nat_cmp n)) es)) (at_apart n e.0 not_so)
        ∙ elim (same_or_apart m e.0) [
          | inl there ↦ under_first e (remove_entry (is_at (nat_cmp n)) es) m there ∙ sym (under_first e es m there)
              ∙ sym (other n m None (under m (e ∷ es)) (ap (nat_eq n) there ∙ not_so))
          | inr apart ↦ under_later e (remove_entry (is_at (nat_cmp n)) es) m apart ∙ under_remove es n m r.1
              ∙ ap (λ o. if nat_eq n m then None else o) (sym (under_later e es m apart))
        ]
  ]

  pub keys_remove : (es : List (ℕ × X)) (n : ℕ) → keys_of (remove_entry (is_at (nat_cmp n)) es) ≡ remove_key (is_at (nat_cmp n)) (keys_of es)
  keys_remove [] n = refl
  keys_remove (e ∷ es) n = elim (cases_Bool (is_at (nat_cmp n) e.0)) [
    | inl so ↦ ap (λ t. keys_of (if t then es else e ∷ remove_entry (is_at (nat_cmp n)) es)) so
        ∙ sym (ap (λ t. if t then keys_of es else e.0 ∷ remove_key (is_at (nat_cmp n)) (keys_of es)) so)
    | inr not_so ↦ ap (λ t. keys_of (if t then es else e ∷ remove_entry (is_at (nat_cmp n)) es)) not_so
        ∙ ap (λ ks. e.0 ∷ ks) (keys_remove es n)
        ∙ sym (ap (λ t. if t then keys_of es else e.0 ∷ remove_key (is_at (nat_cmp n)) (keys_of es)) not_so)
  ]

  pub entries_remove : (es : List (ℕ × X)) (n : ℕ) → Rises (keys_of es) → Rises (keys_of (remove_entry (is_at (nat_cmp n)) es))
  entries_remove es n r = subst Rises (sym (keys_remove es n)) (rises_remove (keys_of es) n r)

  -- what goes is gone whatever it was
  pub remove_changed : (es : List (ℕ × X)) (n : ℕ) (f : X → X) → remove_entry (is_at (nat_cmp n)) (changed n f es) ≡ remove_entry (is_at (nat_cmp n)) es
  remove_changed es n f = by_found (under n es)
    where
      over : (fs : List (ℕ × X)) (w : X) → remove_entry (is_at (nat_cmp n)) (set_value (is_at (nat_cmp n)) fs w) ≡ remove_entry (is_at (nat_cmp n)) fs
      over [] w = refl
      over (e ∷ fs) w = elim (cases_Bool (is_at (nat_cmp n) e.0)) [
        | inl so ↦ ap (λ t. remove_entry (is_at (nat_cmp n)) (if t then (e.0, w) ∷ fs else e ∷ set_value (is_at (nat_cmp n)) fs w)) so
            ∙ ap (λ t. if t then fs else (e.0, w) ∷ remove_entry (is_at (nat_cmp n)) fs) so
            ∙ sym (ap (λ t. if t then fs else e ∷ remove_entry (is_at (nat_cmp n)) fs) so)
        | inr not_so ↦ ap (λ t. remove_entry (is_at (nat_cmp n)) (if t then (e.0, w) ∷ fs else e ∷ set_value (is_at (nat_cmp n)) fs w)) not_so
            ∙ ap (λ t. if t then set_value (is_at (nat_cmp n)) fs w else e ∷ remove_entry (is_at (nat_cmp n)) (set_value (is_at (nat_cmp n)) fs w)) not_so
            ∙ ap (λ gs. e ∷ gs) (over fs w)
            ∙ sym (ap (λ t. if t then fs else e ∷ remove_entry (is_at (nat_cmp n)) fs) not_so)
      ]

      by_found : (o : Option X) → remove_entry (is_at (nat_cmp n)) (option_map_or (λ x. set_value (is_at (nat_cmp n)) es (f x)) o es) ≡ remove_entry (is_at (nat_cmp n)) es
      by_found None = refl
      by_found (Some v) = over es (f v)

  -- nothing was there
  pub remove_absent : (es : List (ℕ × X)) (n : ℕ) → under n es ≡ None → remove_entry (is_at (nat_cmp n)) es ≡ es
  remove_absent [] n none = refl
  remove_absent (e ∷ es) n none = elim (same_or_apart n e.0) [
    | inl same ↦ absurd (none-some e.1 (sym none ∙ under_first e es n same))
    | inr apart ↦ ap (λ t. if t then es else e ∷ remove_entry (is_at (nat_cmp n)) es) (at_apart n e.0 apart)
        ∙ ap (λ fs. e ∷ fs) (remove_absent es n (sym (under_later e es n apart) ∙ none))
  ]

  -- what came and goes again
  pub remove_insert : (es : List (ℕ × X)) (n : ℕ) (v : X) → under n es ≡ None → remove_entry (is_at (nat_cmp n)) (insert_entry nat_cmp es n v) ≡ es
  remove_insert [] n v none = ap (λ t. if t then [] else (n, v) ∷ []) (at_here n n refl)
  remove_insert (e ∷ es) n v none = elim (compared n e.0) [
    | inl below ↦ ap (λ o. remove_entry (is_at (nat_cmp n)) (match_ordering o ((n, v) ∷ e ∷ es) ((e.0, v) ∷ es) (e ∷ insert_entry nat_cmp es n v))) below.order
        ∙ ap (λ t. if t then e ∷ es else (n, v) ∷ remove_entry (is_at (nat_cmp n)) (e ∷ es)) (at_here n n refl)
    | inr rest ↦ elim rest [
      | inl equal ↦ absurd (none-some e.1 (sym none ∙ under_first e es n equal.same))
      | inr above ↦
          let apart : nat_eq n e.0 ≡ false = above_apart n e.0 above.more in
          ap (λ o. remove_entry (is_at (nat_cmp n)) (match_ordering o ((n, v) ∷ e ∷ es) ((e.0, v) ∷ es) (e ∷ insert_entry nat_cmp es n v))) above.order
          ∙ ap (λ t. if t then insert_entry nat_cmp es n v else e ∷ remove_entry (is_at (nat_cmp n)) (insert_entry nat_cmp es n v)) (at_apart n e.0 apart)
          ∙ ap (λ gs. e ∷ gs) (remove_insert es n v (sym (under_later e es n apart) ∙ none))
    ]
  ]

module _ {X : Type 0} where
  -- what is seen of each, as one is written, comes or goes
  pub seen_written : {Y : Type 0} (g : X → Y) (es : List (ℕ × X)) (n : ℕ) (w : X) →
      map {B = ℕ × Y} (λ e. (e.0, g e.1)) (set_value (is_at (nat_cmp n)) es w) ≡ set_value (is_at (nat_cmp n)) (map (λ e. (e.0, g e.1)) es) (g w)
  seen_written g [] n w = refl
  seen_written {Y} g (e ∷ es) n w = elim (cases_Bool (is_at (nat_cmp n) e.0)) [
    | inl so ↦ ap (λ t. map {B = ℕ × Y} (λ d. (d.0, g d.1)) (if t then (e.0, w) ∷ es else e ∷ set_value (is_at (nat_cmp n)) es w)) so
        ∙ sym (ap (λ t. if t then (e.0, g w) ∷ map {B = ℕ × Y} (λ d. (d.0, g d.1)) es else (e.0, g e.1) ∷ set_value (is_at (nat_cmp n)) (map {B = ℕ × Y} (λ d. (d.0, g d.1)) es) (g w)) so)
    | inr not_so ↦ ap (λ t. map {B = ℕ × Y} (λ d. (d.0, g d.1)) (if t then (e.0, w) ∷ es else e ∷ set_value (is_at (nat_cmp n)) es w)) not_so
        ∙ ap (λ ys. (e.0, g e.1) ∷ ys) (seen_written g es n w)
        ∙ sym (ap (λ t. if t then (e.0, g w) ∷ map {B = ℕ × Y} (λ d. (d.0, g d.1)) es else (e.0, g e.1) ∷ set_value (is_at (nat_cmp n)) (map {B = ℕ × Y} (λ d. (d.0, g d.1)) es) (g w)) not_so)
  ]

  pub seen_changes : {Y : Type 0} (g : X → Y) (es : List (ℕ × X)) (n : ℕ) (f : X → X) (h : Y → Y) → ((x : X) → g (f x) ≡ h (g x)) →
      map {B = ℕ × Y} (λ e. (e.0, g e.1)) (changed n f es) ≡ changed n h (map (λ e. (e.0, g e.1)) es)
  seen_changes {Y} g es n f h same = by_found (under n es) refl
    where
      seen : under n (map {B = ℕ × Y} (λ e. (e.0, g e.1)) es) ≡ option_map g (under n es)
      seen = lookup-map_values g (is_at (nat_cmp n)) es

      by_found : (o : Option X) → under n es ≡ o → map {B = ℕ × Y} (λ e. (e.0, g e.1)) (changed n f es) ≡ changed n h (map (λ e. (e.0, g e.1)) es)
      by_found None none = ap (λ (gs : List (ℕ × X)). map {B = ℕ × Y} (λ e. (e.0, g e.1)) gs) (changed_none es n f none)
          ∙ sym (changed_none (map {B = ℕ × Y} (λ e. (e.0, g e.1)) es) n h (seen ∙ ap (option_map g) none))
      by_found (Some v) is = ap (λ (gs : List (ℕ × X)). map {B = ℕ × Y} (λ e. (e.0, g e.1)) gs) (changed_some es n f v is) ∙ seen_written g es n (f v)
          ∙ ap (set_value (is_at (nat_cmp n)) (map {B = ℕ × Y} (λ e. (e.0, g e.1)) es)) (same v)
          ∙ sym (changed_some (map {B = ℕ × Y} (λ e. (e.0, g e.1)) es) n h (g v) (seen ∙ ap (option_map g) is))

  pub seen_inserted : {Y : Type 0} (g : X → Y) (es : List (ℕ × X)) (n : ℕ) (v : X) →
      map {B = ℕ × Y} (λ e. (e.0, g e.1)) (insert_entry nat_cmp es n v) ≡ insert_entry nat_cmp (map (λ e. (e.0, g e.1)) es) n (g v)
  seen_inserted g [] n v = refl
  seen_inserted {Y} g (e ∷ es) n v = by_order (nat_cmp n e.0) (seen_inserted g es n v)
    where
      by_order : (o : Ordering) → map {B = ℕ × Y} (λ d. (d.0, g d.1)) (insert_entry nat_cmp es n v) ≡ insert_entry nat_cmp (map (λ d. (d.0, g d.1)) es) n (g v) →
          map {B = ℕ × Y} (λ d. (d.0, g d.1)) (match_ordering o ((n, v) ∷ e ∷ es) ((e.0, v) ∷ es) (e ∷ insert_entry nat_cmp es n v))
          ≡ match_ordering o ((n, g v) ∷ (e.0, g e.1) ∷ map (λ d. (d.0, g d.1)) es) ((e.0, g v) ∷ map (λ d. (d.0, g d.1)) es) ((e.0, g e.1) ∷ insert_entry nat_cmp (map (λ d. (d.0, g d.1)) es) n (g v))
      by_order Less rest = refl
      by_order Equal rest = refl
      by_order Greater rest = ap (λ ys. (e.0, g e.1) ∷ ys) rest

  pub seen_removed : {Y : Type 0} (g : X → Y) (es : List (ℕ × X)) (n : ℕ) →
      map {B = ℕ × Y} (λ e. (e.0, g e.1)) (remove_entry (is_at (nat_cmp n)) es) ≡ remove_entry (is_at (nat_cmp n)) (map (λ e. (e.0, g e.1)) es)
  seen_removed g [] n = refl
  seen_removed {Y} g (e ∷ es) n = by_test (is_at (nat_cmp n) e.0) (seen_removed g es n)
    where
      by_test : (b : Bool) → map {B = ℕ × Y} (λ d. (d.0, g d.1)) (remove_entry (is_at (nat_cmp n)) es) ≡ remove_entry (is_at (nat_cmp n)) (map (λ d. (d.0, g d.1)) es) →
          map {B = ℕ × Y} (λ d. (d.0, g d.1)) (if b then es else e ∷ remove_entry (is_at (nat_cmp n)) es)
          ≡ (if b then map (λ d. (d.0, g d.1)) es else (e.0, g e.1) ∷ remove_entry (is_at (nat_cmp n)) (map (λ d. (d.0, g d.1)) es))
      by_test true rest = refl
      by_test false rest = ap (λ ys. (e.0, g e.1) ∷ ys) rest

  pub length_remove : (es : List (ℕ × X)) (n : ℕ) → length (remove_entry (is_at (nat_cmp n)) es) ≤ length es
  length_remove [] n = omega arith
  length_remove (e ∷ es) n = by_test (is_at (nat_cmp n) e.0) (length_remove es n)
    where
      by_test : (b : Bool) → length (remove_entry (is_at (nat_cmp n)) es) ≤ length es → length (if b then es else e ∷ remove_entry (is_at (nat_cmp n)) es) ≤ length (e ∷ es)
      by_test true le = omega arith
      by_test false le = omega (arith, le)
