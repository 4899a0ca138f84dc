-- The least key of a table is the first, since its keys ascend.
use Rattle.std.proofs.Common.{◌≡◌, ◌∙◌, Bool, false, cond, List, [], ◌∷◌, map, ap, refl, Some, String, Global, string_bytes, Less, Greater, nat_cmp, filter, find, option_map, ℕ}
use Rattle.std.proofs.lemmas.Bool.{cases_Bool}
use Rattle.std.proofs.Common.{inl, inr}
use Rattle.std.proofs.lemmas.Cmp.{nat_list_cmp_total}
use Rattle.std.specs.Cmp.Lexicographic.{slice_cmp}
use Rattle.std.specs.List.{AllByRecursion, best_of}
use Rattle.std.specs.List.Sorted.{IsStrictlySortedBy}
use Rattle.std.specs.Map.{keys_of as map_keys}
use Rattle.std.specs.Ordering.{is_lt, ordering_reverse}
use Rattle.std.specs.String.{string_cmp}
use Rattle.toml.specs.View.{members_view}
use Rattle.toml.proofs.Views.{Entry}
use Rattle.config_tables.specs.Keys.{least}
use Rattle.config_tables.specs.Values.{keys_of}

pub keys_of-view : (es : List Entry) → keys_of (members_view es) ≡ map string_bytes (map_keys es)
keys_of-view [] = refl
keys_of-view (e ∷ es) = ap (λ ks. string_bytes e.0 ∷ ks) (keys_of-view es)

abbrev Key : Type 0
Key = String Global

abbrev beats : List ℕ → List ℕ → Bool
beats a b = is_lt (slice_cmp nat_cmp a b)

-- one that isn't below the best so far changes nothing
no_better : (best l : List ℕ) (ls : List (List ℕ)) → beats l best ≡ false → best_of beats best (l ∷ ls) ≡ best_of beats best ls
no_better best l ls h = ap (λ b. best_of beats (cond b l best) ls) h

-- a key below others stays the best of them
stays_best : (p : List ℕ → Bool) (k : Key) (ks : List Key) → AllByRecursion (λ l. string_cmp k l ≡ Less) ks
    → best_of beats (string_bytes k) (filter p (map string_bytes ks)) ≡ string_bytes k
stays_best p k [] h = refl
stays_best p k (l ∷ ks) h =
    let above : slice_cmp nat_cmp (string_bytes l) (string_bytes k) ≡ Greater =
    nat_list_cmp_total.antisymm (string_bytes l) (string_bytes k) ∙ ap ordering_reverse h.0 in
    elim (cases_Bool (p (string_bytes l))) [
      | inl passes ↦ rw passes (no_better (string_bytes k) (string_bytes l) (filter p (map string_bytes ks)) (ap is_lt above) ∙ stays_best p k ks h.1)
      | inr fails ↦ rw fails (stays_best p k ks h.1)
    ]

-- the least of ascending keys that pass is the first of them
pub least_found : (p : List ℕ → Bool) (ks : List Key) → IsStrictlySortedBy string_cmp ks → least (filter p (map string_bytes ks)) ≡ option_map string_bytes (find (λ k. p (string_bytes k)) ks)
unfolding IsStrictlySortedBy
least_found p [] sorted = refl
least_found p (k ∷ ks) sorted =
    elim (cases_Bool (p (string_bytes k))) [
      | inl passes ↦ rw passes (ap Some (stays_best p k ks sorted.0))
      | inr fails ↦ rw fails (least_found p ks sorted.1)
    ]
