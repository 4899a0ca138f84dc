-- A name is found at its place.
use Rattle.std.proofs.Common.{◌≡◌, ◌≢◌, ◌⊎◌, ◌-◌, ◌<◌, ◌≤◌, ◌^◌, ◌++◌, ◌∷◌, ℕ, List, [], Bool, true, false, cond, ltb, length, get_or, Some, None, arith, ap, sym, ◌∙◌, inl, inr, refl}
use Rattle.std.specs.List.{position_or_len}
use Rattle.std.specs.Str.{bytes_eq}
use Rattle.std.proofs.lemmas.Bool.{cases_lt, lt-ltb, ltb-false, false_from_ne_true}
use Rattle.std.proofs.lemmas.List.{get_or_append_left, get_or-append_right, length-append}
use Rattle.std.proofs.lemmas.List.Elements.{All-push}
use Rattle.std.proofs.lemmas.List.Quantifiers.{position-Some}
use Rattle.std.proofs.lemmas.List.Sums.{fails_before_first, position_or_len_is}
use Rattle.std.proofs.lemmas.Slice.Eq.{bytes_eq-Decides}
use Rattle.flow_notes.specs.Name.{AreNames, IsName, cluster_name, place_of}

is_at : List ℕ → List ℕ → Bool
is_at name known = bytes_eq known name

same : (xs ys : List ℕ) → bytes_eq xs ys ≡ true → xs ≡ ys
same xs ys e = (bytes_eq-Decides xs ys).0 e

differs : (xs ys : List ℕ) → xs ≢ ys → bytes_eq xs ys ≡ false
differs xs ys ne = false_from_ne_true (bytes_eq xs ys) (λ e. ne (same xs ys e))

is_none : {A : Type 0} (b : Bool) (x : A) → cond b (Some x) None ≡ None → b ≡ false
is_none true x e = absurd cc
is_none false x e = refl

-- a name that isn't found stands nowhere
absent : (names : List (List ℕ)) (name : List ℕ) (k : ℕ) (d : List ℕ) → place_of names name ≡ None → k < length names → get_or names k d ≢ name
absent names name k d none lt e =
    let test : List ℕ → Bool = λ known. bytes_eq known name in
    let past : length names ≤ position_or_len test names = ltb-false _ _ (is_none _ _ none) in
    let no : bytes_eq (get_or names k d) name ≡ false = fails_before_first test names k d (omega arith) in
    let yes : bytes_eq (get_or names k d) name ≡ true = (bytes_eq-Decides _ _).1 e in
    cc

-- two places of a longer list with one name
apart : (names : List (List ℕ)) (name : List ℕ) → AreNames names → place_of names name ≡ None → (i j : ℕ) (d : List ℕ) → i < j → (j < length names) ⊎ (length names ≤ j)
    → j < length (names ++ name ∷ []) → get_or (names ++ name ∷ []) i d ≢ get_or (names ++ name ∷ []) j d
apart names name are none i j d lt (inl old) within e =
    are.once i j d lt old (sym (get_or_append_left names (name ∷ []) d i (omega arith)) ∙ e ∙ get_or_append_left names (name ∷ []) d j old)
apart names name are none i j d lt (inr new) within e =
    let len = length-append names (name ∷ []) in
    let last : j - length names ≡ 0 = omega arith in
    absent names name i d none (omega arith) (sym (get_or_append_left names (name ∷ []) d i (omega arith)) ∙ e
    ∙ get_or-append_right names (name ∷ []) (length names) j d refl new ∙ ap (λ k. get_or (name ∷ []) k d) last)

-- one name more
pub AreNames-push : (names : List (List ℕ)) (name : List ℕ) → AreNames names → IsName name → place_of names name ≡ None → length names < 2 ^ 32 - 1 → AreNames (names ++ name ∷ [])
AreNames-push names name are is none room = record {
  few = omega (arith, length-append names (name ∷ []));
  each = All-push IsName names name are.each is;
  once = λ i j d lt within. apart names name are none i j d lt (cases_lt j (length names)) within;
}

-- what is found stands there
pub place_takes : (names : List (List ℕ)) (name : List ℕ) (k : ℕ) → place_of names name ≡ Some k → (k < length names) × (name ≡ cluster_name names k)
place_takes names name k found =
    let is = position-Some (λ known. bytes_eq known name) names k [] found in
    (is.0, sym (same _ _ is.1))

-- each name is found at its place
pub place_again : (names : List (List ℕ)) (k : ℕ) → AreNames names → k < length names → place_of names (cluster_name names k) ≡ Some k
place_again names k are lt =
    let test : List ℕ → Bool = λ known. bytes_eq known (get_or names k []) in
    let first : position_or_len test names ≡ k = position_or_len_is test names k [] (omega arith)
    (λ i below. differs (get_or names i []) (get_or names k []) (are.once i k [] below lt)) (λ _. (bytes_eq-Decides (get_or names k []) (get_or names k [])).1 refl) in
    let found : ltb (position_or_len test names) (length names) ≡ true = lt-ltb _ _ (omega arith) in
    rw found (ap Some first)
