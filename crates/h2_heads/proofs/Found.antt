-- What is found in a list by a test, and at which place.
use Rattle.std.proofs.Common.{Bool, List, [], ◌∷◌, ℕ, ◌+◌, ◌<◌, ◌≡◌, ◌≤◌, ◌++◌, ◌∙◌, ◌^◌, None, Option, Some, ⊎_elim, ap, arith, cond, false, get_or, length, nat_lt, not, refl, rules, subst, suc, sym, true, zero}
use Rattle.std.proofs.lemmas.Bool.{cases_lt}
use Rattle.std.proofs.lemmas.List.{length-append}
use Rattle.std.proofs.lemmas.List.Folds.{find_at, position_or_len_push}
use Rattle.std.proofs.lemmas.Bool.Decides.{nat_tests}
use Rattle.std.proofs.lemmas.Option.{slice_get_cases}
use Rattle.std.specs.List.{find, position_or_len, slice_get}
use Rattle.std.specs.Option.{IfSome, IsSomeAnd, is_some, option_map, option_or}
use Rattle.std.specs.Prelude.{◌==◌}
use Rattle.hpack_codec.specs.declared.fields.Field.{Field}
use Rattle.h2_heads.specs.Named.{StandsAt, has_field, is_named, place_of, value_of}

-- what is found passes the test
pub find_passes : {X : Type 0} (p : X → Bool) (xs : List X) (x : X) → find p xs ≡ Some x → p x ≡ true
find_passes p [] x e = cc
find_passes {X} p (y ∷ ys) x e =
    let step : (b : Bool) → p y ≡ b → cond b (Some y) (find p ys) ≡ Some x → p x ≡ true =
    λ b. elim b as (λ v. p y ≡ v → cond v (Some y) (find p ys) ≡ Some x → p x ≡ true) [
      | true ↦ λ passes found. let same : y ≡ x = cc in ap p (sym same) ∙ passes
      | false ↦ λ fails found. find_passes p ys x found
    ] in
    step (p y) refl e

-- where nothing is found, no element passes
pub find_none : {X : Type 0} (p : X → Bool) (xs : List X) (i : ℕ) (d : X) → find p xs ≡ None → i < length xs → p (get_or xs i d) ≡ false
find_none p [] i d e h = absurd (omega arith)
find_none {X} p (y ∷ ys) zero d e h =
    let step : (b : Bool) → p y ≡ b → cond b (Some y) (find p ys) ≡ None → p y ≡ false =
    λ b. elim b as (λ v. p y ≡ v → cond v (Some y) (find p ys) ≡ None → p y ≡ false)
    [ true ↦ λ passes found. cc | false ↦ λ fails found. fails ] in
    step (p y) refl e
find_none {X} p (y ∷ ys) (suc i) d e h =
    let step : (b : Bool) → cond b (Some y) (find p ys) ≡ None → p (get_or ys i d) ≡ false =
    λ b. elim b as (λ v. cond v (Some y) (find p ys) ≡ None → p (get_or ys i d) ≡ false)
    [ true ↦ λ found. cc | false ↦ λ found. find_none p ys i d found (omega arith) ] in
    step (p y) e

within_some : {X : Type 0} (xs : List X) (k : ℕ) → nat_lt k (length xs) ≡ is_some (slice_get xs k)
within_some xs k = grind (arith, nat_tests, slice_get_cases xs k)

-- the first field with a name, at its place
stands_from : (name : List ℕ) (fields : List Field) (k : ℕ) (o : Option Field) (b : Bool) → value_of name fields ≡ option_map (λ (f : Field). f.value) o → slice_get fields k ≡ o → b ≡ is_some o → StandsAt name fields (cond b (Some k) None)
stands_from name fields k (Some f) true value at known = rw at value
stands_from name fields k None false value at known = value
stands_from name fields k (Some f) false value at known = cc
stands_from name fields k None true value at known = cc

pub stands_at : (name : List ℕ) (fields : List Field) → StandsAt name fields (place_of name fields)
stands_at name fields =
    let k = position_or_len (is_named name) fields in
    stands_from name fields k (slice_get fields k) (nat_lt k (length fields)) (ap (option_map (λ (f : Field). f.value)) (find_at (is_named name) fields)) refl (within_some fields k)

some_stands : (name : List ℕ) (fields : List Field) (o : Option Field) → IsSomeAnd o (λ field. value_of name fields ≡ Some field.value) → true ≡ has_field name fields
some_stands name fields (Some f) at = sym (ap is_some at)
some_stands name fields None at = absurd at

stands_some : (name : List ℕ) (fields : List Field) (place : Option ℕ) → StandsAt name fields place → is_some place ≡ has_field name fields
stands_some name fields (Some k) stands = some_stands name fields (slice_get fields k) stands
stands_some name fields None stands = sym (ap is_some stands)

-- a name has a place where a field has it
pub is_some_place : (name : List ℕ) (fields : List Field) → is_some (place_of name fields) ≡ has_field name fields
is_some_place name fields = stands_some name fields (place_of name fields) (stands_at name fields)

within_step : (b : Bool) (k n : ℕ) → k ≤ n → cond (not b) (1 + k) 0 ≤ suc n
within_step true k n h = omega arith
within_step false k n h = omega (arith, h)

position_within : (test : Field → Bool) (fields : List Field) → position_or_len test fields ≤ length fields
position_within test [] = omega arith
position_within test (f ∷ fs) = within_step (test f) (position_or_len test fs) (length fs) (position_within test fs)

pushed : (k n at_end more : ℕ) (named : Bool) → k ≤ n → at_end ≡ cond (k == n) (n + cond named 0 1) k → more ≡ n + 1 → cond (nat_lt at_end more) (Some at_end) None ≡ option_or (cond (nat_lt k n) (Some k) None) (cond named (Some n) None)
pushed k n at_end more true within at size =
    ⊎_elim (λ below.
    let other : (k == n) ≡ false = grind (arith, nat_tests) in
    let same : at_end ≡ k = at ∙ ap (λ b. cond b (n + 0) k) other in
    let inside : nat_lt at_end more ≡ true = grind (arith, nat_tests) in
    let before : nat_lt k n ≡ true = grind (arith, nat_tests) in
    ap (λ b. cond b (Some at_end) None) inside ∙ ap Some same ∙ sym (ap (λ b. option_or (cond b (Some k) None) (Some n)) before)
    ) (λ past.
    let last : (k == n) ≡ true = grind (arith, nat_tests) in
    let same : at_end ≡ n = omega (arith, at ∙ ap (λ b. cond b (n + 0) k) last) in
    let inside : nat_lt at_end more ≡ true = grind (arith, nat_tests) in
    let before : nat_lt k n ≡ false = grind (arith, nat_tests) in
    ap (λ b. cond b (Some at_end) None) inside ∙ ap Some same ∙ sym (ap (λ b. option_or (cond b (Some k) None) (Some n)) before)
    ) (cases_lt k n)
pushed k n at_end more false within at size =
    ⊎_elim (λ below.
    let other : (k == n) ≡ false = grind (arith, nat_tests) in
    let same : at_end ≡ k = at ∙ ap (λ b. cond b (n + 1) k) other in
    let inside : nat_lt at_end more ≡ true = grind (arith, nat_tests) in
    let before : nat_lt k n ≡ true = grind (arith, nat_tests) in
    ap (λ b. cond b (Some at_end) None) inside ∙ ap Some same ∙ sym (ap (λ b. option_or (cond b (Some k) None) None) before)
    ) (λ past.
    let last : (k == n) ≡ true = grind (arith, nat_tests) in
    let same : at_end ≡ n + 1 = at ∙ ap (λ b. cond b (n + 1) k) last in
    let outside : nat_lt at_end more ≡ false = grind (arith, nat_tests) in
    let before : nat_lt k n ≡ false = grind (arith, nat_tests) in
    ap (λ b. cond b (Some at_end) None) outside ∙ sym (ap (λ b. option_or (cond b (Some k) None) None) before)
    ) (cases_lt k n)

-- the place of a name with one field more
pub place_of-push : (name : List ℕ) (fields : List Field) (field : Field) → place_of name (fields ++ field ∷ []) ≡ option_or (place_of name fields) (cond (is_named name field) (Some (length fields)) None)
place_of-push name fields field =
    pushed (position_or_len (is_named name) fields) (length fields) (position_or_len (is_named name) (fields ++ field ∷ [])) (length (fields ++ field ∷ [])) (is_named name field)
    (position_within (is_named name) fields) (position_or_len_push (is_named name) fields field) (length-append fields (field ∷ []))

-- a place is one of the list's
place_within : (name : List ℕ) (fields : List Field) → IfSome (place_of name fields) (λ place. place < length fields)
place_within name fields =
    let k = position_or_len (is_named name) fields in
    let step : (b : Bool) → nat_lt k (length fields) ≡ b → IfSome (cond b (Some k) None) (λ place. place < length fields) =
    λ b. elim b as (λ v. nat_lt k (length fields) ≡ v → IfSome (cond v (Some k) None) (λ place. place < length fields))
    [ true ↦ λ below. grind (arith, nat_tests) | false ↦ λ past. search rules ] in
    step (nat_lt k (length fields)) refl

pub stands_there : (name : List ℕ) (fields : List Field) (place : Option ℕ) → place ≡ place_of name fields → StandsAt name fields place
stands_there name fields place at = subst (λ (o : Option ℕ). StandsAt name fields o) (sym at) (stands_at name fields)

short_place : (o : Option ℕ) (n most : ℕ) → n < most → IfSome o (λ place. place < n) → IfSome o (λ place. place < most)
short_place (Some k) n most less within = omega (arith, within)
short_place None n most less within = within

pub within_short : (name : List ℕ) (fields : List Field) (place : Option ℕ) → place ≡ place_of name fields → length fields < 2 ^ 32 → IfSome place (λ at. at < 2 ^ 32)
within_short name fields place at small =
    subst (λ (o : Option ℕ). IfSome o (λ k. k < 2 ^ 32)) (sym at) (short_place (place_of name fields) (length fields) (2 ^ 32) small (place_within name fields))
