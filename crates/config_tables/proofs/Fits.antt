-- What a key without faults tells of the value there.
use Rattle.std.proofs.Common.{◌≡◌, ℕ, ℤ, ◌⊎◌, pos, negsuc, ◌≤◌, Bool, true, ◌&&◌, nat_le, List, [], ◌∷◌, ◌++◌, length, Option, Some, None, refl, inl, inr}
use Rattle.std.proofs.lemmas.Bool.{and_parts, cases_Bool, leb-true}
use Rattle.std.specs.List.{list_all}
use Rattle.std.specs.Option.{is_some, option_and_then}
use Rattle.toml.specs.Data.{Data, Members, get_member, as_str}
use Rattle.config_tables.specs.Keys.{Kind, texts, tables, judged, verdict, value_fault, found_fault, key_faults}
use Rattle.proxy_config.specs.Ranges.{IsBetween}
use Rattle.config_tables.specs.Tables.{optional, needed}
use Rattle.config_tables.specs.Values.{as_strings, as_list, is_between, list_at, number_or, strings_at, strings_in}
use Rattle.config_tables.specs.declared.judge.Verdict.{Verdict}
use Rattle.config_tables.specs.declared.judge.Verdict.TheVariants.{Fits, OtherKind, Beyond}

-- two parts of a list that has none
pub no_parts : {X : Type 0} (xs ys : List X) → xs ++ ys ≡ [] → (xs ≡ []) × (ys ≡ [])
no_parts [] ys h = (refl, h)
no_parts (x ∷ xs) ys h = absurd (cc)

in_range_parts : (least most n : ℕ) → (nat_le least n && nat_le n most) ≡ true → IsBetween least most n
in_range_parts least most n h = let (low, high) = and_parts _ _ h in (leb-true least n low, leb-true n most high)

-- a number that is read is in its range, where what stands for it is
pub number_between : (least most other : ℕ) (found : Option ℤ) → least ≤ other → other ≤ most → IsBetween least most (number_or least most other found)
number_between least most other None low high = (low, high)
number_between least most other (Some (negsuc n)) low high = (low, high)
number_between least most other (Some (pos n)) low high =
    elim (cases_Bool (nat_le least n && nat_le n most)) [
      | inl inside ↦ rw inside (in_range_parts least most n inside)
      | inr outside ↦ rw outside (low, high)
    ]

-- a number that fits is in its range
pub fits_between : (least most other : ℕ) (found : Option ℤ) → judged found (is_between least most) ≡ Fits → IsBetween least most (number_or least most other found)
fits_between least most other None h = absurd (cc)
fits_between least most other (Some (negsuc n)) h = absurd (cc)
fits_between least most other (Some (pos n)) h =
    elim (cases_Bool (nat_le least n && nat_le n most)) [
      | inl inside ↦ rw inside (in_range_parts least most n inside)
      | inr outside ↦ absurd (let beyond : Beyond ≡ Fits = rw outside at h in cc)
    ]

fits_from_none : (v : Verdict) (spelled : List ℕ) → value_fault v spelled ≡ [] → v ≡ Fits
fits_from_none Fits spelled h = refl
fits_from_none OtherKind spelled h = absurd (cc)
fits_from_none Beyond spelled h = absurd (cc)

found_fits : (name spelled : List ℕ) (kind : Kind) (o : Option Data) → found_fault (needed name kind) spelled o ≡ [] → (d : Data) × (o ≡ Some d) × (verdict kind d ≡ Fits)
found_fits name spelled kind None h = absurd (cc)
found_fits name spelled kind (Some d) h = (d, refl, fits_from_none (verdict kind d) spelled h)

-- a key that must be there is, and its value fits
pub needed_fits : (place : List ℕ) (ms : Members) (name : List ℕ) (kind : Kind) → key_faults place ms (needed name kind) ≡ [] → (d : Data) × (get_member name ms ≡ Some d) × (verdict kind d ≡ Fits)
unfolding key_faults
needed_fits place ms name kind h = found_fits name (place ++ name) kind (get_member name ms) h

-- the value at a key that may be absent fits where it is there
pub optional_fits : (place : List ℕ) (ms : Members) (name : List ℕ) (kind : Kind) (d : Data) → key_faults place ms (optional name kind) ≡ [] → get_member name ms ≡ Some d → verdict kind d ≡ Fits
unfolding key_faults
optional_fits place ms name kind d h there =
    let found : found_fault (optional name kind) (place ++ name) (Some d) ≡ [] = rw there at h in
    fits_from_none (verdict kind d) (place ++ name) found

-- what passed a test
pub judged_some : {T : Type 0} (o : Option T) (test : T → Bool) → judged o test ≡ Fits → (x : T) × (o ≡ Some x) × (test x ≡ true)
judged_some None test h = absurd (cc)
judged_some (Some x) test h =
    elim (cases_Bool (test x)) [
      | inl passes ↦ (x, refl, passes)
      | inr fails ↦ absurd (let beyond : Beyond ≡ Fits = rw fails at h in cc)
    ]

strings_pass_in : (ds : List Data) (test : List (List ℕ) → Bool) → judged (as_strings ds) test ≡ Fits → test (strings_in ds) ≡ true
strings_pass_in ds test h =
    elim (cases_Bool (list_all (λ d. is_some (as_str d)) ds)) [
      | inl all ↦ let seen : judged (Some (strings_in ds)) test ≡ Fits = rw all at h in
          elim (cases_Bool (test (strings_in ds))) [
            | inl passes ↦ passes
            | inr fails ↦ absurd (let beyond : Beyond ≡ Fits = rw fails at seen in cc)
          ]
      | inr other ↦ absurd (let kind : OtherKind ≡ Fits = rw other at h in cc)
    ]

strings_pass_at : (o : Option (List Data)) (test : List (List ℕ) → Bool) → judged (option_and_then as_strings o) test ≡ Fits → (ds : List Data) × (o ≡ Some ds) × (test (strings_in ds) ≡ true)
strings_pass_at None test h = absurd (cc)
strings_pass_at (Some ds) test h = (ds, refl, strings_pass_in ds test h)

cases_Option : {T : Type 0} (o : Option T) → (o ≡ None) ⊎ ((x : T) × (o ≡ Some x))
cases_Option None = inl refl
cases_Option (Some x) = inr (x, refl)

-- the strings at a key pass its test, where no strings do
pub strings_pass : (place : List ℕ) (ms : Members) (name : List ℕ) (test : List (List ℕ) → Bool)
    → key_faults place ms (optional name (texts test)) ≡ [] → test [] ≡ true → test (strings_at name ms) ≡ true
strings_pass place ms name test h none =
    elim (cases_Option (get_member name ms)) [
      | inl absent ↦ rw absent none
      | inr (d, there) ↦
          let (ds, list, passes) = strings_pass_at (as_list d) test (optional_fits place ms name (texts test) d h there) in
          rw (there, list) passes
    ]

-- the rows at a key are as many as it takes, where no rows are
pub rows_pass : (place : List ℕ) (ms : Members) (name : List ℕ) (test : ℕ → Bool)
    → key_faults place ms (optional name (tables test)) ≡ [] → test 0 ≡ true → test (length (list_at name ms)) ≡ true
rows_pass place ms name test h none =
    elim (cases_Option (get_member name ms)) [
      | inl absent ↦ rw absent none
      | inr (d, there) ↦
          let (ds, list, passes) = judged_some (as_list d) (λ ds. test (length ds)) (optional_fits place ms name (tables test) d h there) in
          rw (there, list) passes
    ]
