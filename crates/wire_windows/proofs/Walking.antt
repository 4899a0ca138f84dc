-- Values that are gone through by rising numbers.
use Rattle.number_set.proofs.Tests.{same_is}
use Rattle.paged_map.specs.PagedMap.{PagedMap, value_at}
use Rattle.std.proofs.Common.{ap, arith, inl, inr, refl, subst, sym, ◌∙◌, ◌⊎◌}
use Rattle.std.proofs.lemmas.Bool.{cases_Bool, false≢true}
use Rattle.std.proofs.lemmas.Bool.Decides.{nat_tests}
use Rattle.std.specs.Option.{option_map_or}
use Rattle.std.specs.Prelude.{Bool, IfSome, IsSomeAnd, None, Option, Some, false, if◌then◌else◌, is_some, nat_eq, nat_le, option_map, true, ℕ, ◌<◌, ◌≡◌, ◌≤◌}

upto : (m n : ℕ) → nat_le m n ≡ true → m ≤ n
upto m n h = grind (arith, nat_tests)

beyond : (m n : ℕ) → nat_le m n ≡ false → n < m
beyond m n h = grind (arith, nat_tests)

is_upto : (m n : ℕ) → m ≤ n → nat_le m n ≡ true
is_upto m n h = grind (arith, nat_tests)

is_beyond : (m n : ℕ) → n < m → nat_le m n ≡ false
is_beyond m n h = grind (arith, nat_tests)

apart : (m n : ℕ) → m < n → nat_eq m n ≡ false
apart m n h = grind (arith, nat_tests)

apart_above : (m n : ℕ) → n < m → nat_eq m n ≡ false
apart_above m n h = grind (arith, nat_tests)

less : (m n : ℕ) → m ≤ n → nat_eq m n ≡ false → m < n
less m n h e = grind (arith, nat_tests)

-- the least number above another that has a value is this one
abbrev pub IsNext : {X : Type 0} → ℕ → Option ℕ → PagedMap X → Type 0
IsNext after next m = (n : ℕ) → after < n → is_some (value_at n m) ≡ true → IsSomeAnd next (λ x. x ≤ n)

module _ {X : Type 0} where
  none_is : (o : Option X) → is_some o ≡ false → o ≡ None
  none_is None e = refl
  none_is (Some v) e = absurd (false≢true (sym e))

  -- between a number and the next one there is nothing
  between : (m : PagedMap X) (after x n : ℕ) → IsNext after (Some x) m → after < n → n < x → value_at n m ≡ None
  between m after x n next more before = elim (cases_Bool (is_some (value_at n m))) [
    | inl some ↦ absurd (omega (arith, before, next n more some))
    | inr none ↦ none_is (value_at n m) none
  ]

  behind : (m : PagedMap X) (after n : ℕ) → IsNext after None m → after < n → value_at n m ≡ None
  behind m after n next more = elim (cases_Bool (is_some (value_at n m))) [
    | inl some ↦ absurd (next n more some)
    | inr none ↦ none_is (value_at n m) none
  ]

  -- ---- all that were looked at pass
  module _ (p : X → Bool) where
    abbrev pub Passes : ℕ → PagedMap X → Type 0
    Passes n m = option_map_or p (value_at n m) true ≡ true

    abbrev pub Pass : ℕ → PagedMap X → Type 0
    Pass after m = (n : ℕ) → n ≤ after → Passes n m

    passes_none : (m : PagedMap X) (n : ℕ) → value_at n m ≡ None → Passes n m
    passes_none m n none = ap (λ (o : Option X). option_map_or p o true) none

    pub pass_first : (m : PagedMap X) → Passes 0 m → Pass 0 m
    pass_first m first n le = subst (λ k. Passes k m) (omega (arith, le)) first

    pub pass_next : (m : PagedMap X) (after x : ℕ) → Pass after m → IsNext after (Some x) m → Passes x m → Pass x m
    pass_next m after x before next at n le = elim (cases_Bool (nat_le n after)) [
      | inl early ↦ before n (upto n after early)
      | inr late ↦ elim (cases_Bool (nat_eq n x)) [
        | inl same ↦ subst (λ k. Passes k m) (sym (same_is n x same)) at
        | inr other ↦ passes_none m n (between m after x n next (beyond n after late) (less n x le other))
      ]
    ]

    pub pass_all : (m : PagedMap X) (after : ℕ) → Pass after m → IsNext after None m → (n : ℕ) → Passes n m
    pass_all m after before next n = elim (cases_Bool (nat_le n after)) [
      | inl early ↦ before n (upto n after early)
      | inr late ↦ passes_none m n (behind m after n next (beyond n after late))
    ]

    pub if_some : (o : Option X) → option_map_or p o true ≡ true → IfSome o (λ v. p v ≡ true)
    if_some None is = tt
    if_some (Some v) is = is

    -- one that doesn't pass is there
    pub refused : (o : Option X) → option_map_or p o true ≡ false → (v : X) × (o ≡ Some v) × (p v ≡ false)
    refused None is = absurd (false≢true (sym is))
    refused (Some v) is = (v, refl, is)

  -- ---- all that were looked at are changed
  module _ (f : X → X) where
    -- those up to a number are changed, and those above it aren't
    abbrev pub Changed : ℕ → PagedMap X → PagedMap X → Type 0
    Changed after old new = (n : ℕ) → value_at n new ≡ (if nat_le n after then option_map f (value_at n old) else value_at n old)

    -- one is changed
    abbrev pub ChangedAt : ℕ → PagedMap X → PagedMap X → Type 0
    ChangedAt x old new = (n : ℕ) → value_at n new ≡ (if nat_eq n x then option_map f (value_at n old) else value_at n old)

    early_is : (old new : PagedMap X) (after n : ℕ) → Changed after old new → n ≤ after → value_at n new ≡ option_map f (value_at n old)
    early_is old new after n changed le = changed n ∙ ap (λ b. if b then option_map f (value_at n old) else value_at n old) (is_upto n after le)

    late_is : (old new : PagedMap X) (after n : ℕ) → Changed after old new → after < n → value_at n new ≡ value_at n old
    late_is old new after n changed more = changed n ∙ ap (λ b. if b then option_map f (value_at n old) else value_at n old) (is_beyond n after more)

    same_at : (old new : PagedMap X) (x n : ℕ) → ChangedAt x old new → nat_eq n x ≡ false → value_at n new ≡ value_at n old
    same_at old new x n changed e = changed n ∙ ap (λ b. if b then option_map f (value_at n old) else value_at n old) e

    this_at : (old new : PagedMap X) (x n : ℕ) → ChangedAt x old new → nat_eq n x ≡ true → value_at n new ≡ option_map f (value_at n old)
    this_at old new x n changed e = changed n ∙ ap (λ b. if b then option_map f (value_at n old) else value_at n old) e

    pub changed_first : (old new : PagedMap X) → ChangedAt 0 old new → Changed 0 old new
    changed_first old new changed n = changed n ∙ ap (λ b. if b then option_map f (value_at n old) else value_at n old) (first n)
      where
        first : (n : ℕ) → nat_eq n 0 ≡ nat_le n 0
        first n = grind (arith, nat_tests)

    pub changed_next : (old mid new : PagedMap X) (after x : ℕ) → Changed after old mid → after < x → IsNext after (Some x) mid → ChangedAt x mid new → Changed x old new
    changed_next old mid new after x before more next changed n = elim (cases_Bool (nat_le n x)) [
      | inl upto_x ↦ at upto_x ∙ sym (ap (λ b. if b then option_map f (value_at n old) else value_at n old) upto_x)
      | inr late ↦ same_at mid new x n changed (apart_above n x (beyond n x late)) ∙ late_is old mid after n before (omega (arith, more, beyond n x late))
          ∙ sym (ap (λ b. if b then option_map f (value_at n old) else value_at n old) late)
    ]
      where
        before_it : n < x → value_at n mid ≡ option_map f (value_at n old)
        before_it below = elim (cases_Bool (nat_le n after)) [
          | inl early ↦ early_is old mid after n before (upto n after early)
          | inr late ↦
              let gone : value_at n mid ≡ None = between mid after x n next (beyond n after late) below in
              let none : value_at n old ≡ None = sym (late_is old mid after n before (beyond n after late)) ∙ gone in
              gone ∙ sym (ap (option_map f) none)
        ]

        at : nat_le n x ≡ true → value_at n new ≡ option_map f (value_at n old)
        at upto_x = elim (cases_Bool (nat_eq n x)) [
          | inl same ↦ this_at mid new x n changed same ∙ ap (option_map f) (late_is old mid after n before (omega (arith, more, same_is n x same)))
          | inr other ↦ same_at mid new x n changed other ∙ before_it (less n x (upto n x upto_x) other)
        ]

    pub changed_all : (old new : PagedMap X) (after : ℕ) → Changed after old new → IsNext after None new → (n : ℕ) → value_at n new ≡ option_map f (value_at n old)
    changed_all old new after before next n = elim (cases_Bool (nat_le n after)) [
      | inl early ↦ early_is old new after n before (upto n after early)
      | inr late ↦
          let gone : value_at n new ≡ None = behind new after n next (beyond n after late) in
          let none : value_at n old ≡ None = sym (late_is old new after n before (beyond n after late)) ∙ gone in
          gone ∙ sym (ap (option_map f) none)
    ]
