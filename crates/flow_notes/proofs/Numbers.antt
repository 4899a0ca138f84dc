-- What a word says of a number.
use Rattle.std.proofs.Common.{◌≡◌, ◌≢◌, ◌<◌, ◌≤◌, ◌^◌, ◌&&◌, ℕ, List, length, get_or, Option, Some, None, Bool, true, false, cond, leb, refl, ap, sym, subst, ◌∙◌, arith, Result, Ok, Err, IfSome, IfNone, inl, inr}
use Rattle.std.proofs.lemmas.Bool.{cases_eq, leb-true, le-leb, false_from_ne_true}
use Rattle.std.specs.Fmt.{decimal}
use Rattle.std.specs.Result.{result_ok}
use Rattle.std.specs.Str.{bytes_eq, IsAscii, IsUtf8}
use Rattle.std.specs.Str.Parse.{AllDigits, digits_value, ParsesUnsigned}
use Rattle.std.proofs.lemmas.Fmt.{decimal_is_IsNumeral, decimal_digit, digits_decimal, first_decimal, IsAscii-decimal, decimal-digits_value, decimal_nonempty, parse-decimal}
use Rattle.std.proofs.lemmas.Slice.Eq.{bytes_eq-Decides}
use Rattle.std.proofs.lemmas.Str.{IsUtf8-from_ascii}
use Rattle.std.proofs.lemmas.Str.Parse.{IsNumeralModel, numerals_by_value, tells_digits, not_in_digits, parse_plain}
use Rattle.flow_notes.specs.Meaning.{number_of}

pub own : IsNumeralModel (AllDigits 10) (digits_value 10)
own = numerals_by_value (AllDigits 10) tells_digits

leb-false_from : (a b : ℕ) → b < a → leb a b ≡ false
leb-false_from a b less = false_from_ne_true _ (λ is. absurd (omega (arith, leb-true a b is)))

-- a number's word says the number, if it is in range
pub number_is : (low high n : ℕ) (word : List ℕ) → n < 2 ^ 64 → word ≡ decimal n → number_of low high word ≡ cond (leb low n && leb n high) (Some n) None
unfolding number_of
number_is low high n word fits e =
    let value : digits_value 10 word ≡ n = ap (digits_value 10) e ∙ (decimal_is_IsNumeral n fits).1 in
    let same : bytes_eq (decimal n) word ≡ true = (bytes_eq-Decides _ _).1 (sym e) in
    rw value (rw same refl)

-- a number in range
pub in_range : (low high n : ℕ) (word : List ℕ) → n < 2 ^ 64 → word ≡ decimal n → low ≤ n → n ≤ high → number_of low high word ≡ Some n
in_range low high n word fits e above below = number_is low high n word fits e ∙ rw (le-leb low n above) (rw (le-leb n high below) refl)

-- a number below the range, or above it
pub too_low : (low high n : ℕ) (word : List ℕ) → n < 2 ^ 64 → word ≡ decimal n → n < low → number_of low high word ≡ None
too_low low high n word fits e less = number_is low high n word fits e ∙ rw (leb-false_from low n less) refl

pub too_high : (low high n : ℕ) (word : List ℕ) → n < 2 ^ 64 → word ≡ decimal n → low ≤ n → high < n → number_of low high word ≡ None
too_high low high n word fits e above more = number_is low high n word fits e ∙ rw (le-leb low n above) (rw (leb-false_from n high more) refl)

refused : (a b c : Bool) (n : ℕ) → (a ≡ true → c ≡ true → ⊥) → cond (a && (b && c)) (Some n) None ≡ None
refused true true true n never = absurd (never refl refl)
refused true true false n never = refl
refused true false c n never = refl
refused false b c n never = refl

-- a word that is no number's says none
pub number_isnt : (low high : ℕ) (word : List ℕ) → high < 2 ^ 64 → ((n : ℕ) → n < 2 ^ 64 → word ≡ decimal n → ⊥) → number_of low high word ≡ None
unfolding number_of
number_isnt low high word fits never =
    let v = digits_value 10 word in
    refused (bytes_eq (decimal v) word) (leb low v) (leb v high) v (λ same below.
    let le : v ≤ high = leb-true _ _ below in
    never v (omega arith) (sym ((bytes_eq-Decides _ _).0 same)))

-- numbers have no sign in front
pub no_sign : (n : ℕ) (word : List ℕ) → n < 2 ^ 64 → word ≡ decimal n → get_or word 0 0 ≢ 43
no_sign n word fits e is =
    let some = decimal_nonempty n fits in
    not_in_digits own (decimal n) 43 (digits_decimal own n fits) (λ within. omega arith) 0 some (sym (ap (λ (bs : List ℕ). get_or bs 0 0) e) ∙ is)

-- and no zeros before other digits
pub no_zeros : (n : ℕ) (word : List ℕ) → n < 2 ^ 64 → word ≡ decimal n → get_or word 0 0 ≡ 48 → length word ≤ 1
no_zeros n word fits e zero =
    let first : get_or (decimal n) 0 0 ≡ 48 = sym (ap (λ (bs : List ℕ). get_or bs 0 0) e) ∙ zero in
    elim (cases_eq n 0) [
      | inl none ↦ omega (arith, ap (length {A = ℕ}) (e ∙ ap decimal none ∙ decimal_digit 0 (omega arith)))
      | inr some ↦ absurd (omega (arith, first_decimal n (omega arith) fits))
    ]

-- a number's word is text
pub is_text : (n : ℕ) (word : List ℕ) → n < 2 ^ 64 → word ≡ decimal n → IsUtf8 word
is_text n word fits e = IsUtf8-from_ascii word (subst IsAscii (sym e) (IsAscii-decimal n fits))

-- a number's word isn't empty
pub not_empty : (n : ℕ) (word : List ℕ) → n < 2 ^ 64 → word ≡ decimal n → length word ≡ 0 → ⊥
not_empty n word fits e none = omega (arith, decimal_nonempty n fits, ap (length {A = ℕ}) e)

-- nothing stands in front that no number has
pub record IsBare (word : List ℕ) : Type 0 where
  pub some : 0 < length word
  pub plus : get_or word 0 0 ≢ 43
  pub zeros : get_or word 0 0 ≡ 48 → length word ≤ 1

-- what is parsed is spelled so
pub parsed : {E : Type 0} (word : List ℕ) (o : Option ℕ) (r : Result ℕ E) → IsBare word → ParsesUnsigned 64 10 word r → o ≡ result_ok r → IfSome o (λ n. word ≡ decimal n)
parsed {E = E} word o (Ok n) bare reads e =
    let got = parse_plain own {E = E} 64 word (Ok n) reads bare.plus in
    subst (λ (x : Option ℕ). IfSome x (λ m. word ≡ decimal m)) (sym e)
    (sym (ap decimal got.1 ∙ decimal-digits_value own word got.0.0 bare.some (λ zero. omega (arith, bare.zeros zero)) got.0.2))
parsed word o (Err x) bare reads e = subst (λ (x : Option ℕ). IfSome x (λ m. word ≡ decimal m)) (sym e) tt

-- what isn't parsed is no number's word
pub unparsed : {E : Type 0} (word : List ℕ) (o : Option ℕ) (r : Result ℕ E) → ParsesUnsigned 64 10 word r → o ≡ result_ok r → IfNone o ((n : ℕ) → n < 2 ^ 64 → word ≡ decimal n → ⊥)
unparsed word o (Ok n) reads e = subst (λ (x : Option ℕ). IfNone x ((m : ℕ) → m < 2 ^ 64 → word ≡ decimal m → ⊥)) (sym e) tt
unparsed word o (Err x) reads e = subst (λ (y : Option ℕ). IfNone y ((m : ℕ) → m < 2 ^ 64 → word ≡ decimal m → ⊥)) (sym e)
    (λ n fits is. let got = parse-decimal 64 n word (Err x) fits fits is reads in absurd cc)
