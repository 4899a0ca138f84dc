-- Words of numbers, one after the other.
use Rattle.std.proofs.Common.{◌≡◌, ℕ, List, [], ◌∷◌, ◌++◌, map, Option, Some, None, refl, ap, sym, subst, ◌∙◌, arith, append_assoc}
use Rattle.std.specs.Fmt.{decimal}
use Rattle.std.specs.List.{AllByRecursion}
use Rattle.std.proofs.lemmas.List.{append-nil, map-append}
use Rattle.flow_notes.specs.Fields.{Fits32}
use Rattle.flow_notes.specs.Meaning.{◌>>=◌, numbers_of, u32_of}
use Rattle.flow_notes.proofs.Numbers.{in_range}

-- numbers in front of others
abbrev pub with_front : List ℕ → Option (List ℕ) → Option (List ℕ)
with_front front others = others >>= λ ns. Some (front ++ ns)

fronts : (xs ys : List ℕ) (o : Option (List ℕ)) → with_front xs (with_front ys o) ≡ with_front (xs ++ ys) o
fronts xs ys None = refl
fronts xs ys (Some zs) = ap Some (sym (append_assoc xs ys zs))

-- one number more
pub number_more : (xs : List ℕ) (word : List ℕ) (n : ℕ) (words : List (List ℕ)) → u32_of word ≡ Some n → with_front xs (numbers_of (word ∷ words)) ≡ with_front (xs ++ n ∷ []) (numbers_of words)
unfolding numbers_of
number_more xs word n words is = rw is (fronts xs (n ∷ []) (numbers_of words))

-- a word that is no number's
pub number_less : (xs : List ℕ) (word : List ℕ) (words : List (List ℕ)) → u32_of word ≡ None → with_front xs (numbers_of (word ∷ words)) ≡ None
unfolding numbers_of
number_less xs word words isnt = rw isnt refl

-- no words more
pub number_end : (xs : List ℕ) → with_front xs (numbers_of []) ≡ Some xs
unfolding numbers_of
number_end xs = ap Some (append-nil xs)

pub no_front : (o : Option (List ℕ)) → with_front [] o ≡ o
no_front None = refl
no_front (Some ns) = refl

fit_push : (xs : List ℕ) (n : ℕ) → AllByRecursion Fits32 xs → Fits32 n → AllByRecursion Fits32 (xs ++ n ∷ [])
fit_push [] n fit fits = (fits, tt)
fit_push (x ∷ xs) n fit fits = (fit.0, fit_push xs n fit.1 fits)

-- the spelling of numbers is read again
pub numbers_again : (ns : List ℕ) → AllByRecursion Fits32 ns → numbers_of (map decimal ns) ≡ Some ns
unfolding numbers_of
numbers_again [] fit = refl
numbers_again (n ∷ ns) fit =
    rw (in_range 0 4294967295 n (decimal n) (omega (arith, fit.0)) refl (omega arith) (omega (arith, fit.0))) (rw (numbers_again ns fit.1) refl)

-- what a loop over the words keeps, one word on: xs are the numbers so far and ys with the next one, left the words and rest those behind the next one
pub step_value : (xs ys : List ℕ) (n : ℕ) (word : List ℕ) (left rest : List (List ℕ)) (whole : Option (List ℕ)) → ys ≡ xs ++ n ∷ [] → u32_of word ≡ Some n → left ≡ word ∷ rest
    → with_front xs (numbers_of left) ≡ whole → with_front ys (numbers_of rest) ≡ whole
step_value xs ys n word left rest whole more is next before =
    ap (λ (ns : List ℕ). with_front ns (numbers_of rest)) more ∙ sym (number_more xs word n rest is)
    ∙ ap (λ (words : List (List ℕ)). with_front xs (numbers_of words)) (sym next) ∙ before

pub step_spelled : (xs ys : List ℕ) (n : ℕ) (word : List ℕ) (left rest whole : List (List ℕ)) → ys ≡ xs ++ n ∷ [] → word ≡ decimal n → left ≡ word ∷ rest
    → map decimal xs ++ left ≡ whole → map decimal ys ++ rest ≡ whole
step_spelled xs ys n word left rest whole more is next before =
    ap (λ (ns : List ℕ). map decimal ns ++ rest) more ∙ ap (λ (words : List (List ℕ)). words ++ rest) (map-append decimal xs (n ∷ []))
    ∙ append_assoc (map decimal xs) (decimal n ∷ []) rest
    ∙ ap (λ (next_word : List ℕ). map decimal xs ++ next_word ∷ rest) (sym is)
    ∙ ap (λ (words : List (List ℕ)). map decimal xs ++ words) (sym next) ∙ before

pub step_fits : (xs ys : List ℕ) (n : ℕ) → ys ≡ xs ++ n ∷ [] → AllByRecursion Fits32 xs → Fits32 n → AllByRecursion Fits32 ys
step_fits xs ys n more fit fits = subst (AllByRecursion Fits32) (sym more) (fit_push xs n fit fits)
