-- The words of spellings have no spaces.
use Rattle.std.proofs.Common.{◌≡◌, ◌≢◌, ◌<◌, ◌^◌, ℕ, List, [], ◌∷◌, length, map, Bool, true, true≢false, not, eqb, refl, ap, sym, ◌∙◌, arith}
use Rattle.std.specs.Fmt.{decimal}
use Rattle.std.specs.List.{AllByRecursion, list_all}
use Rattle.std.proofs.lemmas.Bool.{eqb-true, false_from_ne_true}
use Rattle.std.proofs.lemmas.Fmt.{digits_decimal}
use Rattle.std.proofs.lemmas.List.{get_or_default}
use Rattle.std.proofs.lemmas.List.Sums.{list_all-from_AllPass}
use Rattle.std.proofs.lemmas.Str.Parse.{not_in_digits}
use Rattle.hex.specs.Hex.{IsBytes, encode_lower}
use Rattle.flow_notes.specs.Fields.{Fits32}
use Rattle.flow_notes.specs.Name.{AreNames, IsName, cluster_name, is_name_octet}
use Rattle.flow_notes.specs.Split.{is_space}
use Rattle.flow_notes.proofs.Numbers.{own}
use Rattle.flow_notes.proofs.Octets.{hex_all, and_left, and_right}
use Rattle.flow_notes.proofs.Splitting.{IsWord}

not_space : (c : ℕ) → c ≢ 32 → not (is_space c) ≡ true
not_space c other = ap not (false_from_ne_true (eqb c 32) (λ is. other (eqb-true c 32 is)))

pub decimal_word : (n : ℕ) → n < 2 ^ 64 → IsWord (decimal n)
decimal_word n fits = list_all-from_AllPass (λ c. not (is_space c)) (decimal n) (λ k d lt.
    not_space _ (λ is. not_in_digits own (decimal n) 32 (digits_decimal own n fits) (λ within. omega arith) k lt (get_or_default (decimal n) k 0 d lt ∙ is)))

pub hex_word : (octets : List ℕ) → IsBytes octets → IsWord (encode_lower octets)
hex_word octets bytes = hex_all (λ c. not (is_space c)) refl octets bytes

weaker : (p q : ℕ → Bool) → ((c : ℕ) → p c ≡ true → q c ≡ true) → (xs : List ℕ) → list_all p xs ≡ true → list_all q xs ≡ true
weaker p q follows [] h = refl
weaker p q follows (x ∷ xs) h = rw (follows x (and_left _ _ h)) (weaker p q follows xs (and_right _ _ h))

name_octet : (c : ℕ) → is_name_octet c ≡ true → not (is_space c) ≡ true
name_octet c is = not_space c (λ space. true≢false (sym is ∙ ap is_name_octet space))

name_word : (name : List ℕ) → IsName name → IsWord name
name_word name is = weaker is_name_octet (λ c. not (is_space c)) name_octet name (and_right _ _ is)

pub cluster_word : (names : List (List ℕ)) (k : ℕ) → AreNames names → k < length names → IsWord (cluster_name names k)
cluster_word names k are lt = name_word (cluster_name names k) (are.each k [] lt)

pub number_words : (ns : List ℕ) → AllByRecursion Fits32 ns → AllByRecursion IsWord (map decimal ns)
number_words [] fit = tt
number_words (n ∷ ns) fit = (decimal_word n (omega (arith, fit.0)), number_words ns fit.1)
