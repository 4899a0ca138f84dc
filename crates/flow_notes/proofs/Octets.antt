-- Words of hex digits.
use Rattle.std.proofs.Common.{◌≡◌, ◌+◌, ◌-◌, ◌*◌, ◌/◌, ◌%◌, ◌<◌, ◌≤◌, ◌&&◌, ◌||◌, ℕ, zero, suc, List, [], ◌∷◌, ◌++◌, length, get_or, set, take, Option, Some, None, Result, Ok, Err, Bool, true, false, cond, eqb, leb, refl, ap, sym, ◌∙◌, arith, append_assoc, IfOk, IfSome}
use Rattle.std.specs.List.{list_all, slice_index}
use Rattle.std.proofs.lemmas.Bool.{eqb-true, leb-true, lt-ltb, ltb-true}
use Rattle.std.proofs.lemmas.List.{get_or_append_left, get_or-append_right, take_more, take_more_set}
use Rattle.std.proofs.lemmas.List.Folds.{list_all-append}
use Rattle.std.proofs.lemmas.List.Sums.{AllPass-from_list_all}
use Rattle.std.proofs.lemmas.Slice.Eq.{bytes_eq-Decides}
use Rattle.hex.proofs.HexLemmas.{length-encode_with, decode_of-encode_lower, decode_of-ok}
use Rattle.hex.specs.Hex.{IsBytes, decode_of, encode_lower, encode_with, lower_digits}
use Rattle.hex.specs.declared.error.FromHexError.{FromHexError}
use Rattle.flow_notes.specs.Digits.{is_digit, digit_value}
use Rattle.flow_notes.specs.Hex.{HasOctets, IsPiece}
use Rattle.flow_notes.specs.Meaning.{octets_of, spelled_octets}
use Rattle.flow_notes.proofs.Hex.{encode_with-append}

-- each digit of hex text passes a test that the sixteen pass
pub hex_all : (p : ℕ → Bool) → list_all p lower_digits ≡ true → (octets : List ℕ) → IsBytes octets → list_all p (encode_lower octets) ≡ true
unfolding encode_with
hex_all p each [] bytes = refl
hex_all p each (x ∷ xs) bytes =
    let small : x < 256 = bytes 0 in
    let high : p (slice_index lower_digits (x / 16)) ≡ true = AllPass-from_list_all p lower_digits each (x / 16) 0 (omega arith) in
    let low : p (slice_index lower_digits (x % 16)) ≡ true = AllPass-from_list_all p lower_digits each (x % 16) 0 (omega arith) in
    rw high (rw low (hex_all p each xs (λ i. bytes (suc i))))

pub hex_digits : (octets : List ℕ) → IsBytes octets → list_all is_digit (encode_lower octets) ≡ true
hex_digits octets bytes = hex_all is_digit refl octets bytes

refused : (a b : Bool) (octets : List ℕ) → (a ≡ true → b ≡ true → ⊥) → cond (a && b) (Some octets) None ≡ None
refused true true octets never = absurd (never refl refl)
refused true false octets never = refl
refused false b octets never = refl

none_spelled : (word : List ℕ) (r : Result (List ℕ) FromHexError) → ((octets : List ℕ) → r ≡ Ok octets → encode_lower octets ≡ word → 0 < length octets → ⊥) → spelled_octets word r ≡ None
none_spelled word (Ok octets) never = refused _ _ octets (λ same some. never octets refl ((bytes_eq-Decides _ _).0 same) (ltb-true _ _ some))
none_spelled word (Err e) never = refl

-- a word that spells no octets
pub octets_isnt : (word : List ℕ) → ((octets : List ℕ) → IsBytes octets → encode_lower octets ≡ word → 0 < length octets → ⊥) → octets_of word ≡ None
unfolding octets_of
octets_isnt word never = none_spelled word (decode_of word) (λ octets ok same some. never octets (decode_of-ok word octets ok).3 same some)

-- a word that spells octets
pub octets_is : (word octets : List ℕ) → encode_lower octets ≡ word → IsBytes octets → 0 < length octets → octets_of word ≡ Some octets
unfolding octets_of
octets_is word octets same bytes some =
    let decoded : decode_of word ≡ Ok octets = ap decode_of (sym same) ∙ decode_of-encode_lower octets bytes in
    rw decoded (rw ((bytes_eq-Decides (encode_lower octets) word).1 same) (rw (lt-ltb 0 (length octets) some) refl))

-- the length of hex text
pub hex_length : (word octets : List ℕ) → encode_lower octets ≡ word → length word ≡ 2 * length octets
hex_length word octets same = ap (length {A = ℕ}) (sym same) ∙ length-encode_with lower_digits octets

-- numbers in a row, from one on
row : ℕ → List ℕ → Bool
row n [] = true
row n (x ∷ xs) = eqb x n && row (n + 1) xs

pub and_left : (a b : Bool) → (a && b) ≡ true → a ≡ true
and_left true b e = refl
and_left false b e = absurd cc

pub and_right : (a b : Bool) → (a && b) ≡ true → b ≡ true
and_right true b e = e
and_right false b e = absurd cc

in_row : (xs : List ℕ) (n v : ℕ) → row n xs ≡ true → v < length xs → get_or xs v 0 ≡ n + v
unfolding row
in_row [] n v is lt = absurd (omega arith)
in_row (x ∷ xs) n zero is lt = omega (arith, eqb-true x n (and_left _ _ is))
in_row (x ∷ xs) n (suc v) is lt = omega (arith, in_row xs (n + 1) v (and_right _ _ is) (omega arith))

figures : List ℕ
figures = 48 ∷ 49 ∷ 50 ∷ 51 ∷ 52 ∷ 53 ∷ 54 ∷ 55 ∷ 56 ∷ 57 ∷ []

letters : List ℕ
letters = 97 ∷ 98 ∷ 99 ∷ 100 ∷ 101 ∷ 102 ∷ []

figure : (v : ℕ) → v < 10 → get_or lower_digits v 0 ≡ 48 + v
unfolding figures letters row
figure v lt = get_or_append_left figures letters 0 v lt ∙ in_row figures 48 v refl lt

letter : (v : ℕ) → v < 6 → get_or lower_digits (v + 10) 0 ≡ 97 + v
unfolding figures letters row
letter v lt =
    let back : v + 10 - 10 ≡ v = omega arith in
    get_or-append_right figures letters 10 (v + 10) 0 refl (omega arith) ∙ ap (λ k. get_or letters k 0) back ∙ in_row letters 97 v refl lt

-- a digit's value, as the table has it
pub record IsValue (c : ℕ) : Type 0 where
  pub small : digit_value c < 16
  pub spelled : slice_index lower_digits (digit_value c) ≡ c

is_figure : (c : ℕ) → 48 ≤ c → c ≤ 57 → slice_index lower_digits (c - 48) ≡ c
is_figure c low high = figure (c - 48) (omega arith) ∙ (omega arith)

is_letter : (c : ℕ) → 97 ≤ c → c ≤ 102 → slice_index lower_digits (c - 87) ≡ c
is_letter c low high =
    let same : c - 97 + 10 ≡ c - 87 = omega arith in
    sym (ap (λ k. get_or lower_digits k 0) same) ∙ letter (c - 97) (omega arith) ∙ (omega arith)

value_by : (c : ℕ) (figure letter : Bool) → (figure ≡ true → (48 ≤ c) × (c ≤ 57)) → (letter ≡ true → (97 ≤ c) × (c ≤ 102)) → (figure || letter) ≡ true
    → (cond figure (c - 48) (cond letter (c - 87) 0) < 16) × (slice_index lower_digits (cond figure (c - 48) (cond letter (c - 87) 0)) ≡ c)
value_by c true letter f l is = let in_ = f refl in (omega (arith, in_.0, in_.1), is_figure c in_.0 in_.1)
value_by c false true f l is = let in_ = l refl in (omega (arith, in_.0, in_.1), is_letter c in_.0 in_.1)
value_by c false false f l is = absurd cc

pub value_is : (c : ℕ) → is_digit c ≡ true → IsValue c
value_is c is =
    let both = value_by c (leb 48 c && leb c 57) (leb 97 c && leb c 102)
    (λ e. (leb-true _ _ (and_left _ _ e), leb-true _ _ (and_right _ _ e))) (λ e. (leb-true _ _ (and_left _ _ e), leb-true _ _ (and_right _ _ e))) is in
    record { small = both.0; spelled = both.1 }

-- the octet of two digits is spelled so
pair_spelled : (high low : ℕ) → is_digit high ≡ true → is_digit low ≡ true → encode_lower ((digit_value high * 16 + digit_value low) ∷ []) ≡ high ∷ low ∷ []
unfolding encode_with
pair_spelled high low h l =
    let a = value_is high h in
    let b = value_is low l in
    let up : (digit_value high * 16 + digit_value low) / 16 ≡ digit_value high = omega (arith, a.small, b.small) in
    let down : (digit_value high * 16 + digit_value low) % 16 ≡ digit_value low = omega (arith, a.small, b.small) in
    rw up (rw down (rw a.spelled (rw b.spelled refl)))

-- two more digits
pub two_more : (word : List ℕ) (i : ℕ) → 2 * i + 1 < length word → take (2 * (i + 1)) word ≡ take (2 * i) word ++ (get_or word (2 * i) 0 ∷ get_or word (2 * i + 1) 0 ∷ [])
two_more word i lt =
    let far : 2 * (i + 1) ≡ 2 * i + 1 + 1 = omega arith in
    ap (λ n. take n word) far ∙ take_more word (2 * i + 1) 0 lt
    ∙ ap (λ (front : List ℕ). front ++ get_or word (2 * i + 1) 0 ∷ []) (take_more word (2 * i) 0 (omega arith))
    ∙ append_assoc (take (2 * i) word) (get_or word (2 * i) 0 ∷ []) (get_or word (2 * i + 1) 0 ∷ [])

three : (a b c : Bool) → (a && (b && (c && true))) ≡ ((a && b) && c)
three true true true = refl
three true true false = refl
three true false c = refl
three false b c = refl

-- whether the digits so far are digits, with two more
pub still_digits : (front : List ℕ) (high low : ℕ) → list_all is_digit (front ++ (high ∷ low ∷ [])) ≡ ((list_all is_digit front && is_digit high) && is_digit low)
still_digits front high low = list_all-append is_digit front (high ∷ low ∷ []) ∙ three (list_all is_digit front) (is_digit high) (is_digit low)

-- the octets so far, with one more
pub still_spelled : (front octets : List ℕ) (high low : ℕ) → encode_lower octets ≡ front → is_digit high ≡ true → is_digit low ≡ true
    → encode_lower (octets ++ (digit_value high * 16 + digit_value low) ∷ []) ≡ front ++ (high ∷ low ∷ [])
still_spelled front octets high low same h l =
    encode_with-append lower_digits octets ((digit_value high * 16 + digit_value low) ∷ [])
    ∙ ap (λ (text : List ℕ). text ++ encode_lower ((digit_value high * 16 + digit_value low) ∷ [])) same
    ∙ ap (λ (text : List ℕ). front ++ text) (pair_spelled high low h l)

-- what a loop over the digits keeps, two digits on
pub step_digits : (word : List ℕ) (i : ℕ) (d h l : Bool) → 2 * i + 1 < length word → d ≡ list_all is_digit (take (2 * i) word) → h ≡ is_digit (get_or word (2 * i) 0) → l ≡ is_digit (get_or word (2 * i + 1) 0)
    → ((d && h) && l) ≡ list_all is_digit (take (2 * (i + 1)) word)
step_digits word i d h l lt front high low =
    ap (λ (b : Bool). (b && h) && l) front ∙ ap (λ (b : Bool). (list_all is_digit (take (2 * i) word) && b) && l) high
    ∙ ap (λ (b : Bool). (list_all is_digit (take (2 * i) word) && is_digit (get_or word (2 * i) 0)) && b) low
    ∙ sym (ap (list_all is_digit) (two_more word i lt) ∙ still_digits (take (2 * i) word) (get_or word (2 * i) 0) (get_or word (2 * i + 1) 0))

pub step_text : (word into : List ℕ) (i b : ℕ) (d h l : Bool) → 2 * i + 1 < length word → i < length into → (d ≡ true → encode_lower (take i into) ≡ take (2 * i) word)
    → h ≡ is_digit (get_or word (2 * i) 0) → l ≡ is_digit (get_or word (2 * i + 1) 0) → b ≡ digit_value (get_or word (2 * i) 0) * 16 + digit_value (get_or word (2 * i + 1) 0)
    → ((d && h) && l) ≡ true → encode_lower (take (i + 1) (set into i b)) ≡ take (2 * (i + 1)) word
step_text word into i b d h l lt within before high low octet all =
    let dh = and_left (d && h) l all in
    ap encode_lower (take_more_set into i b within) ∙ ap (λ (x : ℕ). encode_lower (take i into ++ x ∷ [])) octet
    ∙ still_spelled (take (2 * i) word) (take i into) (get_or word (2 * i) 0) (get_or word (2 * i + 1) 0) (before (and_left d h dh)) (sym high ∙ and_right d h dh) (sym low ∙ and_right (d && h) l all)
    ∙ sym (two_more word i lt)

-- octets stay octets where one is set
pub bytes_kept : (xs : List ℕ) (i b : ℕ) → IsBytes xs → b < 256 → IsBytes (set xs i b)
bytes_kept [] i b bytes small k = bytes k
bytes_kept (x ∷ xs) zero b bytes small zero = small
bytes_kept (x ∷ xs) zero b bytes small (suc k) = bytes (suc k)
bytes_kept (x ∷ xs) (suc i) b bytes small zero = bytes 0
bytes_kept (x ∷ xs) (suc i) b bytes small (suc k) = bytes_kept xs i b (λ j. bytes (suc j)) small k

-- a word of so many digits spells half as many octets
pub piece_spelled : {E : Type 0} (word : List ℕ) (r : Result (Option (List ℕ)) E) → length word ≤ 32768 → IfOk r (λ read. IfSome read (λ octets. (word ≡ encode_lower octets) × HasOctets octets × IsBytes octets))
    → IfOk r (λ read. IfSome read (λ octets. (word ≡ encode_lower octets) × IsPiece octets × IsBytes octets))
piece_spelled word (Err e) few h = tt
piece_spelled word (Ok None) few h = tt
piece_spelled word (Ok (Some octets)) few h = (h.0, (h.1, omega (arith, hex_length word octets (sym h.0))), h.2)
