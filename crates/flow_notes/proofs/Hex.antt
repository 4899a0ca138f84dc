-- Hex text, piece by piece.
use Rattle.std.proofs.Common.{◌≡◌, ◌/◌, ◌%◌, ℕ, List, [], ◌∷◌, ◌++◌, refl, ap, take, drop, sym, ◌∙◌, append_assoc}
use Rattle.std.proofs.lemmas.List.{take-append-drop}
use Rattle.std.specs.List.{slice_index}
use Rattle.hex.specs.Hex.{encode_lower, encode_with, lower_digits}

pub encode_with-append : (digits xs ys : List ℕ) → encode_with digits (xs ++ ys) ≡ encode_with digits xs ++ encode_with digits ys
unfolding encode_with
encode_with-append digits [] ys = refl
encode_with-append digits (x ∷ xs) ys = ap (λ (text : List ℕ). slice_index digits (x / 16) ∷ slice_index digits (x % 16) ∷ text) (encode_with-append digits xs ys)

-- the text of a front and of the rest is that of all
pub encode_lower-split : (n : ℕ) (octets : List ℕ) → encode_lower (take n octets) ++ encode_lower (drop n octets) ≡ encode_lower octets
encode_lower-split n octets = sym (encode_with-append lower_digits (take n octets) (drop n octets)) ∙ ap encode_lower (take-append-drop n octets)

pub encode_lower-none : encode_lower [] ≡ []
unfolding encode_with
encode_lower-none = refl

-- the text so far takes over that of the first n octets of the rest
pub piece_goes_over : (n : ℕ) (before after rest digits later whole : List ℕ) → before ++ encode_lower rest ≡ whole → digits ≡ encode_lower (take n rest)
    → after ≡ before ++ digits → later ≡ drop n rest → after ++ encode_lower later ≡ whole
piece_goes_over n before after rest digits later whole all piece added left =
    ap (λ (text : List ℕ). text ++ encode_lower later) (added ∙ ap (λ (text : List ℕ). before ++ text) piece)
    ∙ append_assoc before (encode_lower (take n rest)) (encode_lower later)
    ∙ ap (λ (text : List ℕ). before ++ text) (ap (λ (octets : List ℕ). encode_lower (take n rest) ++ encode_lower octets) left ∙ encode_lower-split n rest) ∙ all
