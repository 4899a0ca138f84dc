-- Octets of an integer that are written one by one.
use Rattle.std.proofs.Common.{◌≡◌, ℕ, zero, suc, ◌+◌, ◌-◌, ◌*◌, ◌/◌, ◌%◌, ◌^◌, ◌<◌, ◌≤◌, ◌∙◌, cond, List, [], ◌∷◌, ◌++◌, refl, sym, ap, arith, append_assoc}
use Rattle.std.proofs.lemmas.Bool.{lt-ltb, le-ltb}
use Rattle.std.proofs.lemmas.Nat.{one_shl, pow-add, div_below}
use Rattle.hpack_codec.specs.Encoding.{varint, integer}

-- what was written is completed by what the rest is spelled with
pub record Written (before : List ℕ) (n : ℕ) (out : List ℕ) (rest : ℕ) : Type 0 where
  pub left : ℕ
  pub some : 0 < left
  pub fits : rest < 2 ^ (7 * left)
  pub same : out ++ varint left rest ≡ before ++ varint 5 n

pub nothing_yet : (before : List ℕ) (n : ℕ) → n < 2 ^ 32 → Written before n before n
nothing_yet before n h = record { left = 5; some = omega arith; fits = omega arith; same = refl }

pub last-varint : (left n : ℕ) → n < 128 → 0 < left → varint left n ≡ n ∷ []
unfolding varint
last-varint zero n h some = absurd (omega arith)
last-varint (suc left) n h some = ap (λ b. cond b (n ∷ []) ((128 + n % 128) ∷ varint left (n / 128))) (lt-ltb n 128 h)

pub next-varint : (left n : ℕ) → 128 ≤ n → varint (suc left) n ≡ (128 + n % 128) ∷ varint left (n / 128)
unfolding varint
next-varint left n h = ap (λ b. cond b (n ∷ []) ((128 + n % 128) ∷ varint left (n / 128))) (le-ltb n 128 h)

pub smaller : (left n : ℕ) → n < 2 ^ (7 * suc left) → n / 128 < 2 ^ (7 * left)
smaller left n h =
    let e : 2 ^ (7 * suc left) ≡ 2 ^ 7 * 2 ^ (7 * left) = ap (λ k. 2 ^ k) (let z : 7 * suc left ≡ 7 + 7 * left = omega arith in z) ∙ pow-add 2 7 (7 * left) in
    div_below n 128 (2 ^ (7 * left)) (omega arith) (omega (arith, e))

pub some_left : (left rest : ℕ) → 128 ≤ rest → rest < 2 ^ (7 * suc left) → 0 < left
some_left zero rest more fits = absurd (let small : rest < 2 ^ 7 = fits in omega arith)
some_left (suc left) rest more fits = omega arith

written_more : (before : List ℕ) (n : ℕ) (out : List ℕ) (rest : ℕ) → 128 ≤ rest → (left : ℕ) → rest < 2 ^ (7 * left) → out ++ varint left rest ≡ before ++ varint 5 n → Written before n (out ++ (128 + rest % 128) ∷ []) (rest / 128)
written_more before n out rest more zero fits same = absurd (let one : rest < 1 = fits in omega arith)
written_more before n out rest more (suc left) fits same = record {
  left = left;
  some = some_left left rest more fits;
  fits = smaller left rest fits;
  same = append_assoc out ((128 + rest % 128) ∷ []) (varint left (rest / 128)) ∙ ap (λ x. out ++ x) (sym (next-varint left rest more)) ∙ same;
}

pub writes_more : (before : List ℕ) (n : ℕ) (out : List ℕ) (rest : ℕ) → 128 ≤ rest → Written before n out rest → Written before n (out ++ (128 + rest % 128) ∷ []) (rest / 128)
writes_more before n out rest more w = written_more before n out rest more w.left w.fits w.same

pub writes_last : (before : List ℕ) (n : ℕ) (out : List ℕ) (rest : ℕ) → rest < 128 → Written before n out rest → out ++ rest ∷ [] ≡ before ++ varint 5 n
writes_last before n out rest last w = ap (λ x. out ++ x) (sym (last-varint w.left rest last w.some)) ∙ w.same

-- ---- an integer behind a pattern
pub high_is : (prefix pattern : ℕ) → prefix ≤ 8 → pattern * (1 * 2 ^ prefix % 2 ^ 32) ≡ pattern * 2 ^ prefix
high_is prefix pattern h = ap (λ x. pattern * x) (one_shl prefix 32 (omega arith))

pub integer-short : (prefix pattern n : ℕ) → n < 2 ^ prefix - 1 → integer prefix pattern n ≡ (pattern * 2 ^ prefix + n) ∷ []
unfolding integer
integer-short prefix pattern n h =
    ap (λ b. cond b ((pattern * 2 ^ prefix + n) ∷ []) ((pattern * 2 ^ prefix + (2 ^ prefix - 1)) ∷ varint 5 (n - (2 ^ prefix - 1)))) (lt-ltb n (2 ^ prefix - 1) h)

pub integer-long : (prefix pattern n : ℕ) → 2 ^ prefix - 1 ≤ n → integer prefix pattern n ≡ (pattern * 2 ^ prefix + (2 ^ prefix - 1)) ∷ varint 5 (n - (2 ^ prefix - 1))
unfolding integer
integer-long prefix pattern n h =
    ap (λ b. cond b ((pattern * 2 ^ prefix + n) ∷ []) ((pattern * 2 ^ prefix + (2 ^ prefix - 1)) ∷ varint 5 (n - (2 ^ prefix - 1)))) (le-ltb n (2 ^ prefix - 1) h)

pub integer_is : (prefix pattern n full high : ℕ) → full ≡ 2 ^ prefix - 1 → high ≡ pattern * 2 ^ prefix → full ≤ n → (high + full) ∷ varint 5 (n - full) ≡ integer prefix pattern n
integer_is prefix pattern n full high f h le =
    ap (λ x. (high + x) ∷ varint 5 (n - x)) f ∙ ap (λ x. (x + (2 ^ prefix - 1)) ∷ varint 5 (n - (2 ^ prefix - 1))) h ∙ sym (integer-long prefix pattern n (omega arith))
