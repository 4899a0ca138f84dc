-- Octets that are put after bits, and the first 30 bits.
use Rattle.std.proofs.Common.{◌≡◌, ℕ, ◌+◌, ◌-◌, ◌*◌, ◌/◌, ◌%◌, ◌^◌, ◌<◌, ◌≤◌, ◌∙◌, Bool, true, eqb, List, [], ◌∷◌, ◌++◌, drop, length, get_or, sym, ap, arith, replicate, bit_and, bit_or, ◌↔◌}
use Rattle.std.proofs.lemmas.Bool.{eqb-true, eq-eqb}
use Rattle.std.proofs.Math.Nat.{mul-mod_left}
use Rattle.std.specs.Int.{w32, from_be_bytes}
use Rattle.std.proofs.lemmas.List.{append-nil}
use Rattle.std.proofs.Math.ListN.{drop_of_length-le}
use Rattle.std.proofs.lemmas.Nat.{field_of, shr-shr, pow_pos, div-mul-add, mod-pow-add, shl-shr, or_shifted, and_mask, mod_low, mod_below, one_shl}
use Rattle.huffman.specs.Huffman.{bits, octet_bits, IsPadding}
use Rattle.huffman.specs.Lookup.{top}
use Rattle.huffman.proofs.BitLists.{length-bits, top-nil, top-split, top-bits, bits-append, bits-low, bits-mod, bits-ones, ones-bits, length-ones}

-- k bits that come in from below, at w bits
pub shifted : (have k j held x : ℕ) → have ≤ j → x < 2 ^ k → bits (have + k) (bit_or (held * 2 ^ k % 2 ^ (j + k)) x) ≡ bits have held ++ bits k x
shifted have k j held x room small =
    let a = held % 2 ^ j in
    let low : held * 2 ^ k % 2 ^ k ≡ 0 = mul-mod_left held (2 ^ k) in
    let moved : held * 2 ^ k % 2 ^ (j + k) ≡ a * 2 ^ k = mod-pow-add (held * 2 ^ k) j k ∙ omega (arith, low, ap (λ n. n % 2 ^ j * 2 ^ k) (shl-shr held k)) in
    let sum : bit_or (held * 2 ^ k % 2 ^ (j + k)) x ≡ a * 2 ^ k + x = ap (λ n. bit_or n x) moved ∙ or_shifted a k x small in
    ap (bits (have + k)) sum
    ∙ bits-append have k (a * 2 ^ k + x)
    ∙ ap (λ n. bits have n ++ bits k (a * 2 ^ k + x)) (div-mul-add a (2 ^ k) x small)
    ∙ ap (λ r. r ++ bits k (a * 2 ^ k + x)) (bits-mod have j held room)
    ∙ ap (λ r. bits have held ++ r) (bits-low k k a x (omega arith))

more8 : (n v x : ℕ) → x < 256 → bits (n + 8) (v * 256 + x) ≡ bits n v ++ bits 8 x
more8 n v x h =
    bits-append n 8 (v * 256 + x)
    ∙ ap (λ y. bits n y ++ bits 8 (v * 256 + x)) (div-mul-add v 256 x h)
    ∙ ap (λ r. bits n v ++ r) (bits-low 8 8 v x (omega arith))

pub word_bits : (a b c d : ℕ) → a < 256 → b < 256 → c < 256 → d < 256 → bits 32 (from_be_bytes w32 (a ∷ b ∷ c ∷ d ∷ [])) ≡ octet_bits (a ∷ b ∷ c ∷ d ∷ [])
word_bits a b c d p q r s =
    let same : from_be_bytes w32 (a ∷ b ∷ c ∷ d ∷ []) ≡ ((a * 256 + b) * 256 + c) * 256 + d = omega arith in
    ap (bits 32) same
    ∙ more8 24 ((a * 256 + b) * 256 + c) d s
    ∙ ap (λ x. x ++ bits 8 d) (more8 16 (a * 256 + b) c r)
    ∙ ap (λ x. (x ++ bits 8 c) ++ bits 8 d) (more8 8 a b q)

pub word_of : (octets : List ℕ) (n : ℕ) → length octets ≡ 4 → ((i : ℕ) → get_or octets i 0 < 256) → n ≡ from_be_bytes w32 (get_or octets 0 0 ∷ get_or octets 1 0 ∷ get_or octets 2 0 ∷ get_or octets 3 0 ∷ []) → bits 32 n ≡ octet_bits octets
word_of [] n l h e = absurd (omega arith)
word_of (a ∷ []) n l h e = absurd (omega arith)
word_of (a ∷ b ∷ []) n l h e = absurd (omega arith)
word_of (a ∷ b ∷ c ∷ []) n l h e = absurd (omega arith)
word_of (a ∷ b ∷ c ∷ d ∷ []) n l h e = ap (bits 32) e ∙ word_bits a b c d (h 0) (h 1) (h 2) (h 3)
word_of (a ∷ b ∷ c ∷ d ∷ x ∷ more) n l h e = absurd (omega arith)

-- ---- the first 30 bits
pub front_high : (have held : ℕ) → 30 ≤ have → bit_and (held / 2 ^ (have - 30)) (2 ^ 30 - 1) ≡ top 30 (bits have held)
front_high have held h =
    let k = have - 30 in
    let e : have ≡ 30 + k = omega arith in
    and_mask (held / 2 ^ k) 30 ∙ sym (top-bits 30 (held / 2 ^ k) (bits k held)) ∙ ap (top 30) (sym (ap (λ n. bits n held) e ∙ bits-append 30 k held))

drop_all : (bs : List Bool) (n : ℕ) → length bs ≡ n → drop n bs ≡ []
drop_all bs n e = drop_of_length-le bs (omega arith)

mod_of_mod : (n j k : ℕ) → n % 2 ^ (j + k) % 2 ^ k ≡ n % 2 ^ k
mod_of_mod n j k = ap (λ x. x % 2 ^ k) (mod-pow-add n j k) ∙ mod_low (n / 2 ^ k % 2 ^ j) k (n % 2 ^ k) (mod_below n (2 ^ k) (pow_pos k))

pub front_low : (have held : ℕ) → have < 30 → bit_and (held * 2 ^ (30 - have) % 2 ^ 64) (2 ^ 30 - 1) ≡ top 30 (bits have held)
front_low have held h =
    let k = 30 - have in
    let e : 30 ≡ have + k = omega arith in
    let l : top 30 (bits have held) ≡ (held % 2 ^ have) * 2 ^ k =
    ap (λ n. top n (bits have held)) e ∙ top-split have k (bits have held)
    ∙ omega (arith, ap (λ n. n * 2 ^ k) (ap (top have) (sym (append-nil (bits have held))) ∙ top-bits have held []), ap (top k) (drop_all (bits have held) have (length-bits have held)), top-nil k) in
    let m : held * 2 ^ k % 2 ^ 30 ≡ (held % 2 ^ have) * 2 ^ k =
    ap (λ n. held * 2 ^ k % 2 ^ n) e ∙ mod-pow-add (held * 2 ^ k) have k
    ∙ omega (arith, mul-mod_left held (2 ^ k), ap (λ n. n % 2 ^ have * 2 ^ k) (shl-shr held k)) in
    and_mask (held * 2 ^ k % 2 ^ 64) 30 ∙ mod_of_mod (held * 2 ^ k) 34 30 ∙ m ∙ sym l

pub front8 : (have held : ℕ) → 30 ≤ have → bit_and (held / 2 ^ (have - 8)) 255 ≡ top 30 (bits have held) / 2 ^ 22
front8 have held h =
    let n = held / 2 ^ (have - 30) in
    let e : have - 8 ≡ have - 30 + 22 = omega arith in
    let moved : held / 2 ^ (have - 8) ≡ n / 2 ^ 22 = ap (λ k. held / 2 ^ k) e ∙ sym (shr-shr held (have - 30) 22) in
    and_mask (held / 2 ^ (have - 8)) 8
    ∙ ap (λ x. x % 2 ^ 8) moved
    ∙ sym (field_of n 8 22)
    ∙ ap (λ x. x / 2 ^ 22) (sym (and_mask n 30) ∙ front_high have held h)

-- ---- padding
pub padding_here : (have held : ℕ) → have < 8 → held % 2 ^ have + 1 ≡ 2 ^ have → IsPadding (bits have held)
padding_here have held h e = (have, h, bits-ones have held e)

pub padding_says : (have held : ℕ) → IsPadding (bits have held) → (have < 8) × (held % 2 ^ have + 1 ≡ 2 ^ have)
padding_says have held pad =
    let len : have ≡ pad.0 = sym (length-bits have held) ∙ ap length pad.2 ∙ length-ones pad.0 in
    (omega (arith, pad.1), ones-bits have held (pad.2 ∙ ap (λ n. replicate n true) (sym len)))

pub mask_is : (have : ℕ) → have < 8 → 1 * 2 ^ have % 2 ^ 64 ≡ 2 ^ have
mask_is have h = one_shl have 64 (omega arith)

pub masked : (have held : ℕ) → have < 8 → bit_and held (1 * 2 ^ have % 2 ^ 64 - 1) ≡ held % 2 ^ have
masked have held h = ap (λ n. bit_and held (n - 1)) (mask_is have h) ∙ and_mask held have

-- what the test of the mask says
pub padding_test : (have held : ℕ) → have < 8 → (eqb (bit_and held (1 * 2 ^ have % 2 ^ 64 - 1)) (1 * 2 ^ have % 2 ^ 64 - 1) ≡ true) ↔ IsPadding (bits have held)
padding_test have held h =
    let a = masked have held h in
    let b = mask_is have h in
    let p = pow_pos have in (
      λ t. let e : bit_and held (1 * 2 ^ have % 2 ^ 64 - 1) ≡ 1 * 2 ^ have % 2 ^ 64 - 1 = eqb-true _ _ t in padding_here have held h (omega arith),
      λ pad. let f = (padding_says have held pad).1 in eq-eqb _ _ (omega arith),
    )
