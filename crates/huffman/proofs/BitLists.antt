-- Numbers as lists of bits, and back.
use Rattle.std.proofs.Common.{◌≡◌, ℕ, zero, suc, ◌+◌, ◌*◌, ◌/◌, ◌%◌, ◌^◌, ◌<◌, ◌≤◌, ◌∙◌, Bool, true, false, cond, eqb, List, [], ◌∷◌, ◌++◌, take, drop, length, refl, sym, ap, arith, zero-add, replicate}
use Rattle.std.proofs.Math.Nat.{suc-add, zero-mul, one-mul, add-mul, pow-suc, mod-one}
use Rattle.std.proofs.lemmas.List.{append-nil}
use Rattle.std.proofs.lemmas.Nat.{mod-pow-add, pow_pos, pow-add, shr-shr, div-mul-add, shr_split, mod_below}
use Rattle.std.proofs.lemmas.Nat.Bits.{bit_at_cat_low}
use Rattle.huffman.specs.Huffman.{bits}
use Rattle.huffman.specs.Lookup.{top}

pub length-bits : (n v : ℕ) → length (bits n v) ≡ n
length-bits zero v = refl
length-bits (suc n) v = ap suc (length-bits n v)

pub top-lt : (n : ℕ) (bs : List Bool) → top n bs < 2 ^ n
top-lt zero bs = omega arith
top-lt (suc n) [] = pow_pos (suc n)
top-lt (suc n) (true ∷ bs) = let h = top-lt n bs in let p = pow-suc 2 n in omega arith
top-lt (suc n) (false ∷ bs) = let h = top-lt n bs in let p = pow-suc 2 n in omega arith

pub top-nil : (n : ℕ) → top n [] ≡ 0
top-nil zero = refl
top-nil (suc n) = refl

pub top-split : (a b : ℕ) (bs : List Bool) → top (a + b) bs ≡ top a bs * 2 ^ b + top b (drop a bs)
top-split zero b bs = ap (λ n. top n bs) (zero-add b) ∙ omega (arith, zero-mul (2 ^ b))
top-split (suc a) b [] = ap (λ n. top n []) (suc-add a b) ∙ omega (arith, zero-mul (2 ^ b), top-nil b)
top-split (suc a) b (true ∷ bs) = ap (λ n. top n (true ∷ bs)) (suc-add a b) ∙ omega (arith, pow-add 2 a b, top-split a b bs, add-mul (2 ^ a) (top a bs) (2 ^ b))
top-split (suc a) b (false ∷ bs) = ap (λ n. top n (false ∷ bs)) (suc-add a b) ∙ omega (arith, top-split a b bs, add-mul 0 (top a bs) (2 ^ b), zero-mul (2 ^ b))

-- the bits of a number are those of its last part
pub bits-low : (n k a b : ℕ) → n ≤ k → bits n (a * 2 ^ k + b) ≡ bits n b
bits-low zero k a b h = refl
bits-low (suc n) k a b h =
    let e = bit_at_cat_low a k b n (omega arith) in
    let r = bits-low n k a b (omega arith) in
    ap (λ x. eqb x 1 ∷ bits n (a * 2 ^ k + b)) e ∙ ap (λ x. eqb (b / 2 ^ n % 2) 1 ∷ x) r

pub bits-mod : (n k v : ℕ) → n ≤ k → bits n (v % 2 ^ k) ≡ bits n v
bits-mod n k v h = sym (bits-low n k (v / 2 ^ k) (v % 2 ^ k) h) ∙ ap (bits n) (shr_split v k)

pub bits-append : (a b v : ℕ) → bits (a + b) v ≡ bits a (v / 2 ^ b) ++ bits b v
bits-append zero b v = ap (λ n. bits n v) (zero-add b)
bits-append (suc a) b v =
    ap (λ n. bits n v) (suc-add a b)
    ∙ ap (λ x. eqb (x % 2) 1 ∷ bits (a + b) v) (ap (λ n. v / 2 ^ n) (omega arith) ∙ sym (shr-shr v b a))
    ∙ ap (λ x. eqb (v / 2 ^ b / 2 ^ a % 2) 1 ∷ x) (bits-append a b v)

high : (n t : ℕ) → t < 2 ^ n → (2 ^ n + t) / 2 ^ n ≡ 1
high n t h = ap (λ x. (x + t) / 2 ^ n) (sym (one-mul (2 ^ n))) ∙ div-mul-add 1 (2 ^ n) t h

low : (n t : ℕ) → t < 2 ^ n → (0 + t) / 2 ^ n ≡ 0
low n t h = ap (λ x. (x + t) / 2 ^ n) (sym (zero-mul (2 ^ n))) ∙ div-mul-add 0 (2 ^ n) t h

pub bits-top : (n : ℕ) (bs : List Bool) → n ≤ length bs → bits n (top n bs) ≡ take n bs
bits-top zero bs h = refl
bits-top (suc n) [] h = absurd (omega arith)
bits-top (suc n) (true ∷ bs) h =
    ap (λ x. eqb (x % 2) 1 ∷ bits n (2 ^ n + top n bs)) (high n (top n bs) (top-lt n bs))
    ∙ ap (λ x. true ∷ bits n (x + top n bs)) (sym (one-mul (2 ^ n)))
    ∙ ap (λ x. true ∷ x) (bits-low n n 1 (top n bs) (omega arith) ∙ bits-top n bs (omega arith))
bits-top (suc n) (false ∷ bs) h =
    ap (λ x. eqb (x % 2) 1 ∷ bits n (0 + top n bs)) (low n (top n bs) (top-lt n bs))
    ∙ ap (λ x. false ∷ bits n x) (zero-add (top n bs))
    ∙ ap (λ x. false ∷ x) (bits-top n bs (omega arith))

pub drop-bits : (a b v : ℕ) → drop a (bits (a + b) v) ≡ bits b v
drop-bits zero b v = ap (λ n. bits n v) (zero-add b)
drop-bits (suc a) b v = ap (λ n. drop (suc a) (bits n v)) (suc-add a b) ∙ drop-bits a b v

digit : (d p : ℕ) → d < 2 → cond (eqb d 1) p 0 ≡ d * p
digit zero p h = sym (zero-mul p)
digit (suc zero) p h = sym (one-mul p)
digit (suc (suc d)) p h = absurd (omega arith)

pub top-bits : (n v : ℕ) (rest : List Bool) → top n (bits n v ++ rest) ≡ v % 2 ^ n
top-bits zero v rest = sym (mod-one v)
top-bits (suc n) v rest =
    let d = digit (v / 2 ^ n % 2) (2 ^ n) (mod_below (v / 2 ^ n) 2 (omega arith)) in
    let i = top-bits n v rest in
    let m : v % 2 ^ suc n ≡ (v / 2 ^ n % 2) * 2 ^ n + v % 2 ^ n = ap (λ k. v % 2 ^ k) (omega arith) ∙ mod-pow-add v 1 n in
    omega arith

pub top-ones : (n : ℕ) → top n (replicate n true) + 1 ≡ 2 ^ n
top-ones zero = refl
top-ones (suc n) = let i = top-ones n in let p = pow-suc 2 n in omega arith

pub length-ones : (n : ℕ) → length (replicate n true) ≡ n
length-ones zero = refl
length-ones (suc n) = ap suc (length-ones n)

pub take-ones : (n : ℕ) → take n (replicate n true) ≡ replicate n true
take-ones zero = refl
take-ones (suc n) = ap (λ x. true ∷ x) (take-ones n)

pub bits-ones : (n v : ℕ) → v % 2 ^ n + 1 ≡ 2 ^ n → bits n v ≡ replicate n true
bits-ones n v h =
    let t = top-ones n in
    let same : v % 2 ^ n ≡ top n (replicate n true) = omega arith in
    sym (bits-mod n n v (omega arith)) ∙ ap (bits n) same ∙ bits-top n (replicate n true) (omega (arith, length-ones n)) ∙ take-ones n

pub ones-bits : (n v : ℕ) → bits n v ≡ replicate n true → v % 2 ^ n + 1 ≡ 2 ^ n
ones-bits n v h =
    let e = sym (top-bits n v []) ∙ ap (top n) (append-nil (bits n v) ∙ h) in
    let t = top-ones n in
    omega arith
