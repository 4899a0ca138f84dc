-- The tables that the decoder looks into.
use Rattle.std.proofs.Common.{◌≡◌, ℕ, ◌+◌, ◌-◌, ◌*◌, ◌/◌, ◌%◌, ◌^◌, ◌<◌, ◌≤◌, ◌∙◌, ◌&&◌, true, eqb, leb, List, get_or, sym, ap, subst, arith, bit_and}
use Rattle.std.proofs.Math.Nat.{div-one, add-mul, one-mul, mul_assoc, mul-le-mul_right, lt_of_mul-lt-mul_right}
use Rattle.std.proofs.lemmas.Bool.{and_parts, eqb-true, leb-true}
use Rattle.std.proofs.lemmas.Nat.{pow_pos, pow-add, shr_split, mod_below, and_mask}
use Rattle.huffman.specs.Huffman.{width, place}
use Rattle.huffman.specs.Lookup.{symbol_at}
use Rattle.huffman.proofs.Whole.{Holds, holds_at, found, below, below_at, entry_test, last}
use Rattle.huffman.specs.declared.tables.TheConstants.{LAST}

-- a block of c numbers does not cross the end of a code that takes k * c
within_block : (q k i w c : ℕ) → i * c < q * (k * c) + k * c → w < i * c + c → w < q * (k * c) + k * c
within_block q k i w c h u =
    let e : q * (k * c) + k * c ≡ (q * k + k) * c = omega (arith, add-mul (q * k) k c, mul_assoc q k c) in
    let lt : i < q * k + k = lt_of_mul-lt-mul_right c (omega (arith, e)) in
    let le : (i + 1) * c ≤ (q * k + k) * c = mul-le-mul_right c (omega arith) in
    omega (arith, e, add-mul i 1 c, one-mul c)

-- What a look-up finds at the first number of a block, it finds in the whole block, where the code is no longer than the block's.
block_found : (k i w s l : ℕ) → l + k ≤ 30 → w < 2 ^ 30 → i * 2 ^ k ≤ w → w < i * 2 ^ k + 2 ^ k → symbol_at (i * 2 ^ k) ≡ (s, l) → symbol_at w ≡ (s, l)
block_found k i w s l room small from under is =
    let P : ℕ × ℕ → Type 0 = λ x. Holds x (i * 2 ^ k) in
    let at : i * 2 ^ k < 2 ^ 30 = omega arith in
    let h : Holds (s, l) (i * 2 ^ k) = subst P is (holds_at (i * 2 ^ k) at) in
    let q = (place s).0 / width l in
    let start : q * width l + (place s).0 % width l ≡ (place s).0 = shr_split (place s).0 (30 - l) in
    let wide : width l ≡ 2 ^ (30 - l - k) * 2 ^ k = ap (λ n. 2 ^ n) (let x : 30 - l ≡ 30 - l - k + k = omega arith in x) ∙ pow-add 2 (30 - l - k) k in
    let times : q * width l ≡ q * (2 ^ (30 - l - k) * 2 ^ k) = ap (λ x. q * x) wide in
    let before : i * 2 ^ k < q * (2 ^ (30 - l - k) * 2 ^ k) + 2 ^ (30 - l - k) * 2 ^ k = omega (arith, h.below, h.aligned, start, wide, times) in
    let after : w < q * (2 ^ (30 - l - k) * 2 ^ k) + 2 ^ (30 - l - k) * 2 ^ k = within_block q (2 ^ (30 - l - k)) i w (2 ^ k) before under in
    let same_len : width (place s).1 ≡ width l = ap width h.length in
    found s w (omega (arith, h.from)) (omega (arith, h.aligned, start, wide, times, same_len)) small ∙ ap (λ x. (s, x)) h.length

pub table_found : (table : List ℕ) (k base n : ℕ) → below (entry_test table k base) n ≡ true → (w entry i : ℕ) → w < 2 ^ 30 → base + i ≡ w / 2 ^ k → i < n → entry ≡ get_or table i 0 → symbol_at w ≡ (entry / 32, bit_and entry 31)
table_found table k base n tested w entry i small j under is =
    let t : (leb (entry % 32 + k) 30 && (eqb (symbol_at ((base + i) * 2 ^ k)).0 (entry / 32) && eqb (symbol_at ((base + i) * 2 ^ k)).1 (entry % 32))) ≡ true =
    ap (λ e. leb (e % 32 + k) 30 && (eqb (symbol_at ((base + i) * 2 ^ k)).0 (e / 32) && eqb (symbol_at ((base + i) * 2 ^ k)).1 (e % 32))) is ∙ below_at (entry_test table k base) n i tested under in
    let a = and_parts (leb (entry % 32 + k) 30) _ t in
    let b = and_parts (eqb (symbol_at ((base + i) * 2 ^ k)).0 (entry / 32)) _ a.1 in
    let e : symbol_at ((base + i) * 2 ^ k) ≡ (entry / 32, entry % 32) = ap (λ x. (x, (symbol_at ((base + i) * 2 ^ k)).1)) (eqb-true _ _ b.0) ∙ ap (λ x. (entry / 32, x)) (eqb-true _ _ b.1) in
    let e2 : symbol_at (w / 2 ^ k * 2 ^ k) ≡ (entry / 32, entry % 32) = ap (λ x. symbol_at (x * 2 ^ k)) (sym j) ∙ e in
    let low = mod_below w (2 ^ k) (pow_pos k) in
    let parts = shr_split w k in
    block_found k (w / 2 ^ k) w (entry / 32) (entry % 32) (leb-true _ _ a.0) small (omega arith) (omega arith) e2 ∙ ap (λ x. (entry / 32, x)) (sym (and_mask entry 5))

-- ---- what every look-up gives
pub record Fine (s l : ℕ) : Type 0 where
  pub symbol : s < 257
  pub some : 0 < l
  pub short : l ≤ 30

pub fine_at : (w s l : ℕ) → w < 2 ^ 30 → symbol_at w ≡ (s, l) → Fine s l
fine_at w s l small is =
    let P : ℕ × ℕ → Type 0 = λ e. Holds e w in
    let h : Holds (s, l) w = subst P is (holds_at w small) in
    record { symbol = h.symbol; some = h.some; short = h.short }

pub last_found : (w entry : ℕ) → w < 2 ^ 30 → 0x3fff_fd80 ≤ w → entry ≡ get_or LAST (w - 0x3fff_fd80) 0 → symbol_at w ≡ (entry / 32, bit_and entry 31)
last_found w entry small from is =
    let one : w / 2 ^ 0 ≡ w = div-one w in
    table_found LAST 0 0x3fff_fd80 640 last w entry (w - 0x3fff_fd80) small (omega arith) (omega arith) is
