-- Reading one symbol from the front of a string of bits.
use Rattle.std.proofs.Common.{◌≡◌, ℕ, ◌+◌, ◌-◌, ◌*◌, ◌/◌, ◌%◌, ◌^◌, ◌<◌, ◌≤◌, ◌∙◌, Bool, true, ltb, List, [], ◌∷◌, ◌++◌, take, drop, length, refl, sym, ap, subst, arith, replicate, append_assoc}
use Rattle.std.proofs.Math.Nat.{mod-eq_of_lt}
use Rattle.std.proofs.lemmas.List.{take-append-drop, length-append, append-nil}
use Rattle.std.proofs.lemmas.Nat.{pow_pos, pow-add, shr_split, same_from_place, div_below}
use Rattle.std.proofs.lemmas.Bool.{ltb-true}
use Rattle.huffman.specs.Huffman.{bits, width, place, code, IsSpelled, IsPadding}
use Rattle.huffman.specs.Lookup.{symbol_at, top}
use Rattle.huffman.specs.Reading.{Reads, SpellsNone}
use Rattle.huffman.proofs.Whole.{Holds, holds_at, found, placed, below_at, paddings}
use Rattle.huffman.proofs.BitLists.{length-bits, top-lt, top-split, bits-top, top-bits, length-ones}

code-is : (s : ℕ) → code s ≡ bits (place s).1 ((place s).0 / width (place s).1)
unfolding code
code-is s = refl

pub length-code : (s : ℕ) → length (code s) ≡ (place s).1
length-code s = ap length (code-is s) ∙ length-bits (place s).1 _

split30 : (l : ℕ) (bs : List Bool) → l ≤ 30 → top 30 bs ≡ top l bs * width l + top (30 - l) (drop l bs)
split30 l bs h = let e : 30 ≡ l + (30 - l) = omega arith in ap (λ n. top n bs) e ∙ top-split l (30 - l) bs

same_quotient : (q t r w : ℕ) → r < w → q * w ≤ t * w + r → t * w + r < q * w + w → q ≡ t
same_quotient q t r w small from under =
    let e : q * w + (t * w + r - q * w) ≡ t * w + r = omega arith in
    (same_from_place q (t * w + r - q * w) t r w (omega arith) small e).0

-- What a look-up finds, and has room, begins the bits.
pub begins : (bs : List Bool) (s l : ℕ) → symbol_at (top 30 bs) ≡ (s, l) → l ≤ length bs → bs ≡ code s ++ drop l bs
begins bs s l is room =
    let P : ℕ × ℕ → Type 0 = λ e. Holds e (top 30 bs) in
    let h : Holds (s, l) (top 30 bs) = subst P is (holds_at (top 30 bs) (top-lt 30 bs)) in
    let q = (place s).0 / width l in
    let t = top l bs in
    let r = top (30 - l) (drop l bs) in
    let split : top 30 bs ≡ t * width l + r = split30 l bs h.short in
    let whole : q * width l + (place s).0 % width l ≡ (place s).0 = shr_split (place s).0 (30 - l) in
    let same : q ≡ t = same_quotient q t r (width l) (top-lt (30 - l) (drop l bs)) (omega (arith, h.aligned, h.from)) (omega (arith, h.aligned, h.below)) in
    let spelled : code s ≡ take l bs = code-is s ∙ ap (λ n. bits n ((place s).0 / width n)) h.length ∙ ap (bits l) same ∙ bits-top l bs room in
    sym (ap (λ x. x ++ drop l bs) spelled ∙ take-append-drop l bs)

-- A look-up finds the symbol whose code begins the bits.
pub found_of_code : (s : ℕ) (rest : List Bool) → s < 257 → symbol_at (top 30 (code s ++ rest)) ≡ (s, (place s).1)
found_of_code s rest h =
    let p = placed s h in
    let l = (place s).1 in
    let q = (place s).0 / width l in
    let r = top (30 - l) (drop l (code s ++ rest)) in
    let r_small : r < width l = top-lt (30 - l) (drop l (code s ++ rest)) in
    let start : q * width l + (place s).0 % width l ≡ (place s).0 = shr_split (place s).0 (30 - l) in
    let wide : 2 ^ 30 ≡ 2 ^ l * width l = ap (λ n. 2 ^ n) (let e : 30 ≡ l + (30 - l) = omega (arith, p.short) in e) ∙ pow-add 2 l (30 - l) in
    let small : q < 2 ^ l = div_below (place s).0 (width l) (2 ^ l) (pow_pos (30 - l)) (omega (arith, p.fits, wide, pow_pos (30 - l))) in
    let front : top l (code s ++ rest) ≡ q = ap (λ c. top l (c ++ rest)) (code-is s) ∙ top-bits l q rest ∙ mod-eq_of_lt small in
    let split : top 30 (code s ++ rest) ≡ q * width l + r = split30 l (code s ++ rest) p.short ∙ ap (λ x. x * width l + r) front in
    found s (top 30 (code s ++ rest)) (omega (arith, p.aligned, split, start)) (omega (arith, p.aligned, split, start, r_small)) (top-lt 30 (code s ++ rest))

append_cancel : (xs ys zs : List Bool) → xs ++ ys ≡ xs ++ zs → ys ≡ zs
append_cancel [] ys zs e = e
append_cancel (x ∷ xs) ys zs e = append_cancel xs ys zs (ap (drop 1) e)

pub no_code_in_padding : (s n : ℕ) (rest : List Bool) → s < 257 → n < 8 → code s ++ rest ≡ replicate n true → ⊥
no_code_in_padding s n rest h small e =
    let f = found_of_code s rest h in
    let long : n < (symbol_at (top 30 (replicate n true))).1 = ltb-true _ _ (below_at (λ n. ltb n (symbol_at (top 30 (replicate n true))).1) 8 n paddings small) in
    let same : (symbol_at (top 30 (replicate n true))).1 ≡ (place s).1 = ap (λ x. (symbol_at (top 30 x)).1) (sym e) ∙ ap (λ x. x.1) f in
    let len : length (code s) + length rest ≡ n = sym (length-append (code s) rest) ∙ ap length e ∙ length-ones n in
    omega (arith, length-code s, len, same, long)

pub read_one : (s : ℕ) (rest : List Bool) (text : List ℕ) → s < 257 → IsSpelled (code s ++ rest) text → (after : List ℕ) × (text ≡ s ∷ after) × IsSpelled rest after
read_one s rest [] h sp = absurd (no_code_in_padding s sp.0 rest h sp.1 sp.2)
read_one s rest (t ∷ text) h sp =
    let one = found_of_code s rest h in
    let two = found_of_code t sp.0 (omega (arith, sp.1)) in
    let same : s ≡ t = ap (λ x. x.0) (sym one ∙ ap (λ x. symbol_at (top 30 x)) sp.2 ∙ two) in
    let left : code s ++ rest ≡ code s ++ sp.0 = sp.2 ∙ ap (λ x. code x ++ sp.0) (sym same) in
    let P : List Bool → Type 0 = λ x. IsSpelled x text in
    (text, ap (λ x. x ∷ text) (sym same), subst P (sym (append_cancel (code s) rest sp.0 left)) sp.3)

-- ---- a text that is being read
pub reads_more : (whole rest : List Bool) (out : List ℕ) (s : ℕ) → s < 256 → Reads whole (code s ++ rest) out → Reads whole rest (out ++ (s ∷ []))
reads_more whole rest out s h r = record {
  onward = λ text sp.
      (let P : List ℕ → Type 0 = λ x. IsSpelled whole x in
      subst P (sym (append_assoc out (s ∷ []) text)) (r.onward (s ∷ text) (rest, h, refl, sp)));
  only = λ text sp.
      (let a = r.only text sp in
      let b = read_one s rest a.0 (omega arith) a.2 in
      (b.0, a.1 ∙ ap (λ x. out ++ x) b.1 ∙ sym (append_assoc out (s ∷ []) b.0), b.2));
}

pub reads_end : (whole rest : List Bool) (out : List ℕ) → IsPadding rest → Reads whole rest out → IsSpelled whole out
reads_end whole rest out pad r = let P : List ℕ → Type 0 = λ x. IsSpelled whole x in subst P (append-nil out) (r.onward [] pad)

pub reads_nothing : (whole rest : List Bool) (out : List ℕ) → SpellsNone rest → Reads whole rest out → SpellsNone whole
reads_nothing whole rest out never r = record { none = λ text sp. let a = r.only text sp in never.none a.0 a.2 }

-- The end of string stands in no text.
pub end_in_text : (s : ℕ) (rest : List Bool) → s < 257 → 255 < s → SpellsNone (code s ++ rest)
end_in_text s rest h high = record {
  none = λ text sp.
      let a = read_one s rest text h sp in
      let P : List ℕ → Type 0 = λ x. IsSpelled (code s ++ rest) x in
      let again : IsSpelled (code s ++ rest) (s ∷ a.0) = subst P a.1 sp in
      omega (arith, again.1);
}

-- Bits that are too few for the code that they begin, and no padding, spell no text.
pub cut_short : (bs : List Bool) (s l : ℕ) → symbol_at (top 30 bs) ≡ (s, l) → length bs < l → (IsPadding bs → ⊥) → SpellsNone bs
cut_short bs s l is short never = record {
  none = λ text. elim text as (λ t. IsSpelled bs t → ⊥) [
    | [] ↦ never
    | ◌∷◌ t more ↦ (λ sp.
        let f = found_of_code t sp.0 (omega (arith, sp.1)) in
        let same : (place t).1 ≡ l = ap (λ x. x.1) (sym f ∙ ap (λ x. symbol_at (top 30 x)) (sym sp.2) ∙ is) in
        let len : length bs ≡ length (code t) + length sp.0 = ap length sp.2 ∙ length-append (code t) sp.0 in
        omega (arith, length-code t, len, same, short))
  ];
}

-- No string of bits spells two texts.
pub one_reading : (bs : List Bool) (text other : List ℕ) → IsSpelled bs text → IsSpelled bs other → text ≡ other
one_reading bs [] [] p q = refl
one_reading bs [] (t ∷ other) p q = absurd (no_code_in_padding t p.0 q.0 (omega (arith, q.1)) p.1 (sym q.2 ∙ p.2))
one_reading bs (s ∷ text) other p q =
    let P : List Bool → Type 0 = λ x. IsSpelled x other in
    let a = read_one s p.0 other (omega (arith, p.1)) (subst P p.2 q) in
    ap (λ x. s ∷ x) (one_reading p.0 text a.0 p.3 a.2) ∙ sym a.1
