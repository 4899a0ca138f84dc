-- One symbol of a text that is being read.
use Rattle.std.proofs.Common.{◌≡◌, ℕ, ◌+◌, ◌-◌, ◌<◌, ◌≤◌, ◌∙◌, Bool, List, [], ◌∷◌, ◌++◌, drop, sym, ap, subst, arith, append_assoc}
use Rattle.std.proofs.lemmas.List.{append-nil}
use Rattle.huffman.specs.Huffman.{bits, code, IsPadding}
use Rattle.huffman.specs.Lookup.{symbol_at, top}
use Rattle.huffman.specs.Reading.{Reads, SpellsNone}
use Rattle.huffman.proofs.Lookups.{fine_at}
use Rattle.huffman.proofs.BitLists.{length-bits, top-lt, drop-bits}
use Rattle.huffman.proofs.Symbols.{begins, reads_more, reads_nothing, end_in_text, cut_short}

front : (more : List Bool) (have held s l : ℕ) → symbol_at (top 30 (bits have held)) ≡ (s, l) → l ≤ have → bits have held ++ more ≡ code s ++ (bits (have - l) held ++ more)
front more have held s l is room =
    let e : have ≡ l + (have - l) = omega arith in
    let b = begins (bits have held) s l is (omega (arith, length-bits have held)) in
    let d : drop l (bits have held) ≡ bits (have - l) held = ap (λ n. drop l (bits n held)) e ∙ drop-bits l (have - l) held in
    ap (λ x. x ++ more) (b ∙ ap (λ x. code s ++ x) d) ∙ append_assoc (code s) (bits (have - l) held) more

pub step : (whole more : List Bool) (out : List ℕ) (have held s l : ℕ) → symbol_at (top 30 (bits have held)) ≡ (s, l) → l ≤ have → s ≤ 255 → Reads whole (bits have held ++ more) out → Reads whole (bits (have - l) held ++ more) (out ++ (s ∷ []))
step whole more out have held s l is room small r =
    let P : List Bool → Type 0 = λ x. Reads whole x out in
    reads_more whole (bits (have - l) held ++ more) out s (omega arith) (subst P (front more have held s l is room) r)

pub stop : (whole more : List Bool) (out : List ℕ) (have held s l : ℕ) → symbol_at (top 30 (bits have held)) ≡ (s, l) → l ≤ have → 255 < s → Reads whole (bits have held ++ more) out → SpellsNone whole
stop whole more out have held s l is room high r =
    let P : List Bool → Type 0 = λ x. Reads whole x out in
    let f = fine_at (top 30 (bits have held)) s l (top-lt 30 (bits have held)) is in
    reads_nothing whole (code s ++ (bits (have - l) held ++ more)) out (end_in_text s (bits (have - l) held ++ more) f.symbol high) (subst P (front more have held s l is room) r)

-- the same with nothing behind
pub last_step : (whole : List Bool) (out : List ℕ) (have held s l : ℕ) → symbol_at (top 30 (bits have held)) ≡ (s, l) → l ≤ have → s ≤ 255 → Reads whole (bits have held) out → Reads whole (bits (have - l) held) (out ++ (s ∷ []))
last_step whole out have held s l is room small r =
    let P : List Bool → Type 0 = λ x. Reads whole x out in
    let Q : List Bool → Type 0 = λ x. Reads whole x (out ++ (s ∷ [])) in
    subst Q (append-nil (bits (have - l) held)) (step whole [] out have held s l is room small (subst P (sym (append-nil (bits have held))) r))

pub last_stop : (whole : List Bool) (out : List ℕ) (have held s l : ℕ) → symbol_at (top 30 (bits have held)) ≡ (s, l) → l ≤ have → 255 < s → Reads whole (bits have held) out → SpellsNone whole
last_stop whole out have held s l is room high r =
    let P : List Bool → Type 0 = λ x. Reads whole x out in
    stop whole [] out have held s l is room high (subst P (sym (append-nil (bits have held))) r)

pub too_short : (whole : List Bool) (out : List ℕ) (have held s l : ℕ) → symbol_at (top 30 (bits have held)) ≡ (s, l) → have < l → (IsPadding (bits have held) → ⊥) → Reads whole (bits have held) out → SpellsNone whole
too_short whole out have held s l is short never r =
    reads_nothing whole (bits have held) out (cut_short (bits have held) s l is (omega (arith, length-bits have held)) never) r
