-- The places of the static entries whose names are in one row, and a search among these alone.
use Rattle.std.proofs.Common.{◌≡◌, ℕ, zero, suc, ◌+◌, ◌<◌, ◌≤◌, ◌∙◌, Bool, true, false, cond, List, [], ◌∷◌, ◌++◌, length, drop, get_or, map, Option, Some, None, refl, subst, sym, ap, arith, eqb, append_assoc, length-append}
use Rattle.std.proofs.Math.Seq.{get_or-append_seam}
use Rattle.std.proofs.lemmas.Bool.{eq-eqb, false≢true}
use Rattle.std.proofs.lemmas.List.{drop_more, drop_all}
use Rattle.std.proofs.lemmas.List.FromFn.{get_or-map-range_with_len}
use Rattle.std.proofs.lemmas.Option.{get_or_from_slice_get}
use Rattle.std.proofs.lemmas.Slice.Eq.{bytes_eq-Decides}
use Rattle.std.specs.List.{range_with_len, slice_get}
use Rattle.std.specs.Str.{bytes_eq}
use Rattle.hpack_codec.specs.Encoding.{index_from}
use Rattle.hpack_codec.specs.Table.{line, places_from, places_of, row_of, static_table}
use Rattle.hpack_codec.specs.declared.line.Line.{Line}
use Rattle.hpack_codec.proofs.StaticRows.{static_length}

-- ---- a search among places
abbrev pub entry : List Line → ℕ → Line
entry all place = get_or all place (line [] [])

abbrev pub among : (Line → Bool) → List Line → List ℕ → Option ℕ
among passes all [] = None
among passes all (p ∷ ps) = cond (passes (entry all p)) (Some (p + 1)) (among passes all ps)

-- the name of what passes is in the row n
abbrev pub OnlyNamed : (Line → Bool) → ℕ → Type 0
OnlyNamed passes n = (l : Line) → passes l ≡ true → row_of l.name ≡ n

no_other : (passes : Line → Bool) (n : ℕ) (l : Line) → OnlyNamed passes n → eqb (row_of l.name) n ≡ false → (passed : Bool) → passes l ≡ passed → passed ≡ false
no_other passes n l only other false is = refl
no_other passes n l only other true is = absurd (false≢true (sym other ∙ eq-eqb (row_of l.name) n (only l is)))

step : (passes : Line → Bool) (n : ℕ) (l : Line) (all : List Line) (i : ℕ) (rest : Option ℕ) (places : List ℕ) (same : Bool) → entry all i ≡ l → (same ≡ false → passes l ≡ false) → rest ≡ among passes all places → cond (passes l) (Some (i + 1)) rest ≡ among passes all (cond same (i ∷ places) places)
step passes n l all i rest places true here fails later =
    ap (λ x. cond (passes x) (Some (i + 1)) rest) (sym here) ∙ ap (λ r. cond (passes (entry all i)) (Some (i + 1)) r) later
step passes n l all i rest places false here fails later = ap (λ b. cond b (Some (i + 1)) rest) (fails refl) ∙ later

same_search : (passes : Line → Bool) (n : ℕ) → OnlyNamed passes n → (front ls : List Line) (i : ℕ) → i ≡ length front → index_from (i + 1) passes ls ≡ among passes (front ++ ls) (places_from i n ls)
same_search passes n only front [] i e = refl
same_search passes n only front (l ∷ ls) i e =
    let next : (front ++ l ∷ []) ++ ls ≡ front ++ l ∷ ls = append_assoc front (l ∷ []) ls in
    let here : entry (front ++ l ∷ ls) i ≡ l = ap (entry (front ++ l ∷ ls)) e ∙ get_or-append_seam front l ls (line [] []) in
    let one : i + 1 ≡ length (front ++ l ∷ []) = omega (arith, length-append front (l ∷ [])) in
    let later : index_from (i + 1 + 1) passes ls ≡ among passes (front ++ l ∷ ls) (places_from (i + 1) n ls) =
    same_search passes n only (front ++ l ∷ []) ls (i + 1) one ∙ ap (λ all. among passes all (places_from (i + 1) n ls)) next in
    step passes n l (front ++ l ∷ ls) i (index_from (i + 1 + 1) passes ls) (places_from (i + 1) n ls) (eqb (row_of l.name) n) here (λ other. no_other passes n l only other (passes l) refl) later

pub search_begins : (passes : Line → Bool) (n : ℕ) → OnlyNamed passes n → index_from 1 passes static_table ≡ among passes static_table (places_of n)
search_begins passes n only = same_search passes n only [] static_table 0 refl

pub searches_on : (passes : Line → Bool) (all : List Line) (places : List ℕ) (k p d : ℕ) (l : Line) → k < length places → p ≡ get_or places k d → slice_get all p ≡ Some l → passes l ≡ false → among passes all (drop k places) ≡ among passes all (drop (k + 1) places)
searches_on passes all places k p d l h is found fails =
    ap (among passes all) (drop_more places k d h)
    ∙ ap (λ x. cond (passes (entry all x)) (Some (x + 1)) (among passes all (drop (k + 1) places))) (sym is)
    ∙ ap (λ x. cond (passes x) (Some (p + 1)) (among passes all (drop (k + 1) places))) (get_or_from_slice_get all p l (line [] []) found)
    ∙ ap (λ b. cond b (Some (p + 1)) (among passes all (drop (k + 1) places))) fails

pub searched : (passes : Line → Bool) (all : List Line) (places : List ℕ) (k p d : ℕ) (l : Line) → k < length places → p ≡ get_or places k d → slice_get all p ≡ Some l → passes l ≡ true → among passes all (drop k places) ≡ Some (p + 1)
searched passes all places k p d l h is found holds =
    ap (among passes all) (drop_more places k d h)
    ∙ ap (λ x. cond (passes (entry all x)) (Some (x + 1)) (among passes all (drop (k + 1) places))) (sym is)
    ∙ ap (λ x. cond (passes x) (Some (p + 1)) (among passes all (drop (k + 1) places))) (get_or_from_slice_get all p l (line [] []) found)
    ∙ ap (λ b. cond b (Some (p + 1)) (among passes all (drop (k + 1) places))) holds

pub searched_all : (passes : Line → Bool) (all : List Line) (places : List ℕ) (k : ℕ) → length places ≤ k → among passes all (drop k places) ≡ None
searched_all passes all places k h = ap (among passes all) (drop_all k places h)

-- ---- the name of who passes is in the row of the name that is looked for
pub named_alike : (name : List ℕ) → OnlyNamed (λ l. bytes_eq l.name name) (row_of name)
named_alike name l passed = ap row_of ((bytes_eq-Decides l.name name).0 passed)

-- ---- places are within the table
-- the places of a list are below its end
abbrev AreBelow : ℕ → List ℕ → Type 0
AreBelow end places = (k : ℕ) → k < length places → get_or places k 0 < end

at_one : (end i : ℕ) (places : List ℕ) → i < end → AreBelow end places → (k : ℕ) → k < length (i ∷ places) → get_or (i ∷ places) k 0 < end
at_one end i places h all zero here = h
at_one end i places h all (suc k) here = all k (omega (arith, here))

with_one : (end i : ℕ) (places : List ℕ) (same : Bool) → i < end → AreBelow end places → AreBelow end (cond same (i ∷ places) places)
with_one end i places false h all = all
with_one end i places true h all = λ k here. at_one end i places h all k here

below : (n end : ℕ) (ls : List Line) (i : ℕ) → i + length ls ≤ end → AreBelow end (places_from i n ls)
below n end [] i h = λ k here. absurd (omega (arith, here))
below n end (l ∷ ls) i h =
    with_one end i (places_from (i + 1) n ls) (eqb (row_of l.name) n) (omega (arith, h)) (below n end ls (i + 1) (omega (arith, h)))

pub within_table : (n k : ℕ) → k < length (places_of n) → get_or (places_of n) k 0 < 61
within_table n k h = below n 61 static_table 0 (omega (arith, static_length)) k h

-- ---- the rows of places
pub row_is : (rows : List (List ℕ)) (n : ℕ) → rows ≡ map places_of (range_with_len 0 64) → n < 64 → get_or rows n [] ≡ places_of n
row_is rows n e h = ap (λ xs. get_or xs n []) e ∙ get_or-map-range_with_len places_of 0 64 n n [] h (omega arith)

-- what stands in a row of places is below 61
pub is_within : (places : List ℕ) (n k p : ℕ) → places ≡ places_of n → k < length places → p ≡ get_or places k 0 → p < 61
is_within places n k p same here is =
    let Q : List ℕ → Type 0 = λ xs. k < length xs → get_or xs k 0 < 61 in
    let low : get_or places k 0 < 61 = subst Q (sym same) (λ h. within_table n k h) here in
    omega (arith, low, is)
