-- What is told of the fields of a list, and how fields are spelled of which something is told.
use Rattle.std.proofs.Common.{◌≡◌, ℕ, zero, suc, ◌+◌, ◌-◌, ◌*◌, ◌/◌, ◌%◌, ◌^◌, ◌<◌, ◌≤◌, ◌∙◌, Bool, true, false, cond, List, [], ◌∷◌, ◌++◌, length, get_or, map, min, Option, Some, None, refl, subst, sym, ap, arith, codes, eqb, inl, inr, IsSomeAnd}
use Rattle.std.proofs.Math.Pow.{pow_mono}
use Rattle.std.proofs.lemmas.Bool.{cases_lt}
use Rattle.std.proofs.lemmas.List.FromFn.{get_or-map-range_with_len}
use Rattle.std.proofs.lemmas.List.Sums.{sum_by-append, sum_by-cons}
use Rattle.std.proofs.lemmas.Nat.{mul-le, pow-add, shl_whole, shr-shr}
use Rattle.std.proofs.lemmas.Option.{get_or_from_slice_get, slice_get-get_or, none-some, same_Some, slice_get_within}
use Rattle.std.specs.List.{range_with_len, slice_get}
use Rattle.std.specs.Option.{option_map_or}
use Rattle.hpack_codec.specs.Encoding.{encode_field, integer, literal, name_index, plain_string, whole_index}
use Rattle.hpack_codec.specs.Sections.{field_of, list_size}
use Rattle.hpack_codec.specs.Table.{Table, entry_at, line, static_table}
use Rattle.hpack_codec.specs.Told.{AreTold, IsBareAt, IsNameAt, IsToldBy}
use Rattle.hpack_codec.specs.declared.fields.Field.{Field}
use Rattle.hpack_codec.specs.declared.line.Line.{Line}
use Rattle.hpack_codec.proofs.CollectedLemmas.{field_size}
use Rattle.hpack_codec.proofs.Spellings.{integer-long, integer-short, last-varint}
use Rattle.hpack_codec.proofs.StaticPlaces.{entry}
use Rattle.hpack_codec.proofs.StaticRows.{static_at, static_length}

-- ---- octets beside fields
product : (a b : ℕ) → a * (256 * b) ≡ 256 * (a * b)
product a b = grind arith

pow_most : (place : ℕ) → place < 8 → 2 ^ (8 * place) ≤ 2 ^ 56
pow_most place few = pow_mono {i = 8 * place} {j = 56} (omega (arith, few))

pub nothing_told : (f : Field) → IsToldBy 0 f
nothing_told f = record {
  named = λ some. absurd (omega (arith, some));
  valued = λ some. absurd (omega (arith, some));
  whole = λ most. absurd (omega (arith, most));
  plain = λ most. absurd (omega (arith, most));
}

power_more : (k : ℕ) → 2 ^ (8 * suc k) ≡ 256 * 2 ^ (8 * k)
power_more k = ap (λ n. 2 ^ n) (let e : 8 * suc k ≡ 8 + 8 * k = omega arith in e) ∙ pow-add 2 8 (8 * k)

shifted : (word octet k : ℕ) → word + octet * 2 ^ (8 * suc k) ≡ word + 256 * (octet * 2 ^ (8 * k))
shifted word octet k = ap (λ p. word + octet * p) (power_more k) ∙ ap (λ n. word + n) (product octet (2 ^ (8 * k)))

pub told_more : (word : ℕ) (fields : List Field) (f : Field) (octet : ℕ) → octet < 256 → AreTold word fields → IsToldBy octet f → AreTold (word + octet * 2 ^ (8 * length fields)) (fields ++ f ∷ [])
told_more word [] f octet small none one =
    let low : octet ≡ (word + octet * 1) % 256 = omega (arith, none, small) in
    (subst (λ o. IsToldBy o f) low one, (let high : (word + octet * 1) / 256 ≡ 0 = omega (arith, none, small) in high))
told_more word (g ∷ fields) f octet small all one =
    let n = length fields in
    let sum = shifted word octet n in
    let low : word % 256 ≡ (word + octet * 2 ^ (8 * suc n)) % 256 = omega (arith, sum) in
    let high : word / 256 + octet * 2 ^ (8 * n) ≡ (word + octet * 2 ^ (8 * suc n)) / 256 = omega (arith, sum) in
    (subst (λ o. IsToldBy o g) low all.0, subst (λ w. AreTold w (fields ++ f ∷ [])) high (told_more (word / 256) fields f octet small all.1 one))

pub told_past : (word : ℕ) (fields : List Field) (f : Field) → AreTold word fields → AreTold word (fields ++ f ∷ [])
told_past word [] f none =
    let low : 0 ≡ word % 256 = omega (arith, none) in
    (subst (λ o. IsToldBy o f) low (nothing_told f), (let high : word / 256 ≡ 0 = omega (arith, none) in high))
told_past word (g ∷ fields) f all = (all.0, told_past (word / 256) fields f all.1)

pub told_at : (word : ℕ) (fields : List Field) (place : ℕ) (f : Field) → AreTold word fields → slice_get fields place ≡ Some f → IsToldBy (word / 2 ^ (8 * place) % 256) f
told_at word [] place f all found = absurd (none-some _ found)
told_at word (g ∷ fields) zero f all found =
    let low : word % 256 ≡ word / 1 % 256 = omega arith in
    subst (IsToldBy (word / 1 % 256)) (same_Some g f found) (subst (λ o. IsToldBy o g) low all.0)
told_at word (g ∷ fields) (suc place) f all found =
    let here : word / 256 / 2 ^ (8 * place) ≡ word / 2 ^ (8 * suc place) =
    shr-shr word 8 (8 * place) ∙ ap (λ n. word / 2 ^ n) (let e : 8 + 8 * place ≡ 8 * suc place = omega arith in e) in
    subst (λ o. IsToldBy (o % 256) f) here (told_at (word / 256) fields place f all.1 found)

-- the octets of the first fields are low in the word
pub told_below : (word : ℕ) (fields : List Field) → AreTold word fields → word < 2 ^ (8 * length fields)
told_below word [] none = let small : word < 1 = omega (arith, none) in small
told_below word (f ∷ fields) all =
    omega (arith, told_below (word / 256) fields all.1, power_more (length fields))

-- one more has room
pub octet_fits : (octet place : ℕ) → octet < 256 → place < 8 → octet * 2 ^ (8 * place) % 2 ^ 64 ≡ octet * 2 ^ (8 * place)
octet_fits octet place small few = shl_whole octet 8 (8 * place) 64 small (omega (arith, few))

pub word_fits : (word octet place : ℕ) → octet < 256 → place < 8 → word < 2 ^ (8 * place) → word + octet * 2 ^ (8 * place) < 2 ^ 64
word_fits word octet place small few below =
    let k = 2 ^ (8 * place) in
    let most : octet * k ≤ 255 * k = mul-le octet k 255 k (omega (arith, small)) (omega arith) in
    let top : 2 ^ (8 * place) ≤ 2 ^ 56 = pow_most place few in
    omega (arith, most, top, below)

-- ---- what a list counts
pub size_more : (fields : List Field) (f : Field) (all : List Field) (most size old new : ℕ) → all ≡ fields ++ f ∷ [] → size ≡ min (field_size f) most → old ≡ min (list_size fields) most → new ≡ min (old + size) most
    → new ≡ min (list_size all) most
size_more fields f all most size old new is one before after =
    omega (arith, is, one, before, after, ap list_size is, sum_by-append field_size fields (f ∷ []), sum_by-cons field_size f [])

-- ---- a whole field
wholes : map (λ p. whole_index (field_of (entry static_table p) false)) (range_with_len 0 61) ≡ map (λ p. Some (p + 1)) (range_with_len 0 61)
unfolding static_table
wholes = refl

whole_at : (p : ℕ) → p < 61 → whole_index (field_of (entry static_table p) false) ≡ Some (p + 1)
whole_at p h =
    sym (get_or-map-range_with_len (λ q. whole_index (field_of (entry static_table q) false)) 0 61 p p None h (omega arith))
    ∙ ap (λ xs. get_or xs p None) wholes
    ∙ get_or-map-range_with_len (λ (q : ℕ). Some (q + 1)) 0 61 p p None h (omega arith)

whole_indexed : (f : Field) → f.never ≡ false → (p : ℕ) → slice_get static_table p ≡ Some (line f.name f.value) → whole_index f ≡ Some (p + 1)
whole_indexed f plain p found =
    let here : p < 61 = omega (arith, slice_get_within static_table p _ found, static_length) in
    ap (λ l. whole_index (field_of l false)) (sym (get_or_from_slice_get static_table p _ (line [] []) found)) ∙ whole_at p here

pub spells_whole : (f : Field) (octet : ℕ) → IsToldBy octet f → 128 < octet → encode_field f ≡ octet ∷ []
spells_whole f octet told most =
    let p = octet - 129 in
    let here : p < 61 = omega (arith, slice_get_within static_table p _ (told.whole most), static_length) in
    ap (λ b. cond b (literal f) (option_map_or (λ i. integer 7 1 i) (whole_index f) (literal f))) (told.plain most)
    ∙ ap (λ i. option_map_or (λ i. integer 7 1 i) i (literal f)) (whole_indexed f (told.plain most) p (told.whole most))
    ∙ integer-short 7 1 (p + 1) (omega (arith, here))
    ∙ ap (λ n. n ∷ []) (omega (arith, here, most))

-- ---- a name
-- the index of a name whose entry has no value
abbrev name_where_bare : Line → ℕ → Option ℕ
name_where_bare l p = cond (eqb (length l.value) 0) (name_index l.name) (Some (p + 1))

names : map (λ p. name_where_bare (entry static_table p) p) (range_with_len 0 61) ≡ map (λ p. Some (p + 1)) (range_with_len 0 61)
unfolding static_table
names = refl

name_at : (p : ℕ) → p < 61 → name_where_bare (entry static_table p) p ≡ Some (p + 1)
name_at p h =
    sym (get_or-map-range_with_len (λ q. name_where_bare (entry static_table q) q) 0 61 p p None h (omega arith))
    ∙ ap (λ xs. get_or xs p None) names
    ∙ get_or-map-range_with_len (λ (q : ℕ). Some (q + 1)) 0 61 p p None h (omega arith)

-- no entry has the name and a value
abbrev whole_where_bare : Line → ℕ → List ℕ → Option ℕ
whole_where_bare l x xs = cond (eqb (length l.value) 0) (whole_index (field_of (line l.name (x ∷ xs)) false)) None

abbrev none_at : ℕ → Option ℕ
none_at p = None

no_wholes : (x : ℕ) (xs : List ℕ) → map (λ p. whole_where_bare (entry static_table p) x xs) (range_with_len 0 61) ≡ map none_at (range_with_len 0 61)
unfolding static_table
no_wholes x xs = refl

no_whole_at : (x : ℕ) (xs : List ℕ) (p : ℕ) → p < 61 → whole_where_bare (entry static_table p) x xs ≡ None
no_whole_at x xs p h =
    sym (get_or-map-range_with_len (λ q. whole_where_bare (entry static_table q) x xs) 0 61 p p None h (omega arith))
    ∙ ap (λ xs. get_or xs p None) (no_wholes x xs)
    ∙ get_or-map-range_with_len none_at 0 61 p p None h (omega arith)

no_whole : (name value : List ℕ) (p : ℕ) → slice_get static_table p ≡ Some (line name []) → 0 < length value → whole_index (field_of (line name value) false) ≡ None
no_whole name [] p found some = absurd (omega (arith, some))
no_whole name (x ∷ xs) p found some =
    let here : p < 61 = omega (arith, slice_get_within static_table p _ found, static_length) in
    ap (λ l. whole_where_bare l x xs) (sym (get_or_from_slice_get static_table p _ (line [] []) found)) ∙ no_whole_at x xs p here

-- such an index is within the table
pub named_below : (f : Field) (octet : ℕ) → IsToldBy octet f → 0 < octet → octet ≤ 128 → octet ≤ 61
named_below f octet told some less = omega (arith, slice_get_within static_table (octet - 1) _ (told.named some less), static_length, some)

pub indexes_name : (f : Field) (octet : ℕ) → IsToldBy octet f → 0 < octet → octet ≤ 128 → Some octet ≡ name_index f.name
indexes_name f octet told some less =
    let p = octet - 1 in
    let found = told.named some less in
    let here : p < 61 = omega (arith, slice_get_within static_table p _ found, static_length) in
    sym (ap (λ l. name_where_bare l p) (sym (get_or_from_slice_get static_table p _ (line [] []) found)) ∙ name_at p here ∙ ap Some (omega (arith, some)))

either : (b : Bool) (xs ys : List ℕ) → xs ≡ ys → cond b xs ys ≡ xs
either true xs ys same = refl
either false xs ys same = sym same

pub spells_literal : (f : Field) (octet : ℕ) → IsToldBy octet f → 0 < octet → octet ≤ 128 → encode_field f ≡ literal f
spells_literal f octet told some less =
    let none : whole_index f ≡ None = no_whole f.name f.value (octet - 1) (told.named some less) (told.valued some less) in
    either f.never (literal f) (option_map_or (λ i. integer 7 1 i) (whole_index f) (literal f)) (sym (ap (λ i. option_map_or (λ i. integer 7 1 i) i (literal f)) none))

-- ---- what an index tells
pub some_index : (t : Table) (index : ℕ) (l : Line) → entry_at t index ≡ Some l → 0 < index
some_index t zero l found = absurd (none-some _ found)
some_index t (suc i) l found = omega arith

-- the static table has the name that the index is of
pub named_bare : (t : Table) (index : ℕ) (name first value : List ℕ) → IsNameAt t index name → 0 < index → index ≤ 61 → slice_get static_table (index - 1) ≡ Some (line first value) → value ≡ []
    → slice_get static_table (index - 1) ≡ Some (line name [])
named_bare t index name first value named some within found none =
    let there : entry_at t index ≡ Some (line first value) = static_at t index some within ∙ found in
    let same : first ≡ name = subst (λ o. IsSomeAnd o (λ l. l.name ≡ name)) there (named some) in
    found ∙ ap (λ n. Some (line n value)) same ∙ ap (λ v. Some (line name v)) none

pub told_by_whole : (index : ℕ) (l : Line) → 0 < index → index ≤ 61 → slice_get static_table (index - 1) ≡ Some l → IsToldBy (128 + index) (field_of l false)
told_by_whole index l some within found = record {
  named = λ more less. absurd (omega (arith, less));
  valued = λ more less. absurd (omega (arith, less));
  whole = λ most. ap (slice_get static_table) (omega (arith, some)) ∙ found;
  plain = λ most. refl;
}

pub told_by_name : (index : ℕ) (f : Field) → 0 < index → index ≤ 61 → 0 < length f.value → slice_get static_table (index - 1) ≡ Some (line f.name []) → IsToldBy index f
told_by_name index f some within value found = record {
  named = λ more less. found;
  valued = λ more less. value;
  whole = λ most. absurd (omega (arith, most, within));
  plain = λ most. absurd (omega (arith, most, within));
}

-- the entries from 17 on have no values
abbrev value_of_entry : ℕ → List ℕ
value_of_entry p = (entry static_table (16 + p)).value

bares : map value_of_entry (range_with_len 0 45) ≡ map (λ p. []) (range_with_len 0 45)
unfolding static_table
bares = refl

abbrev no_value : ℕ → List ℕ
no_value p = []

bare_entry : (p : ℕ) → p < 45 → value_of_entry p ≡ []
bare_entry p h =
    sym (get_or-map-range_with_len value_of_entry 0 45 p p [] h (omega arith))
    ∙ ap (λ xs. get_or xs p []) bares
    ∙ get_or-map-range_with_len no_value 0 45 p p [] h (omega arith)

bare_there : (p : ℕ) → p < 61 → (entry static_table p).value ≡ [] → slice_get static_table p ≡ Some (line (entry static_table p).name [])
bare_there p h none = slice_get-get_or static_table p (line [] []) (omega (arith, h, static_length)) ∙ ap (λ v. Some (line (entry static_table p).name v)) none

pub first_bare : IsBareAt 1
unfolding static_table
first_bare = (omega arith, omega arith, codes ":authority", refl)

pub high_bare : (index : ℕ) → 17 ≤ index → index ≤ 61 → IsBareAt index
high_bare index least most =
    let p = index - 17 in
    let at : 16 + p ≡ index - 1 = omega (arith, least) in
    let there = bare_there (16 + p) (omega (arith, least, most)) (bare_entry p (omega (arith, least, most))) in
    (omega (arith, least), most, (entry static_table (16 + p)).name, (ap (slice_get static_table) (sym at) ∙ there))

-- what is told by the index of a name without a value
pub told_by_bare : (t : Table) (index : ℕ) (f : Field) → IsBareAt index → 0 < length f.value → IsNameAt t index f.name → IsToldBy index f
told_by_bare t index f bare value named =
    told_by_name index f bare.0 bare.1 value (named_bare t index f.name bare.2 [] named bare.0 bare.1 bare.3 refl)

-- ---- a literal by the index of its name, with a short value
spelled_by : (f : Field) (index : ℕ) (front : List ℕ) → Some index ≡ name_index f.name → length f.value < 127 → integer 4 (cond f.never 1 0) index ≡ front → literal f ≡ front ++ length f.value ∷ f.value
spelled_by f index front named short is =
    ap (λ o. option_map_or (λ i. integer 4 (cond f.never 1 0) i) o (integer 4 (cond f.never 1 0) 0 ++ plain_string f.name) ++ plain_string f.value) (sym named)
    ∙ ap (λ xs. xs ++ plain_string f.value) is
    ∙ ap (λ xs. front ++ (xs ++ f.value)) (integer-short 7 0 (length f.value) short ∙ ap (λ n. n ∷ []) (let same : 0 * 2 ^ 7 + length f.value ≡ length f.value = omega arith in same))

spelled_low : (f : Field) (index : ℕ) → Some index ≡ name_index f.name → length f.value < 127 → index < 15 → literal f ≡ (cond f.never 1 0 * 16 + index) ∷ length f.value ∷ f.value
spelled_low f index named short low =
    spelled_by f index ((cond f.never 1 0 * 16 + index) ∷ []) named short (integer-short 4 (cond f.never 1 0) index low)

spelled_high : (f : Field) (index : ℕ) → Some index ≡ name_index f.name → length f.value < 127 → 15 ≤ index → index < 127 → literal f ≡ (cond f.never 1 0 * 16 + 15) ∷ (index - 15) ∷ length f.value ∷ f.value
spelled_high f index named short high few =
    spelled_by f index ((cond f.never 1 0 * 16 + 15) ∷ (index - 15) ∷ []) named short
    (integer-long 4 (cond f.never 1 0) index high ∙ ap (λ xs. (cond f.never 1 0 * 16 + 15) ∷ xs) (last-varint 5 (index - 15) (omega (arith, high, few)) (omega arith)))

pub written_low : (f : Field) (index pattern : ℕ) (value : List ℕ) → pattern ≡ cond f.never 1 0 → value ≡ f.value → Some index ≡ name_index f.name → length f.value < 127 → index < 15
    → (16 * pattern + index) ∷ length value ∷ value ≡ literal f
written_low f index pattern value p v named short low =
    let first : 16 * pattern + index ≡ cond f.never 1 0 * 16 + index = omega (arith, p) in
    ap (λ n. n ∷ length value ∷ value) first ∙ ap (λ xs. (cond f.never 1 0 * 16 + index) ∷ length xs ∷ xs) v ∙ sym (spelled_low f index named short low)

pub written_high : (f : Field) (index pattern : ℕ) (value : List ℕ) → pattern ≡ cond f.never 1 0 → value ≡ f.value → Some index ≡ name_index f.name → length f.value < 127 → 15 ≤ index → index < 127
    → (16 * pattern + 15) ∷ (index - 15) ∷ length value ∷ value ≡ literal f
written_high f index pattern value p v named short high few =
    let first : 16 * pattern + 15 ≡ cond f.never 1 0 * 16 + 15 = omega (arith, p) in
    ap (λ n. n ∷ (index - 15) ∷ length value ∷ value) first ∙ ap (λ xs. (cond f.never 1 0 * 16 + 15) ∷ (index - 15) ∷ length xs ∷ xs) v ∙ sym (spelled_high f index named short high few)

-- ---- what is told of names and values
told_line : (octet : ℕ) (f : Field) → IsToldBy octet f → 0 < octet % 128 → (value : List ℕ) × (slice_get static_table (octet % 128 - 1) ≡ Some (line f.name value))
told_line octet f told some = elim (cases_lt 128 octet) [
  | inl most ↦
      let within : octet - 129 < 61 = omega (arith, slice_get_within static_table (octet - 129) _ (told.whole most), static_length) in
      (f.value, ap (slice_get static_table) (let e : octet % 128 - 1 ≡ octet - 129 = omega (arith, within, most) in e) ∙ told.whole most)
  | inr least ↦
      ([], ap (slice_get static_table) (let e : octet % 128 - 1 ≡ octet - 1 = omega (arith, some, least) in e) ∙ told.named (omega (arith, some)) least)
]

-- the name of the entry that is told is the field's
pub told_name_is : (octet : ℕ) (f : Field) → IsToldBy octet f → 0 < octet % 128 → (entry static_table (octet % 128 - 1)).name ≡ f.name
told_name_is octet f told some =
    let l = told_line octet f told some in
    ap (λ e. e.name) (get_or_from_slice_get static_table (octet % 128 - 1) (line f.name l.0) (line [] []) l.1)

-- and so is its value, where the whole is told
pub told_value_is : (octet : ℕ) (f : Field) → IsToldBy octet f → 128 < octet → (octet - 129 < 61) × ((entry static_table (octet - 129)).value ≡ f.value)
told_value_is octet f told most = (
  omega (arith, slice_get_within static_table (octet - 129) _ (told.whole most), static_length),
  ap (λ e. e.value) (get_or_from_slice_get static_table (octet - 129) (line f.name f.value) (line [] []) (told.whole most)),
)
