-- What is written is read as the same fields.
use Rattle.std.proofs.Common.{◌≡◌, ℕ, zero, suc, ◌+◌, ◌-◌, ◌*◌, ◌/◌, ◌%◌, ◌^◌, ◌<◌, ◌≤◌, ◌∙◌, ◌&&◌, Bool, true, false, cond, leb, List, [], ◌∷◌, ◌++◌, length, get_or, flat_map, Option, Some, None, refl, sym, ap, subst, arith, append_assoc, inl, inr}
use Rattle.std.proofs.lemmas.Bool.{and_parts, cases_lt, le-leb, lt-leb}
use Rattle.std.proofs.lemmas.List.{append-nil}
use Rattle.std.proofs.lemmas.Nat.{mod_low, pow_pos}
use Rattle.std.proofs.lemmas.Slice.Eq.{bytes_eq-Decides}
use Rattle.std.specs.List.{AllByRecursion, slice_get}
use Rattle.std.specs.Option.{option_map_or, IsSomeAnd}
use Rattle.std.specs.Str.{bytes_eq}
use Rattle.hpack_codec.specs.Encoding.{encode_block, encode_field, index_from, integer, literal, name_index, plain_string, spelled_name, varint, whole_index, HasSpelling}
use Rattle.hpack_codec.specs.Integers.{value_of, IsInteger}
use Rattle.hpack_codec.specs.Sections.{field_of, form_of, literal_form, reading, IsLiteral, IsName, Reading, ReadsForm, ReadsPiece, Runs, SpellsBlock}
use Rattle.hpack_codec.specs.Strings.{is_coded, IsString, Says}
use Rattle.hpack_codec.specs.Table.{entry_at, line, resized, static_table, Table}
use Rattle.hpack_codec.specs.declared.fields.Field.{Field}
use Rattle.hpack_codec.specs.declared.form.Form.{Form}
use Rattle.hpack_codec.specs.declared.form.Form.TheVariants.{Indexed, WithIndexing, SizeUpdate, NeverIndexed, WithoutIndexing}
use Rattle.hpack_codec.specs.declared.line.Line.{Line}
use Rattle.hpack_codec.proofs.IntegerLemmas.{Onward, value-push}
use Rattle.hpack_codec.proofs.Spellings.{integer-long, integer-short, last-varint, next-varint, smaller, some_left}
use Rattle.hpack_codec.proofs.StaticRows.{slice_get-left}

-- ---- integers

-- octets that go on up to the last, and the number that they stand for
pub record Spelled (octets : List ℕ) (n left : ℕ) : Type 0 where
  pub more : List ℕ
  pub last : ℕ
  pub whole : octets ≡ more ++ last ∷ []
  pub onward : Onward more
  pub ends : last < 128
  pub few : length more < left
  pub value : value_of (more ++ last ∷ []) ≡ n

varint_spells : (left n : ℕ) → 0 < left → n < 2 ^ (7 * left) → Spelled (varint left n) n left
varint_spells zero n some fits = absurd (omega arith)
varint_spells (suc left) n some fits = elim (cases_lt n 128) [
  | inl last ↦ record { more = []; last = n; whole = last-varint (suc left) n last some; onward = tt; ends = last; few = omega arith; value = omega arith }
  | inr more ↦ (let r = varint_spells left (n / 128) (some_left left n more fits) (smaller left n fits) in record {
    more = (128 + n % 128) ∷ r.more;
    last = r.last;
    whole = next-varint left n more ∙ ap (λ x. (128 + n % 128) ∷ x) r.whole;
    onward = (omega arith, r.onward);
    ends = r.ends;
    few = omega (arith, r.few);
    value = omega (arith, r.value);
  })
]

value-le : (more : List ℕ) (last : ℕ) → value_of more ≤ value_of (more ++ last ∷ [])
value-le more last = let e = value-push more last (length more) refl in omega arith

pub integer_reads : (prefix pattern n : ℕ) (rest : List ℕ) → n < 2 ^ 32 → IsInteger prefix (integer prefix pattern n ++ rest) n rest
integer_reads prefix pattern n rest small = elim (cases_lt n (2 ^ prefix - 1)) [
  | inl short ↦ inl (record {
    first = pattern * 2 ^ prefix + n;
    whole = ap (λ x. x ++ rest) (integer-short prefix pattern n short);
    value = sym (mod_low pattern prefix n (omega arith));
    fits = short;
  })
  | inr long ↦ (let p = pow_pos prefix in
      let m = n - (2 ^ prefix - 1) in
      let s = varint_spells 5 m (omega arith) (omega arith) in
      let first = pattern * 2 ^ prefix + (2 ^ prefix - 1) in
      let le = value-le s.more s.last in
      inr (record {
        first = first;
        more = s.more;
        last = s.last;
        whole =
            ap (λ x. x ++ rest) (integer-long prefix pattern n long ∙ ap (λ x. first ∷ x) s.whole)
            ∙ ap (λ x. first ∷ x) (append_assoc s.more (s.last ∷ []) rest);
        begun = record {
          is_full = mod_low pattern prefix (2 ^ prefix - 1) (omega arith);
          onward = s.onward;
          few = s.few;
          small = omega (arith, s.value);
        };
        ends = s.ends;
        value = omega (arith, s.value);
        fits = small;
      }))
]

-- the first octet of an integer
pub record Begins (octets : List ℕ) (from below : ℕ) : Type 0 where
  pub above : from ≤ get_or octets 0 0
  pub under : get_or octets 0 0 < below

begins_as : (octets others : List ℕ) (from below : ℕ) → octets ≡ others → Begins others from below → Begins octets from below
begins_as octets others from below e b = let P : List ℕ → Type 0 = λ x. Begins x from below in subst P (sym e) b

pub begins : (prefix pattern n : ℕ) (rest : List ℕ) → Begins (integer prefix pattern n ++ rest) (pattern * 2 ^ prefix) (pattern * 2 ^ prefix + 2 ^ prefix)
begins prefix pattern n rest = let p = pow_pos prefix in elim (cases_lt n (2 ^ prefix - 1)) [
  | inl short ↦ begins_as (integer prefix pattern n ++ rest) ((pattern * 2 ^ prefix + n) ∷ rest) (pattern * 2 ^ prefix) (pattern * 2 ^ prefix + 2 ^ prefix)
      (ap (λ x. x ++ rest) (integer-short prefix pattern n short)) (record { above = omega arith; under = omega arith })
  | inr long ↦ begins_as (integer prefix pattern n ++ rest) ((pattern * 2 ^ prefix + (2 ^ prefix - 1)) ∷ (varint 5 (n - (2 ^ prefix - 1)) ++ rest)) (pattern * 2 ^ prefix) (pattern * 2 ^ prefix + 2 ^ prefix)
      (ap (λ x. x ++ rest) (integer-long prefix pattern n long)) (record { above = omega arith; under = omega arith })
]

-- ---- strings
plain : (octets : List ℕ) → get_or octets 0 0 < 128 → is_coded octets ≡ false
plain [] h = refl
plain (b ∷ more) h = lt-leb 128 b h

pub string_reads : (text rest : List ℕ) → length text < 2 ^ 32 → IsString (plain_string text ++ rest) text rest
string_reads text rest small =
    let e = append_assoc (integer 7 0 (length text)) text rest in
    let P : List ℕ → Type 0 = λ x. IsInteger 7 x (length text) (text ++ rest) in
    let b = begins_as (plain_string text ++ rest) (integer 7 0 (length text) ++ (text ++ rest)) (0 * 2 ^ 7) (0 * 2 ^ 7 + 2 ^ 7) e (begins 7 0 (length text) (text ++ rest)) in
    let Q : Bool → Type 0 = λ coded. Says coded text text in
    record {
      body = text;
      sized = subst P (sym e) (integer_reads 7 0 (length text) (text ++ rest) small);
      says = subst Q (sym (plain (plain_string text ++ rest) (omega (arith, b.under)))) refl;
    }

-- ---- names

-- the entry that a search finds
pub record Finds (passes : Line → Bool) (lines : List Line) (place : ℕ) : Type 0 where
  pub entry : Line
  pub here : slice_get lines place ≡ Some entry
  pub passed : passes entry ≡ true
  pub within : place < length lines

finds : (passes : Line → Bool) (lines : List Line) (i index : ℕ) → index_from i passes lines ≡ Some index → (place : ℕ) × (index ≡ i + place) × Finds passes lines place
finds passes [] i index e = cc
finds passes (l ∷ lines) i index e =
    let P : Bool → Type 0 = λ b. passes l ≡ b → cond b (Some i) (index_from (i + 1) passes lines) ≡ Some index → (place : ℕ) × (index ≡ i + place) × Finds passes (l ∷ lines) place in
    let by : (b : Bool) → P b = λ b. elim b as P [
      | true ↦ (λ holds same. let at : i ≡ index = cc in (0, omega arith, record { entry = l; here = refl; passed = holds; within = omega arith }))
      | false ↦ (λ fails same. let r = finds passes lines (i + 1) index same in
          (suc r.0, omega (arith, r.1), record { entry = r.2.entry; here = r.2.here; passed = r.2.passed; within = omega (arith, r.2.within) }))
    ] in
    by (passes l) refl e

static_found : (passes : Line → Bool) (t : Table) (index : ℕ) → index_from 1 passes static_table ≡ Some index → (l : Line) × (entry_at t index ≡ Some l) × (passes l ≡ true) × (0 < index) × (index < 2 ^ 32)
static_found passes t index e =
    let f = finds passes static_table 1 index e in
    let at : index ≡ suc f.0 = omega (arith, f.1) in
    let few : length static_table ≡ 61 = unfold static_table in refl in
    (f.2.entry, ap (entry_at t) at ∙ slice_get-left static_table t.lines f.0 f.2.within ∙ f.2.here, f.2.passed, omega arith, omega (arith, f.2.within))

same_text : (xs ys : List ℕ) → bytes_eq xs ys ≡ true → xs ≡ ys
same_text xs ys h = (bytes_eq-Decides xs ys).0 h

name_by : (t : Table) (pattern : ℕ) (name rest : List ℕ) (found : Option ℕ) → length name < 2 ^ 32 → name_index name ≡ found → IsName 4 t (option_map_or (λ i. integer 4 pattern i) found (integer 4 pattern 0 ++ plain_string name) ++ rest) name rest
name_by t pattern name rest (Some index) small e =
    let f = static_found (λ l. bytes_eq l.name name) t index e in
    let P : Option Line → Type 0 = λ o. IsSomeAnd o (λ l. l.name ≡ name) in
    inl (record {
      index = index;
      spelled = integer_reads 4 pattern index rest f.4;
      some = f.3;
      entry = subst P (sym f.1) (same_text f.0.name name f.2);
    })
name_by t pattern name rest None small e =
    let assoc = append_assoc (integer 4 pattern 0) (plain_string name) rest in
    let P : List ℕ → Type 0 = λ x. IsInteger 4 x 0 (plain_string name ++ rest) in
    inr (record {
      behind = plain_string name ++ rest;
      zero = subst P (sym assoc) (integer_reads 4 pattern 0 (plain_string name ++ rest) (omega arith));
      spelled = string_reads name rest small;
    })

name_begins : (pattern : ℕ) (name rest : List ℕ) (found : Option ℕ) → Begins (option_map_or (λ i. integer 4 pattern i) found (integer 4 pattern 0 ++ plain_string name) ++ rest) (pattern * 2 ^ 4) (pattern * 2 ^ 4 + 2 ^ 4)
name_begins pattern name rest (Some index) = begins 4 pattern index rest
name_begins pattern name rest None =
    begins_as _ (integer 4 pattern 0 ++ (plain_string name ++ rest)) (pattern * 2 ^ 4) (pattern * 2 ^ 4 + 2 ^ 4) (append_assoc (integer 4 pattern 0) (plain_string name) rest) (begins 4 pattern 0 (plain_string name ++ rest))

-- ---- fields
abbrev pub pattern_of : Bool → ℕ
pattern_of never = cond never 1 0

literal_reads : (t : Table) (f : Field) (rest : List ℕ) → HasSpelling f → IsLiteral 4 t (literal f ++ rest) (line f.name f.value) rest
literal_reads t f rest h =
    let assoc = append_assoc (spelled_name (pattern_of f.never) f.name) (plain_string f.value) rest in
    let P : List ℕ → Type 0 = λ x. IsName 4 t x f.name (plain_string f.value ++ rest) in
    record {
      behind = plain_string f.value ++ rest;
      name = subst P (sym assoc) (name_by t (pattern_of f.never) f.name (plain_string f.value ++ rest) (name_index f.name) h.name refl);
      value = string_reads f.value rest h.value;
    }

literal_begins : (f : Field) (rest : List ℕ) → Begins (literal f ++ rest) (pattern_of f.never * 2 ^ 4) (pattern_of f.never * 2 ^ 4 + 2 ^ 4)
literal_begins f rest =
    begins_as (literal f ++ rest) (spelled_name (pattern_of f.never) f.name ++ (plain_string f.value ++ rest)) (pattern_of f.never * 2 ^ 4) (pattern_of f.never * 2 ^ 4 + 2 ^ 4)
    (append_assoc (spelled_name (pattern_of f.never) f.name) (plain_string f.value) rest)
    (name_begins (pattern_of f.never) f.name (plain_string f.value ++ rest) (name_index f.name))

-- the form by tests
form_indexed : (x : ℕ) → 128 ≤ x → form_of x ≡ Indexed
form_indexed x h = ap (λ b. cond b Indexed (cond (leb 64 x) WithIndexing (cond (leb 32 x) SizeUpdate (cond (leb 16 x) NeverIndexed WithoutIndexing)))) (le-leb 128 x h)

below_update : (x : ℕ) → x < 32 → form_of x ≡ cond (leb 16 x) NeverIndexed WithoutIndexing
below_update x h =
    ap (λ b. cond b Indexed (cond (leb 64 x) WithIndexing (cond (leb 32 x) SizeUpdate (cond (leb 16 x) NeverIndexed WithoutIndexing)))) (lt-leb 128 x (omega arith))
    ∙ ap (λ b. cond b WithIndexing (cond (leb 32 x) SizeUpdate (cond (leb 16 x) NeverIndexed WithoutIndexing))) (lt-leb 64 x (omega arith))
    ∙ ap (λ b. cond b SizeUpdate (cond (leb 16 x) NeverIndexed WithoutIndexing)) (lt-leb 32 x h)

form_literal : (never : Bool) (octets : List ℕ) → Begins octets (pattern_of never * 2 ^ 4) (pattern_of never * 2 ^ 4 + 2 ^ 4) → form_of (get_or octets 0 0) ≡ literal_form never
form_literal true octets b = below_update (get_or octets 0 0) (omega (arith, b.under)) ∙ ap (λ t. cond t NeverIndexed WithoutIndexing) (le-leb 16 (get_or octets 0 0) (omega (arith, b.above)))
form_literal false octets b = below_update (get_or octets 0 0) (omega (arith, b.under)) ∙ ap (λ t. cond t NeverIndexed WithoutIndexing) (lt-leb 16 (get_or octets 0 0) (omega (arith, b.under)))

with_literal : (never : Bool) (greatest : ℕ) (t : Table) (done : List Field) (octets rest : List ℕ) (l : Line) → form_of (get_or octets 0 0) ≡ literal_form never → IsLiteral 4 t octets l rest → ReadsPiece greatest (reading t done) octets (reading t (done ++ field_of l never ∷ [])) rest
with_literal never greatest t done octets rest l form is =
    let P : Form → Type 0 = λ x. ReadsForm x greatest (reading t done) octets (reading t (done ++ field_of l never ∷ [])) rest in
    let by : (n : Bool) → ReadsForm (literal_form n) greatest (reading t done) octets (reading t (done ++ field_of l n ∷ [])) rest =
    λ n. elim n as (λ n. ReadsForm (literal_form n) greatest (reading t done) octets (reading t (done ++ field_of l n ∷ [])) rest) [ true ↦ (l, is, refl) | false ↦ (l, is, refl) ] in
    subst P (sym form) (by never)

literal_piece : (greatest : ℕ) (t : Table) (done : List Field) (f : Field) (rest : List ℕ) → HasSpelling f → ReadsPiece greatest (reading t done) (literal f ++ rest) (reading t (done ++ f ∷ [])) rest
literal_piece greatest t done f rest h =
    with_literal f.never greatest t done (literal f ++ rest) rest (line f.name f.value) (form_literal f.never (literal f ++ rest) (literal_begins f rest)) (literal_reads t f rest h)

whole_piece : (greatest : ℕ) (t : Table) (done : List Field) (f : Field) (rest : List ℕ) (found : Option ℕ) → HasSpelling f → f.never ≡ false → whole_index f ≡ found → ReadsPiece greatest (reading t done) (option_map_or (λ i. integer 7 1 i) found (literal f) ++ rest) (reading t (done ++ f ∷ [])) rest
whole_piece greatest t done f rest None h never e = literal_piece greatest t done f rest h
whole_piece greatest t done f rest (Some index) h never e =
    let found = static_found (λ l. bytes_eq l.name f.name && bytes_eq l.value f.value) t index e in
    let parts = and_parts _ _ found.2 in
    let l = found.0 in
    let b = begins 7 1 index rest in
    let same : field_of l false ≡ f =
    ap (λ n. field_of (line n l.value) false) (same_text l.name f.name parts.0) ∙ ap (λ v. field_of (line f.name v) false) (same_text l.value f.value parts.1) ∙ ap (λ n. field_of (line f.name f.value) n) (sym never) in
    let P : Form → Type 0 = λ x. ReadsForm x greatest (reading t done) (integer 7 1 index ++ rest) (reading t (done ++ f ∷ [])) rest in
    subst P (sym (form_indexed (get_or (integer 7 1 index ++ rest) 0 0) (omega (arith, b.above)))) (
      l,
      record { index = index; spelled = integer_reads 7 1 index rest found.4; entry = found.1 },
      ap (λ x. reading t (done ++ x ∷ [])) (sym same),
    )

field_by : (never : Bool) (greatest : ℕ) (t : Table) (done : List Field) (f : Field) (rest : List ℕ) → HasSpelling f → f.never ≡ never → ReadsPiece greatest (reading t done) (cond never (literal f) (option_map_or (λ i. integer 7 1 i) (whole_index f) (literal f)) ++ rest) (reading t (done ++ f ∷ [])) rest
field_by true greatest t done f rest h e = literal_piece greatest t done f rest h
field_by false greatest t done f rest h e = whole_piece greatest t done f rest (whole_index f) h e refl

-- ---- blocks
pub each : {X : Type 0} (P : X → Type 0) (xs : List X) → ((k : ℕ) (d : X) → k < length xs → P (get_or xs k d)) → AllByRecursion P xs
each P [] all = tt
each P (x ∷ xs) all = (all 0 x (omega arith), each P xs (λ k d h. all (suc k) d (omega arith)))

pub fields_run : (greatest : ℕ) (t : Table) (done fields : List Field) → AllByRecursion HasSpelling fields → (readings : List Reading) × Runs greatest (reading t done) (flat_map encode_field fields) readings (reading t (done ++ fields)) []
fields_run greatest t done [] h = ([], (ap (reading t) (sym (append-nil done)), refl))
fields_run greatest t done (f ∷ fields) h =
    let r = fields_run greatest t (done ++ f ∷ []) fields h.1 in
    let P : List Field → Type 0 = λ x. Runs greatest (reading t (done ++ f ∷ [])) (flat_map encode_field fields) r.0 (reading t x) [] in
    (reading t (done ++ f ∷ []) ∷ r.0, (flat_map encode_field fields, field_by f.never greatest t done f (flat_map encode_field fields) h.0 refl, subst P (append_assoc done (f ∷ []) fields) r.1))

pub block_reads : (anew : Bool) (greatest : ℕ) (before : Table) (fields : List Field) → AllByRecursion HasSpelling fields → SpellsBlock greatest (encode_block anew fields) before fields (cond anew (resized 0 before) before)
block_reads false greatest before fields h = fields_run greatest before [] fields h
block_reads true greatest before fields h =
    let r = fields_run greatest (resized 0 before) [] fields h in
    let rest = flat_map encode_field fields in
    (reading (resized 0 before) [] ∷ r.0, (rest, (0, inl (record { first = 32; whole = refl; value = refl; fits = omega arith }), omega arith, refl, refl), r.1))
