-- How long a block is, and how many fields a list has.
use Rattle.std.proofs.Common.{ℕ, zero, suc, ◌+◌, ◌-◌, ◌*◌, ◌/◌, ◌%◌, ◌^◌, ◌≤◌, Bool, true, false, cond, None, Option, Some, List, [], ◌∷◌, ◌++◌, flat_map, length, arith, length-append}
use Rattle.std.proofs.lemmas.List.Sums.{sum_by-cons}
use Rattle.std.specs.Option.{option_map_or}
use Rattle.std.specs.Prelude.{nat_lt}
use Rattle.hpack_codec.specs.Encoding.{encode_block, encode_field, integer, literal, name_index, plain_string, spelled_name, varint, whole_index}
use Rattle.hpack_codec.specs.Sections.{list_size}
use Rattle.hpack_codec.specs.declared.fields.Field.{Field}
use Rattle.hpack_codec.proofs.CollectedLemmas.{field_size}

-- a choice of two lists is as short as both
shorter : (b : Bool) (xs ys : List ℕ) (n : ℕ) → length xs ≤ n → length ys ≤ n → length (cond b xs ys) ≤ n
shorter true xs ys n first second = first
shorter false xs ys n first second = second

varint_fits : (left n : ℕ) → length (varint left n) ≤ left
unfolding varint
varint_fits zero n = omega arith
varint_fits (suc left) n =
    let next = varint_fits left (n / 128) in
    shorter (nat_lt n 128) (n ∷ []) ((128 + n % 128) ∷ varint left (n / 128)) (suc left) (omega arith) (omega arith)

integer_fits : (prefix pattern n : ℕ) → length (integer prefix pattern n) ≤ 6
unfolding integer
integer_fits prefix pattern n =
    let more = varint_fits 5 (n - (2 ^ prefix - 1)) in
    shorter (nat_lt n (2 ^ prefix - 1)) ((pattern * 2 ^ prefix + n) ∷ []) ((pattern * 2 ^ prefix + (2 ^ prefix - 1)) ∷ varint 5 (n - (2 ^ prefix - 1))) 6 (omega arith) (omega arith)

string_fits : (text : List ℕ) → length (plain_string text) ≤ length text + 6
string_fits text = omega (arith, integer_fits 7 0 (length text), length-append (integer 7 0 (length text)) text)

-- an index, or else something longer
either_fits : (found : Option ℕ) (prefix pattern : ℕ) (other : List ℕ) (n : ℕ) → 6 ≤ n → length other ≤ n → length (option_map_or (λ i. integer prefix pattern i) found other) ≤ n
either_fits (Some i) prefix pattern other n least fits = omega (arith, integer_fits prefix pattern i)
either_fits None prefix pattern other n least fits = fits

name_fits : (pattern : ℕ) (name : List ℕ) → length (spelled_name pattern name) ≤ length name + 12
name_fits pattern name =
    let new : length (integer 4 pattern 0 ++ plain_string name) ≤ length name + 12 =
    omega (arith, integer_fits 4 pattern 0, string_fits name, length-append (integer 4 pattern 0) (plain_string name)) in
    either_fits (name_index name) 4 pattern (integer 4 pattern 0 ++ plain_string name) (length name + 12) (omega arith) new

literal_fits : (f : Field) → length (literal f) ≤ field_size f
literal_fits f =
    let name = spelled_name (cond f.never 1 0) f.name in
    omega (arith, name_fits (cond f.never 1 0) f.name, string_fits f.value, length-append name (plain_string f.value))

field_fits : (f : Field) → length (encode_field f) ≤ field_size f
field_fits f =
    let whole = either_fits (whole_index f) 7 1 (literal f) (field_size f) (omega arith) (literal_fits f) in
    shorter f.never (literal f) (option_map_or (λ i. integer 7 1 i) (whole_index f) (literal f)) (field_size f) (literal_fits f) whole

fields_fit : (fields : List Field) → length (flat_map encode_field fields) ≤ list_size fields
fields_fit [] = omega arith
fields_fit (f ∷ fs) =
    omega (arith, field_fits f, fields_fit fs, sum_by-cons field_size f fs, length-append (encode_field f) (flat_map encode_field fs))

pub block_size : (anew : Bool) (fields : List Field) → length (encode_block anew fields) ≤ list_size fields + 1
block_size anew fields =
    let head : List ℕ = cond anew (32 ∷ []) [] in
    let begun : length head ≤ 1 = shorter anew (32 ∷ []) [] 1 (omega arith) (omega arith) in
    omega (arith, begun, fields_fit fields, length-append head (flat_map encode_field fields))

-- each field counts 32 octets at least
pub few_fields : (fields : List Field) → 32 * length fields ≤ list_size fields
few_fields [] = omega arith
few_fields (f ∷ fs) = omega (arith, few_fields fs, sum_by-cons field_size f fs)
