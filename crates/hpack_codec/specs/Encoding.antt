-- The one spelling that this side gives a field list: no dynamic table, and no coded strings.
use Rattle.std.specs.Str.{bytes_eq}
use Rattle.hpack_codec.specs.Table.{static_table}
use Rattle.hpack_codec.specs.declared.line.Line.{Line}
use Rattle.hpack_codec.specs.declared.fields.Field.{Field}
use Rattle.std.specs.Option.{option_map_or}
use Rattle.std.specs.Prelude.{Bool, List, None, Option, Some, [], flat_map, if◌then◌else◌, length, nat_lt, suc, zero, ℕ, ◌%◌, ◌&&◌, ◌*◌, ◌++◌, ◌+◌, ◌-◌, ◌/◌, ◌<◌, ◌^◌, ◌∷◌}

-- the rest of an integer that doesn't fit its prefix, in at most so many octets
unfoldable pub varint : ℕ → ℕ → List ℕ
varint zero n = []
varint (suc k) n = if nat_lt n 128 then n ∷ [] else (128 + n % 128) ∷ varint k (n / 128)

-- an integer behind a pattern
unfoldable pub integer : ℕ → ℕ → ℕ → List ℕ
integer prefix pattern n =
    if nat_lt n (2 ^ prefix - 1) then (pattern * 2 ^ prefix + n) ∷ []
    else (pattern * 2 ^ prefix + (2 ^ prefix - 1)) ∷ varint 5 (n - (2 ^ prefix - 1))

-- a string that isn't in the Huffman code
abbrev pub plain_string : List ℕ → List ℕ
plain_string text = integer 7 0 (length text) ++ text

-- the lowest index, from i on, of an entry that passes
abbrev pub index_from : ℕ → (Line → Bool) → List Line → Option ℕ
index_from i passes [] = None
index_from i passes (l ∷ ls) = if passes l then Some i else index_from (i + 1) passes ls

abbrev pub whole_index : Field → Option ℕ
whole_index f = index_from 1 (λ l. bytes_eq l.name f.name && bytes_eq l.value f.value) static_table

abbrev pub name_index : List ℕ → Option ℕ
name_index name = index_from 1 (λ l. bytes_eq l.name name) static_table

-- the name of a literal: an index, or 0 and a string
abbrev pub spelled_name : ℕ → List ℕ → List ℕ
spelled_name pattern name = option_map_or (λ i. integer 4 pattern i) (name_index name) (integer 4 pattern 0 ++ plain_string name)

-- a literal without indexing, or never indexed
abbrev pub literal : Field → List ℕ
literal f = spelled_name (if f.never then 1 else 0) f.name ++ plain_string f.value

abbrev pub encode_field : Field → List ℕ
encode_field f = if f.never then literal f else option_map_or (λ i. integer 7 1 i) (whole_index f) (literal f)

-- a block that begins anew first sets the table's size to 0
abbrev pub encode_block : Bool → List Field → List ℕ
encode_block anew fields = (if anew then 32 ∷ [] else []) ++ flat_map encode_field fields

-- a field that has a spelling: the lengths of its strings are integers
pub record HasSpelling (f : Field) : Type 0 where
  pub name : length f.name < 2 ^ 32
  pub value : length f.value < 2 ^ 32
