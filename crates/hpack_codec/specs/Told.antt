-- What is told of fields by indexes of the static table.
use Rattle.hpack_codec.specs.Table.{Table, entry_at, line, static_table}
use Rattle.hpack_codec.specs.declared.fields.Field.{Field}
use Rattle.std.specs.Prelude.{IsSomeAnd, List, Some, [], false, length, slice_get, ℕ, ◌%◌, ◌-◌, ◌/◌, ◌<◌, ◌≡◌, ◌≤◌, ◌∷◌}

-- What an octet tells of a field. 0 tells nothing. One up to 128 is the index of the field's name: the static table has it there
-- without a value, and the field has one. One above 128 is 128 and the index of the whole field, as a block spells it.
pub record IsToldBy (octet : ℕ) (f : Field) : Type 0 where
  pub named : 0 < octet → octet ≤ 128 → slice_get static_table (octet - 1) ≡ Some (line f.name [])
  pub valued : 0 < octet → octet ≤ 128 → 0 < length f.value
  pub whole : 128 < octet → slice_get static_table (octet - 129) ≡ Some (line f.name f.value)
  pub plain : 128 < octet → f.never ≡ false

-- the table has the name at the index, unless that is 0
abbrev pub IsNameAt : Table → ℕ → List ℕ → Type 0
IsNameAt t index name = 0 < index → IsSomeAnd (entry_at t index) (λ l. l.name ≡ name)

-- the static table has a name without a value at the index
abbrev pub IsBareAt : ℕ → Type 0
IsBareAt index = (0 < index) × (index ≤ 61) × (name : List ℕ) × (slice_get static_table (index - 1) ≡ Some (line name []))

-- the octets of a word, the lowest first, are beside the first fields of a list
abbrev pub AreTold : ℕ → List Field → Type 0
AreTold word [] = word ≡ 0
AreTold word (f ∷ fields) = IsToldBy (word % 256) f × AreTold (word / 256) fields
