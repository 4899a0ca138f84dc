-- Which fields a block spells, and how it changes the dynamic table (RFC 7541 sections 3.2 and 6).
use Rattle.std.specs.Prelude.{◌≡◌, ◌⊎◌, ℕ, ◌+◌, ◌<◌, ◌≤◌, Bool, true, false, List, [], ◌∷◌, ◌++◌, length, None, Some, Result, Ok, Err, IsSomeAnd, nat_le, slice_index, sum_by, if◌then◌else◌}
use Rattle.hpack_codec.specs.Integers.{IsInteger, BreaksInteger}
use Rattle.hpack_codec.specs.Strings.{IsString, BreaksString}
use Rattle.hpack_codec.specs.Table.{Table, added, entry_at, resized}
use Rattle.hpack_codec.specs.declared.fault.HpackFault.{HpackFault}
use Rattle.hpack_codec.specs.declared.fault.HpackFault.TheVariants.{BadIndex, BadUpdate}
use Rattle.hpack_codec.specs.declared.fields.Field.{Field}
use Rattle.hpack_codec.specs.declared.form.Form.{Form}
use Rattle.hpack_codec.specs.declared.form.Form.TheVariants.{Indexed, WithIndexing, SizeUpdate, NeverIndexed, WithoutIndexing}
use Rattle.hpack_codec.specs.declared.line.Line.{Line}

-- the form of a representation, by the first bits of its first octet: 1, 01, 001, 0001 or 0000
abbrev pub form_of : ℕ → Form
form_of first =
    if nat_le 128 first then Indexed
    else if nat_le 64 first then WithIndexing
    else if nat_le 32 first then SizeUpdate
    else if nat_le 16 first then NeverIndexed
    else WithoutIndexing

-- the form of a literal that changes no table
abbrev pub literal_form : Bool → Form
literal_form true = NeverIndexed
literal_form false = WithoutIndexing

-- ---- what a representation names, and the rest behind it

-- an entry of the tables, by its index (section 6.1)
pub record IsIndexed (t : Table) (octets : List ℕ) (l : Line) (rest : List ℕ) : Type 0 where
  pub index : ℕ
  pub spelled : IsInteger 7 octets index rest
  pub entry : entry_at t index ≡ Some l

-- the name of the entry at an index, which isn't 0
pub record IsIndexedName (prefix : ℕ) (t : Table) (octets name rest : List ℕ) : Type 0 where
  pub index : ℕ
  pub spelled : IsInteger prefix octets index rest
  pub some : 0 < index
  pub entry : IsSomeAnd (entry_at t index) (λ l. l.name ≡ name)

-- a name of its own, a string behind the index 0
pub record IsNewName (prefix : ℕ) (octets name rest : List ℕ) : Type 0 where
  pub behind : List ℕ
  pub zero : IsInteger prefix octets 0 behind
  pub spelled : IsString behind name rest

abbrev pub IsName : ℕ → Table → List ℕ → List ℕ → List ℕ → Type 0
IsName prefix t octets name rest = IsIndexedName prefix t octets name rest ⊎ IsNewName prefix octets name rest

-- a literal: a name, and a string that is the value (section 6.2)
pub record IsLiteral (prefix : ℕ) (t : Table) (octets : List ℕ) (l : Line) (rest : List ℕ) : Type 0 where
  pub behind : List ℕ
  pub name : IsName prefix t octets l.name behind
  pub value : IsString behind l.value rest

-- ---- where none can be read, the first fault

-- an index is read that no entry has
pub record IsNoIndex (prefix : ℕ) (t : Table) (octets : List ℕ) : Type 0 where
  pub index : ℕ
  pub rest : List ℕ
  pub spelled : IsInteger prefix octets index rest
  pub none : entry_at t index ≡ None

abbrev pub BreaksIndexed : Table → List ℕ → HpackFault → Type 0
BreaksIndexed t octets fault = BreaksInteger 7 octets fault ⊎ (IsNoIndex 7 t octets × (fault ≡ BadIndex))

-- an index that isn't 0 is read, and no entry has it
pub record IsNoName (prefix : ℕ) (t : Table) (octets : List ℕ) : Type 0 where
  pub index : ℕ
  pub rest : List ℕ
  pub spelled : IsInteger prefix octets index rest
  pub some : 0 < index
  pub none : entry_at t index ≡ None

-- the string behind the index 0 breaks
pub record BreaksNewName (prefix : ℕ) (octets : List ℕ) (fault : HpackFault) : Type 0 where
  pub behind : List ℕ
  pub zero : IsInteger prefix octets 0 behind
  pub breaks : BreaksString behind fault

abbrev pub BreaksName : ℕ → Table → List ℕ → HpackFault → Type 0
BreaksName prefix t octets fault =
    BreaksInteger prefix octets fault ⊎ ((IsNoName prefix t octets × (fault ≡ BadIndex)) ⊎ BreaksNewName prefix octets fault)

-- the string behind a name breaks
pub record BreaksValue (prefix : ℕ) (t : Table) (octets : List ℕ) (fault : HpackFault) : Type 0 where
  pub called : List ℕ
  pub behind : List ℕ
  pub name : IsName prefix t octets called behind
  pub breaks : BreaksString behind fault

abbrev pub BreaksLiteral : ℕ → Table → List ℕ → HpackFault → Type 0
BreaksLiteral prefix t octets fault = BreaksName prefix t octets fault ⊎ BreaksValue prefix t octets fault

-- ---- a block, representation by representation

-- what a block has come to: its fields so far, and the dynamic table
pub record Reading : Type 0 where
  pub table : Table
  pub fields : List Field

abbrev pub reading : Table → List Field → Reading
reading t fields = record { table = t; fields = fields }

abbrev pub field_of : Line → Bool → Field
field_of l never = record { name = l.name; value = l.value; never = never }

-- a field is added, and the table is this one from here on
abbrev pub with_field : Line → Bool → Table → Reading → Reading
with_field l never t r = reading t (r.fields ++ field_of l never ∷ [])

-- A representation of this form takes one reading to the next. A size update is at most the greatest size, and
-- stands before the block's first field (sections 4.2 and 6.3).
abbrev pub ReadsForm : Form → ℕ → Reading → List ℕ → Reading → List ℕ → Type 0
ReadsForm Indexed greatest r octets next rest =
    (l : Line) × IsIndexed r.table octets l rest × (next ≡ with_field l false r.table r)
ReadsForm WithIndexing greatest r octets next rest =
    (l : Line) × IsLiteral 6 r.table octets l rest × (next ≡ with_field l false (added l r.table) r)
ReadsForm SizeUpdate greatest r octets next rest =
    (size : ℕ) × IsInteger 5 octets size rest × (size ≤ greatest) × (r.fields ≡ []) × (next ≡ reading (resized size r.table) [])
ReadsForm NeverIndexed greatest r octets next rest =
    (l : Line) × IsLiteral 4 r.table octets l rest × (next ≡ with_field l true r.table r)
ReadsForm WithoutIndexing greatest r octets next rest =
    (l : Line) × IsLiteral 4 r.table octets l rest × (next ≡ with_field l false r.table r)

-- an update is read that stands behind a field or is above the greatest size
pub record IsBadUpdate (greatest : ℕ) (r : Reading) (octets : List ℕ) : Type 0 where
  pub size : ℕ
  pub rest : List ℕ
  pub spelled : IsInteger 5 octets size rest
  pub bad : (0 < length r.fields) ⊎ (greatest < size)

-- a representation of this form breaks
abbrev pub BreaksForm : Form → ℕ → Reading → List ℕ → HpackFault → Type 0
BreaksForm Indexed greatest r octets fault = BreaksIndexed r.table octets fault
BreaksForm WithIndexing greatest r octets fault = BreaksLiteral 6 r.table octets fault
BreaksForm SizeUpdate greatest r octets fault =
    BreaksInteger 5 octets fault ⊎ (IsBadUpdate greatest r octets × (fault ≡ BadUpdate))
BreaksForm NeverIndexed greatest r octets fault = BreaksLiteral 4 r.table octets fault
BreaksForm WithoutIndexing greatest r octets fault = BreaksLiteral 4 r.table octets fault

-- the representation at the front of the octets
abbrev pub ReadsPiece : ℕ → Reading → List ℕ → Reading → List ℕ → Type 0
ReadsPiece greatest r octets next rest = ReadsForm (form_of (slice_index octets 0)) greatest r octets next rest

abbrev pub BreaksPiece : ℕ → Reading → List ℕ → HpackFault → Type 0
BreaksPiece greatest r octets fault = BreaksForm (form_of (slice_index octets 0)) greatest r octets fault

-- the representations at the front of the octets take one reading through these to the last, and then comes the rest
abbrev pub Runs : ℕ → Reading → List ℕ → List Reading → Reading → List ℕ → Type 0
Runs greatest r octets [] last rest = (r ≡ last) × (octets ≡ rest)
Runs greatest r octets (next ∷ others) last rest =
    (behind : List ℕ) × ReadsPiece greatest r octets next behind × Runs greatest next behind others last rest

-- The block spells these fields, and leaves this table.
abbrev pub SpellsBlock : ℕ → List ℕ → Table → List Field → Table → Type 0
SpellsBlock greatest block before fields after =
    (readings : List Reading) × Runs greatest (reading before []) block readings (reading after fields) []

-- The block spells no fields: its representations are read up to the first that breaks.
pub record BreaksBlock (greatest : ℕ) (block : List ℕ) (before : Table) (fault : HpackFault) : Type 0 where
  pub readings : List Reading
  pub last : Reading
  pub rest : List ℕ
  pub reads : Runs greatest (reading before []) block readings last rest
  pub some : 0 < length rest
  pub breaks : BreaksPiece greatest last rest fault

-- the size of a list of fields (RFC 9113 section 6.5.2)
abbrev pub list_size : List Field → ℕ
list_size fields = sum_by (λ f. length f.name + length f.value + 32) fields

-- what a block comes to: its fields and the table after them, or its first fault
abbrev pub BlockIs : ℕ → List ℕ → Table → Result (List Field × Table) HpackFault → Type 0
BlockIs greatest block before (Ok x) = SpellsBlock greatest block before x.0 x.1
BlockIs greatest block before (Err fault) = BreaksBlock greatest block before fault
