-- A list that is kept only while it isn't too long.
use Rattle.std.specs.Prelude.{◌≡◌, ◌-◌, ◌^◌, ◌≤◌, ℕ, List, [], min}
use Rattle.hpack_codec.specs.Sections.{list_size, reading, ReadsForm, BreaksForm, Reading, Runs}
use Rattle.hpack_codec.specs.Table.{Table}
use Rattle.hpack_codec.specs.declared.collected.Collected.{Collected}
use Rattle.hpack_codec.specs.declared.fault.HpackFault.{HpackFault}
use Rattle.hpack_codec.specs.declared.fields.Field.{Field}
use Rattle.hpack_codec.specs.declared.form.Form.{Form}

-- what is counted and kept of these fields, where the list may have this greatest size
pub record Holds (most : ℕ) (c : Collected) (fields : List Field) : Type 0 where
  pub limit : c.most ≡ most
  pub counted : c.size ≡ min (list_size fields) (2 ^ 64 - 1)
  pub kept : c.size ≤ most → c.fields ≡ fields

-- a representation was read, whatever the fields before it were
abbrev pub Advances : Form → ℕ → Table → Collected → List ℕ → Table → Collected → List ℕ → Type 0
Advances form greatest t c octets next d rest =
    (most : ℕ) (fields : List Field) → Holds most c fields →
    (more : List Field) × ReadsForm form greatest (reading t fields) octets (reading next more) rest × Holds most d more

-- a representation breaks, whatever the fields before it were
abbrev pub Stops : Form → ℕ → Table → Collected → List ℕ → HpackFault → Type 0
Stops form greatest t c octets fault =
    (most : ℕ) (fields : List Field) → Holds most c fields → BreaksForm form greatest (reading t fields) octets fault

-- the block was read up to the rest
pub record HasRead (greatest most : ℕ) (before : Table) (block : List ℕ) (t : Table) (c : Collected) (rest : List ℕ) : Type 0 where
  pub fields : List Field
  pub readings : List Reading
  pub runs : Runs greatest (reading before []) block readings (reading t fields) rest
  pub holds : Holds most c fields
