-- What a decoder is, and what it answers.
use Rattle.std.specs.Prelude.{◌<◌, ◌≤◌, ℕ, Bool, true, false, List, Result, Ok, Err}
use Rattle.hpack_codec.specs.Sections.{SpellsBlock, BreaksBlock, list_size}
use Rattle.hpack_codec.specs.Table.{Table}
use Rattle.hpack_codec.specs.declared.fault.HpackFault.{HpackFault}
use Rattle.hpack_codec.specs.declared.fault.HpackFault.TheVariants.{ListTooLong, NoMemory, Failed}
use Rattle.hpack_codec.specs.declared.fields.Field.{Field}

-- the greatest table size, the greatest list size, the dynamic table, and whether a fault was final
pub record Decoding : Type 0 where
  pub greatest : ℕ
  pub most : ℕ
  pub table : Table
  pub failed : Bool

abbrev pub decoder_with : ℕ → ℕ → Table → Decoding
decoder_with greatest most t = record { greatest = greatest; most = most; table = t; failed = false }

-- The block spells fields whose list is too long, and leaves this table.
pub record IsTooLong (d : Decoding) (block : List ℕ) (after : Table) : Type 0 where
  pub fields : List Field
  pub spelled : SpellsBlock d.greatest block d.table fields after
  pub long : d.most < list_size fields

-- What a decoder that hasn't failed answers to a block, and the table that it leaves.
abbrev pub Answers : Decoding → List ℕ → Result (List Field) HpackFault → Table → Type 0
Answers d block (Ok fields) after = SpellsBlock d.greatest block d.table fields after × (list_size fields ≤ d.most)
Answers d block (Err ListTooLong) after = IsTooLong d block after
Answers d block (Err NoMemory) after = Unit {0}
Answers d block (Err Failed) after = ⊥
Answers d block (Err fault) after = BreaksBlock d.greatest block d.table fault

-- the answers after which every later call fails
abbrev pub is_final : Result (List Field) HpackFault → Bool
is_final (Ok fields) = false
is_final (Err ListTooLong) = false
is_final (Err fault) = true
