-- Each field block was read as the decoder reads it, with the dynamic table that the blocks before left (RFC 9113 section 4.3).
use Rattle.h2_session.specs.declared.act.Act.{Act}
use Rattle.hpack_codec.specs.Sections.{BreaksBlock, SpellsBlock, list_size}
use Rattle.hpack_codec.specs.Table.{Table, empty_table}
use Rattle.hpack_codec.specs.declared.fault.HpackFault.{HpackFault}
use Rattle.hpack_codec.specs.declared.fields.Field.{Field}
use Rattle.proxy_config.specs.declared.config.Config.{Config}
use Rattle.std.specs.Prelude.{List, MatchBool, None, Option, Some, [], ℕ, ◌<◌, ◌==◌, ◌∷◌, ◌≡◌, ◌≤◌}
use Rattle.tape_laws.specs.History.{Marked}
use Rattle.wire_laws.specs.Marks.{Fields, NoBlock, Reading, Refused, TooLong, Took, WireHistory}
use Rattle.h2_session.specs.declared.act.Act.TheVariants as act

-- the field block that an act carries; the empty one of a stream error is that of a frame that ends none
abbrev pub block_of : Act → Option (List ℕ)
block_of (act.Head s block last) = Some block
block_of (act.Trailers s block) = Some block
block_of (act.OldBlock block) = Some block
block_of (act.StreamError s code []) = None
block_of (act.StreamError s code (octet ∷ block)) = Some (octet ∷ block)
block_of a = None

-- how a block is read over a table, with at most so many octets of fields, and the table that it leaves
abbrev pub ReadsAs : ℕ → List ℕ → Table → Reading → Table → Type 0
ReadsAs most block t NoBlock after = ⊥
ReadsAs most block t (Fields fields) after = SpellsBlock 4096 block t fields after × (list_size fields ≤ most)
ReadsAs most block t TooLong after =
    (fields : List Field) × SpellsBlock 4096 block t fields after × (most < list_size fields)
ReadsAs most block t Refused after = ((fault : HpackFault) × BreaksBlock 4096 block t fault) × (after ≡ t)

abbrev pub BlockRead : ℕ → Option (List ℕ) → Table → Reading → Table → Type 0
BlockRead most None t reading after = (reading ≡ NoBlock) × (after ≡ t)
BlockRead most (Some block) t reading after = ReadsAs most block t reading after

-- the dynamic table of a connection's decoder, by the frames that were taken
abbrev pub TableAfter : Config → ℕ → WireHistory → Table → Type 0
TableAfter config c [] t = t ≡ empty_table 4096
TableAfter config c (Marked (Took d frame a reading) ∷ past) t = MatchBool (d == c)
    ((before : Table) × TableAfter config c past before × BlockRead config.limits.field_list (block_of a) before reading t)
    (TableAfter config c past t)
TableAfter config c (step ∷ past) t = TableAfter config c past t
