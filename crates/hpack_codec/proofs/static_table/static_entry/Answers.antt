use Rattle.std.proofs.Common.{◌∙◌}
use Rattle.hpack_codec.specs.Table.{static_table}
use Rattle.hpack_codec.proofs.StaticRows.{row_at}
use Rattle.hpack_codec.proofs.static_table.static_entry.Goals as goal

pub returns : goal.returns
unfolding static_table
returns c =
    row_at c.args.place _ _ c.requires (c.as_bytes.ensures.value ∙ c.text_at-name.ensures) (c.as_bytes-2.ensures.value ∙ c.text_at-value.ensures)
