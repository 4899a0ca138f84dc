use Rattle.std.proofs.Common.{ap, refl, ◌∙◌}
use Rattle.hpack_codec.specs.Table.{places_of, static_table}
use Rattle.hpack_codec.proofs.StaticPlaces.{row_is}
use Rattle.hpack_codec.proofs.static_table.places_of.Goals as goal

pub returns : goal.returns
unfolding static_table
returns c = c.row_at.ensures ∙ row_is _ c.row_of.result refl c.row_of.ensures.few ∙ ap places_of c.row_of.ensures.row
