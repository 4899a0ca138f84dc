use Rattle.std.proofs.Common.{refl}
use Rattle.hpack_codec.proofs.StaticRows.{now_at}
use Rattle.hpack_codec.proofs.static_table.row_at.Goals as goal

pub returns : goal.returns
returns c = now_at c.args.rows.now _ c.args.row _ refl c.requires
