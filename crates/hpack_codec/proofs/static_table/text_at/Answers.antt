use Rattle.std.proofs.Common.{refl}
use Rattle.hpack_codec.proofs.StaticRows.{now_at}
use Rattle.hpack_codec.proofs.static_table.text_at.Goals as goal

pub returns : goal.returns
returns c = now_at c.args.texts.now _ c.args.place _ refl c.requires
