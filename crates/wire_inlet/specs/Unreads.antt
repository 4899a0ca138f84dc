-- Where octets are that came and aren't all read.
use Rattle.std.specs.Prelude.{List, ℕ}
use Rattle.wire_inlet.specs.declared.unread.Block.{Block}
use Rattle.wire_inlet.specs.declared.unread.Block.TheVariants as block

abbrev pub octets_in : Block → List ℕ
octets_in (block.Came octets) = octets
octets_in (block.Joined joined) = joined
