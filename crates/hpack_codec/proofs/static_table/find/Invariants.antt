use Rattle.std.proofs.Common.{drop}
use Rattle.hpack_codec.proofs.FieldSearch.{Left}
use Rattle.hpack_codec.proofs.static_table.find.Given as goal

abbrev pub invariant-loop-place : goal.invariant-loop-place
invariant-loop-place l = Left l.name l.value l.first (drop l.place-index l.place-items)
