use Rattle.std.proofs.Common.{◌≡◌, ◌≤◌, sum_by}
use Rattle.hpack_codec.specs.Table.{kept, line_size}
use Rattle.hpack_codec.proofs.table.DynamicTable.evict.Given as goal

abbrev pub invariant-evict : goal.invariant-evict
invariant-evict l = record {
  same : kept l.room l.self-inside.lines.items ≡ kept l.room l.initial.self-inside.lines.items;
  counted : l.self-inside.octets ≡ sum_by line_size l.self-inside.lines.items;
  within : l.self-inside.octets ≤ l.self-inside.limit;
  limit : l.self-inside.limit ≡ l.initial.self-inside.limit;
}

abbrev pub decreases-evict : goal.decreases-evict
decreases-evict l = l.self-inside.octets
