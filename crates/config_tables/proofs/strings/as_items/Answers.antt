use Rattle.std.proofs.Common.{map}
use Rattle.toml.specs.View.{view}
use Rattle.config_tables.proofs.Lists.{list_of-items_of}
use Rattle.config_tables.proofs.strings.as_items.Goals as goal

pub returns-in-Some : goal.returns-in-Some
returns-in-Some c =
    let seen = rw c.in-Some.is at c.as_array.ensures in
    rw (c.as_slice.ensures.value, ← seen, list_of-items_of (map view c.in-Some.items.now.items))
