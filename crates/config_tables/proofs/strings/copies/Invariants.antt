use Rattle.std.proofs.Common.{◌≡◌, ◌++◌, map, drop}
use Rattle.toml.specs.View.{view}
use Rattle.config_tables.specs.Values.{strings_in}
use Rattle.config_tables.proofs.strings.copies.Given as goal

-- the strings so far are copied
abbrev pub invariant-loop-item : goal.invariant-loop-item
invariant-loop-item l = l.names ++ strings_in (map view (drop l.item-index l.items)) ≡ strings_in (map view l.items)
