use Rattle.std.proofs.Common.{◌≡◌, ◌++◌, map, drop}
use Rattle.toml.specs.View.{view}
use Rattle.config_tables.specs.Answers.{members_of}
use Rattle.config_tables.specs.Tables.{filter_of}
use Rattle.config_tables.specs.Values.{strings_in}
use Rattle.config_tables.proofs.route_rows.filters_of.Given as goal

-- the filters so far are read
abbrev pub invariant-loop-item : goal.invariant-loop-item
invariant-loop-item l =
    l.filters ++ map (filter_of (members_of l.row.table)) (strings_in (map view (drop l.item-index l.items)))
    ≡ map (filter_of (members_of l.row.table)) (strings_in (map view l.items))
