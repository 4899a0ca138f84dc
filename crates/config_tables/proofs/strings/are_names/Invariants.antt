use Rattle.std.proofs.Common.{◌≡◌, map, drop}
use Rattle.std.specs.List.{list_all}
use Rattle.toml.specs.View.{view}
use Rattle.config_tables.specs.Texts.{is_name}
use Rattle.config_tables.specs.Values.{strings_in}
use Rattle.config_tables.proofs.strings.are_names.Given as goal

-- what is left decides
abbrev pub invariant-loop-item : goal.invariant-loop-item
invariant-loop-item l =
    list_all is_name (strings_in (map view (drop l.item-index l.items))) ≡ list_all is_name (strings_in (map view l.items))
