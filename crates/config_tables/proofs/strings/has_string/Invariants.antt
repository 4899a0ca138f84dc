use Rattle.std.proofs.Common.{◌≡◌, map, drop}
use Rattle.toml.specs.View.{view}
use Rattle.config_tables.specs.Texts.{is_among}
use Rattle.config_tables.specs.Values.{strings_in}
use Rattle.config_tables.proofs.strings.has_string.Given as goal

-- what is left decides
abbrev pub invariant-loop-item : goal.invariant-loop-item
invariant-loop-item l =
    is_among (strings_in (map view (drop l.item-index l.items))) l.text ≡ is_among (strings_in (map view l.items)) l.text
