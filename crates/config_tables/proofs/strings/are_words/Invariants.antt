use Rattle.std.proofs.Common.{◌≡◌, map, drop}
use Rattle.std.specs.List.{list_all, list_any}
use Rattle.std.specs.Str.{bytes_eq}
use Rattle.toml.specs.View.{view}
use Rattle.config_tables.specs.Values.{strings_in}
use Rattle.config_tables.proofs.strings.are_words.Given as goal

-- what is left decides
abbrev pub invariant-loop-item : goal.invariant-loop-item
invariant-loop-item l =
    list_all (λ t. list_any (λ w. bytes_eq t w.now) l.words) (strings_in (map view (drop l.item-index l.items)))
    ≡ list_all (λ t. list_any (λ w. bytes_eq t w.now) l.words) (strings_in (map view l.items))
