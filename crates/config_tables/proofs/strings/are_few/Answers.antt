use Rattle.std.proofs.Common.{◌≡◌, ◌∙◌, map, length, rules}
use Rattle.toml.specs.Data.{as_str}
use Rattle.toml.specs.View.{view}
use Rattle.config_tables.specs.Values.{strings_in}
use Rattle.config_tables.proofs.Lists.{length-filter_map, length-map}
use Rattle.config_tables.proofs.strings.are_few.Goals as goal

pub returns : goal.returns
returns c =
    let items = c.args.items.now in
    let same : length (strings_in (map view items)) ≡ length items = length-filter_map as_str (map view items) c.requires ∙ length-map view items in
    rw same (search rules)
