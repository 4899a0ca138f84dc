use Rattle.std.proofs.Common.{◌≡◌, map, length}
use Rattle.toml.specs.View.{view}
use Rattle.config_tables.specs.Texts.{are_distinct}
use Rattle.config_tables.specs.Values.{strings_in}
use Rattle.config_tables.proofs.strings.are_distinct.Given as goal

-- what is left decides
abbrev pub invariant-loop-rest : goal.invariant-loop-rest
invariant-loop-rest l = are_distinct (strings_in (map view l.rest)) ≡ are_distinct (strings_in (map view l.items))

abbrev pub decreases-loop-rest : goal.decreases-loop-rest
decreases-loop-rest l = length l.rest
