-- What a configuration says of a session's lines.
use Rattle.proxy_config.specs.declared.config.Config.{Config}
use Rattle.std.specs.Prelude.{List, length, map, ℕ}

-- the names that a line's clusters have
abbrev pub names_in : Config → List (List ℕ)
names_in config = map (λ c. c.name) config.clusters

-- how many pressures an obeyed state has
abbrev pub resources_in : Config → ℕ
resources_in config = length config.overload.resources
