-- Clusters by their names.
use Rattle.std.specs.List.{list_any}
use Rattle.std.specs.Prelude.{◌≡◌, ℕ, Bool, true, List, Option, position}
use Rattle.std.specs.Str.{bytes_eq}
use Rattle.proxy_config.specs.declared.config.Cluster.{Cluster}
use Rattle.proxy_config.specs.declared.routes.Route.{Route}

-- a cluster has this name
abbrev pub is_taken : List Cluster → List ℕ → Bool
is_taken clusters name = list_any (λ c. bytes_eq name c.name) clusters

-- the number of the first cluster with this name, from 0
abbrev pub number_of : List Cluster → List ℕ → Option ℕ
number_of clusters name = position (λ c. bytes_eq name c.name) clusters

-- the route's cluster is one of these
abbrev pub IsListed : List Cluster → Route → Type 0
IsListed clusters route = is_taken clusters route.cluster ≡ true
