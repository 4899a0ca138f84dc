-- Which row of the route table takes a request.
use Rattle.std.specs.List.{starts_with}
use Rattle.std.specs.Option.{option_map_or}
use Rattle.std.specs.Prelude.{ℕ, Bool, true, false, ◌&&◌, ◌||◌, List, Option, nat_eq}
use Rattle.std.specs.Str.{bytes_eq}
use Rattle.proxy_config.specs.declared.routes.Route.{Route}

-- the row's authority is absent or the request's
abbrev pub is_met : Option (List ℕ) → Route → Bool
is_met authority row = option_map_or (λ wanted. option_map_or (bytes_eq wanted) authority false) row.authority true

-- the row's path is the request's, or its prefix is a front of that
abbrev pub is_to : List ℕ → Route → Bool
is_to path row = option_map_or (λ wanted. bytes_eq wanted path) row.path false || option_map_or (starts_with nat_eq path) row.prefix false

abbrev pub takes : Option (List ℕ) → List ℕ → Route → Bool
takes authority path row = is_met authority row && is_to path row
