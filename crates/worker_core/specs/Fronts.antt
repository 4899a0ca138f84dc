-- What waits for the sockets.
use Rattle.paged_map.specs.PagedMap.{value_at}
use Rattle.std.specs.Option.{option_map_or}
use Rattle.std.specs.Prelude.{Bool, IfSome, IsSomeAnd, List, Option, [], is_some, length, take, true, ℕ, ◌<◌, ◌≡◌, ◌≤◌}
use Rattle.wire_state.specs.declared.wire_core.WireCore.{WireCore}

-- these octets are a front of those, and there are some where any are there
pub record IsFront (octets all : List ℕ) : Type 0 where
  pub front : octets ≡ take (length octets) all
  pub some : 0 < length all → 0 < length octets

-- the octets that wait for the connection's socket
abbrev pub octets_at : ℕ → WireCore → List ℕ
octets_at c core = option_map_or (λ conn. conn.outlet.write.octets) (value_at c core.conns) []

-- the least number above another for which it holds, and none only where there is none
pub record IsLeastAbove (after : ℕ) (there : ℕ → Bool) (least : Option ℕ) : Type 0 where
  pub found : IfSome least (λ c. (after < c) × (there c ≡ true))
  pub first : (d : ℕ) → after < d → there d ≡ true → IsSomeAnd least (λ c. c ≤ d)

-- the connection is open, or has octets that wait for its socket
abbrev pub is_there : WireCore → ℕ → Bool
is_there core c = is_some (value_at c core.conns)

-- it has octets that wait for its socket, as seen at the end of the last dispatch that changed anything there
abbrev pub has_octets : WireCore → ℕ → Bool
has_octets core c = is_some (value_at c core.outs)
