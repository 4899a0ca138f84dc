-- What is seen of a store of octets, which lie in a ring, behind some in a block of others.
use Rattle.std.specs.Prelude.{◌++◌, ◌+◌, ◌-◌, ◌*◌, ◌^◌, ◌<◌, ◌≤◌, min, ℕ, List, [], length, Option, Some, None}
use Rattle.circular_buffer.specs.Buffer.{Buffer as Ring}

-- the octets, and for how many more there is room
pub record Stored : Type 0 where
  pub octets : List ℕ
  pub spare : ℕ

-- what lies in a ring, where there is one
abbrev pub stored_in : Option (Ring ℕ) → Stored
stored_in None = record { octets = []; spare = 0 }
stored_in (Some ring) = record { octets = ring.items; spare = ring.capacity - length ring.items }

-- octets that stand before those in a ring take places of it
abbrev pub with_lent : List ℕ → Stored → Stored
with_lent lent ring = record { octets = lent ++ ring.octets; spare = ring.spare - length lent }

-- The new store has at least twice the places of the old one, or all that there may be.
abbrev pub IsDoubled : Stored → Stored → Type 0
IsDoubled old new = min (2 * (length old.octets + old.spare)) (2 ^ 31 - 1) ≤ length new.octets + new.spare

-- a ring has fewer than 2 ^ 31 places
abbrev pub IsInPlaces : Option (Ring ℕ) → Type 0
IsInPlaces None = Unit {0}
IsInPlaces (Some ring) = (length ring.items ≤ ring.capacity) × (ring.capacity < 2 ^ 31)
