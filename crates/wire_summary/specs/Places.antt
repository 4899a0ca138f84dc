-- What happens to the levels of a flow's places.
use Rattle.std.specs.Prelude.{Bool, List, None, Option, Some, [], if◌then◌else◌, length, map, min, suc, zero, ℕ, ◌-◌, ◌∷◌, ◌≡◌}
use Rattle.tape_summary.specs.Levels.{emptied, fallen, no_level, risen}
use Rattle.tape_summary.specs.declared.level.Level.{Level}
use Rattle.wire_summary.specs.declared.levels.ExchangePlaces.{ExchangePlaces}
use Rattle.wire_summary.specs.declared.places.Change.{Change}
use Rattle.wire_summary.specs.declared.places.FlowPlaces.{FlowPlaces}
use Rattle.wire_summary.specs.declared.places.Change.TheVariants as change

-- what a place holds, 0 where there is no such place
abbrev pub held_at : ℕ → List Level → ℕ
held_at p [] = 0
held_at zero (l ∷ ls) = l.held
held_at (suc p) (l ∷ ls) = held_at p ls

-- the most that it ever held
abbrev pub most_at : ℕ → List Level → ℕ
most_at p [] = 0
most_at zero (l ∷ ls) = l.most
most_at (suc p) (l ∷ ls) = most_at p ls

-- n octets came to a place, or left it
abbrev pub risen_at : ℕ → ℕ → List Level → List Level
risen_at p n [] = []
risen_at zero n (l ∷ ls) = risen l n ∷ ls
risen_at (suc p) n (l ∷ ls) = l ∷ risen_at p n ls

abbrev pub fallen_at : ℕ → ℕ → List Level → List Level
fallen_at p n [] = []
fallen_at zero n (l ∷ ls) = fallen l n ∷ ls
fallen_at (suc p) n (l ∷ ls) = l ∷ fallen_at p n ls

-- the first places are emptied
abbrev pub emptied_to : ℕ → List Level → List Level
emptied_to zero ls = ls
emptied_to (suc p) [] = []
emptied_to (suc p) (l ∷ ls) = emptied l ∷ emptied_to p ls

-- as many of n octets as the place holds
abbrev pub taken : ℕ → ℕ → List Level → ℕ
taken p n ls = min n (held_at p ls)

abbrev pub last_of : List Level → ℕ
last_of ls = length ls - 1

abbrev pub changed : Change → List Level → List Level
changed (change.Arrive n) ls = risen_at 0 n ls
changed (change.Shift p n) ls = risen_at (suc p) (taken p n ls) (fallen_at p (taken p n ls) ls)
changed (change.Frame n) ls = fallen_at (last_of ls) (taken (last_of ls) n ls) ls

-- how many octets left the send buffer
abbrev pub framed : Change → List Level → ℕ
framed (change.Frame n) ls = taken (last_of ls) n ls
framed other ls = 0

-- what is kept of a flow: the limits of its stages, and the levels of its places
pub record Side : Type 0 where
  pub limits : List ℕ
  pub levels : List Level

-- a request and its response
pub record Sides : Type 0 where
  pub request : Side
  pub response : Side

abbrev pub side_of : FlowPlaces → Side
side_of places = record { limits = places.limits.items; levels = places.levels.items }

abbrev pub sides_of : ExchangePlaces → Sides
sides_of e = record { request = side_of e.request; response = side_of e.response }

-- a flow that passes no stages
abbrev pub bare_side : Side
bare_side = record { limits = []; levels = no_level ∷ no_level ∷ [] }

abbrev pub bare : Sides
bare = record { request = bare_side; response = bare_side }

abbrev pub side_at : Bool → Sides → Side
side_at back s = if back then s.response else s.request

abbrev pub changed_side : Change → Side → Side
changed_side c s = record { limits = s.limits; levels = changed c s.levels }

abbrev pub changed_at : Bool → Change → Sides → Sides
changed_at back c s = if back then record { request = s.request; response = changed_side c s.response } else record { request = changed_side c s.request; response = s.response }

abbrev pub emptied_side : Side → Side
emptied_side s = record { limits = s.limits; levels = map emptied s.levels }

abbrev pub emptied_sides : Sides → Sides
emptied_sides s = record { request = emptied_side s.request; response = emptied_side s.response }
