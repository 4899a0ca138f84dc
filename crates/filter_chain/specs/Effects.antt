-- What each change leaves of a chain.
use Rattle.std.specs.Option.{option_map_or}
use Rattle.std.specs.Prelude.{◌+◌, ◌-◌, ◌/◌, ℕ, suc, zero, List, length, take, map, slice_get, slice_set, Bool, true, [], ◌∷◌, ◌++◌}
use Rattle.filter_chain.specs.Chain.{Chain, octets_in}
use Rattle.filter_chain.specs.Place.{Place, gaining, losing, letting_go, refilled}

-- the places, of which the one with this number is what f makes of it
abbrev pub changed_at : (Place → Place) → ℕ → List Place → List Place
changed_at f zero places = places
changed_at f (suc i) places = option_map_or (λ place. slice_set places i (f place)) (slice_get places i) places

-- the first n octets of place p went to the next place
abbrev pub passed : List Place → ℕ → ℕ → List Place
passed places p n = changed_at (gaining (take n (octets_in places p))) (p + 1) (changed_at (letting_go n) p places)

-- the first n octets of the last place left
abbrev pub last_loses : List Place → ℕ → List Place
last_loses places n = changed_at (losing n) (length places) places

-- octets came from the receive buffer, which is empty now, or isn't
abbrev pub offered : Chain → List ℕ → Bool → Chain
offered chain octets recv_empty = record chain { recv_empty = recv_empty; places = changed_at (gaining octets) 1 chain.places }

-- a stage let octets go
abbrev pub released : Chain → ℕ → ℕ → Chain
released chain p n = record chain { places = passed chain.places p n }

-- the first n octets of the send buffer were framed
abbrev pub framed : Chain → ℕ → Chain
framed chain n = record chain { places = last_loses chain.places n }

-- how many whole 50 ms there are from one moment to another
abbrev pub whole_steps : ℕ → ℕ → ℕ
whole_steps started now = (now - started) / 50

-- each Meter gained as many tokens as its rate for each whole 50 ms since it started that ended after the last moment told
abbrev pub ticked : Chain → ℕ → Chain
ticked chain now = record chain {
  time = now;
  places = map (refilled (whole_steps chain.started now - whole_steps chain.started chain.time)) chain.places;
}

-- the flow's end came, with the receive buffer empty or not
abbrev pub finished : Chain → Bool → Chain
finished chain recv_empty = record chain { ended = true; recv_empty = recv_empty }

-- what lies at these places, in the order in which it goes
abbrev pub on_the_way : List Place → List ℕ
on_the_way [] = []
on_the_way (place ∷ places) = on_the_way places ++ place.octets
