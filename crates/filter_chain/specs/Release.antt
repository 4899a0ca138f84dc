-- What a place may release, and what the next one takes.
use Rattle.std.specs.Prelude.{◌==◌, ◌&&◌, ◌||◌, ℕ, suc, zero, List, length, map, min, not, nat_lt, nat_le, Bool, false}
use Rattle.std.specs.Option.{option_map_or}
use Rattle.filter_chain.specs.Chain.{Chain, place_at, octets_at}
use Rattle.filter_chain.specs.Place.{Place, is_hold, is_source, kind_of}
use Rattle.filter_chain.specs.declared.stage.StageKind.{StageKind}
use Rattle.flow_rules.specs.Kinds.{all_empty, holds_filled as are_filled, is_overfilled, let_go as lets_go}

-- the place is empty; place 0 is the receive buffer
abbrev pub is_empty_at : Chain → ℕ → Bool
is_empty_at chain zero = chain.recv_empty
is_empty_at chain (suc p) = length (octets_at chain (suc p)) == 0

-- every place before p is empty
abbrev pub empty_before : Chain → ℕ → Bool
empty_before chain p = all_empty (is_empty_at chain) p

-- the body has come whole to place p
abbrev pub is_whole_at : Chain → ℕ → Bool
is_whole_at chain p = chain.ended && empty_before chain p

-- what the place p lets go of now
abbrev pub let_go : Chain → ℕ → StageKind → Place → ℕ
let_go chain p kind place = lets_go (kind_of kind) (is_whole_at chain p) place.tokens (min chain.quantum (length place.octets))

abbrev pub may_release : Chain → ℕ → ℕ
may_release chain p = option_map_or (λ place. let_go chain p place.kind place) (place_at chain.places p) 0

-- the place is a Hold whose limit n more octets pass
abbrev pub is_overfilled_by : ℕ → Place → Bool
is_overfilled_by n place = is_overfilled (kind_of place.kind) place.limit (length place.octets) n

abbrev pub overfills_in : List Place → ℕ → ℕ → Bool
overfills_in places p n = option_map_or (is_overfilled_by n) (place_at places p) false

abbrev pub overfills : Chain → ℕ → ℕ → Bool
overfills chain p n = overfills_in chain.places p n

-- room was made for n more octets: a Hold's for its limit, that of another place with a limit for one move beyond it
abbrev pub has_room : ℕ → ℕ → Place → Bool
has_room quantum n place = is_hold place.kind || (nat_lt 0 place.limit && not place.above && nat_le n quantum)

abbrev pub has_room_in : ℕ → List Place → ℕ → ℕ → Bool
has_room_in quantum places p n = option_map_or (has_room quantum n) (place_at places p) false

abbrev pub has_room_at : Chain → ℕ → ℕ → Bool
has_room_at chain p n = has_room_in chain.quantum chain.places p n

abbrev pub is_source_at : Chain → ℕ → Bool
is_source_at chain p = option_map_or (λ place. is_source place.kind) (place_at chain.places p) false

-- the body has come whole to each Hold among the places from p on
abbrev pub holds_filled : Chain → ℕ → List Place → Bool
holds_filled chain p places = are_filled (is_whole_at chain) p (map (λ place. kind_of place.kind) places)

-- a head waits behind a Hold until the body has come whole to it
abbrev pub head_may_go : Chain → Bool
head_may_go chain = holds_filled chain 1 chain.places
