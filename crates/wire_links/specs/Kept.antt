-- The links as they are kept: each connection with its exchanges and their streams, each exchange with its ends, and by
-- cluster the connections that can take one more.
use Rattle.std.specs.List.{AllByRecursion}
use Rattle.std.specs.Map.{keys_of}
use Rattle.std.specs.Option.{option_map_or}
use Rattle.std.specs.Prelude.{Bool, IfSome, List, None, Option, Some, [], false, length, map, true, ℕ, ◌<◌, ◌≡◌, ◌≤◌, ◌^◌}
use Rattle.wire_links.specs.Links.{HasEnds, Links, exchanges_of, is_on, is_same, open_clients, takers, takes_one}
use Rattle.number_set.specs.NumberSet.{NumberSet, Rises, has, marked}
use Rattle.wire_links.specs.Numbers.{changed, numbers_where, under}
use Rattle.wire_links.specs.Seats.{Seat, left, linked}
use Rattle.wire_links.specs.declared.conn.Conn.{Conn}
use Rattle.wire_links.specs.declared.links.exchanges.Ends.{Ends}
use Rattle.wire_links.specs.declared.links.Links.TheInside.{Inside}

abbrev pub Seats : Type 0
Seats = List (ℕ × Seat)

-- by cluster, the connections that can take one more exchange
abbrev pub Offers : Type 0
Offers = List (ℕ × NumberSet)

-- ---- what is seen of them
abbrev pub conns_of : Seats → List (ℕ × Conn)
conns_of = map (λ e. (e.0, e.1.conn))

abbrev pub links_of : Inside → Links
links_of c = record { conns = conns_of c.seats.entries; exchanges = c.exchanges.entries }

-- ---- look-ups in them
abbrev pub numbers_at : ℕ → Seats → List ℕ
numbers_at c seats = option_map_or (λ seat. seat.numbers) (under c seats) []

abbrev pub streams_at : ℕ → Seats → List (ℕ × ℕ)
streams_at c seats = option_map_or (λ seat. seat.streams) (under c seats) []

abbrev pub items_at : ℕ → Offers → List ℕ
items_at k offers = option_map_or (λ n. n.items) (under k offers) []

abbrev pub room_at : ℕ → Offers → ℕ
room_at k offers = option_map_or (λ n. n.room) (under k offers) 0

-- the cluster's connections
abbrev pub in_cluster : ℕ → ℕ → Conn → Bool
in_cluster k c conn = is_same conn.cluster k

abbrev pub conns_in : ℕ → List (ℕ × Conn) → List ℕ
conns_in k = numbers_where (in_cluster k)

-- ---- what holds of them
pub record AreKept (seats : Seats) (exchanges : List (ℕ × Ends)) (by_cluster : Offers) (listed : List ℕ) : Type 0 where
  pub conns : Rises (keys_of seats)
  pub small : AllByRecursion (λ c. c < 2 ^ 32) (keys_of seats)
  pub order : Rises (keys_of exchanges)
  pub ends : (x : ℕ) → IfSome (under x exchanges) (HasEnds (conns_of seats))
  -- a connection has its exchanges, and one that isn't known is the end of none
  pub numbers : (c : ℕ) → numbers_at c seats ≡ exchanges_of c exchanges
  -- on its streams stand those exchanges of which they are ends
  pub tables : (c : ℕ) → Rises (keys_of (streams_at c seats))
  pub streams : (c stream x : ℕ) → is_same (under stream (streams_at c seats)) x ≡ option_map_or (is_on c stream) (under x exchanges) false
  -- a cluster has those of its connections that can take one more, and room for all of its connections
  pub offers : (k : ℕ) → items_at k by_cluster ≡ takers k (conns_of seats) exchanges
  pub room : (k : ℕ) → length (conns_in k (conns_of seats)) ≤ room_at k by_cluster
  pub clients : listed ≡ open_clients (conns_of seats)

abbrev pub IsKept : Inside → Type 0
IsKept c = AreKept c.seats.entries c.exchanges.entries c.offers.entries c.clients.keys

-- ---- steps
-- a connection is of the same kind, and not open again where it was closed
pub record IsNext (state old : Conn) : Type 0 where
  pub kind : state.cluster ≡ old.cluster
  pub closed : state.live ≡ true → old.live ≡ true

-- a connection can take one more exchange for its cluster, or can't
abbrev pub noted : ℕ → Bool → NumberSet → NumberSet
noted c takes n = record n { items = marked c takes n.items }

-- what the cluster of a connection, if it has one, is told of it
abbrev pub told_of : ℕ → Seat → Option ℕ → Offers → Offers
told_of c seat None offers = offers
told_of c seat (Some k) offers = changed k (noted c (takes_one k (length seat.numbers) seat.conn)) offers

abbrev pub told : ℕ → Option Seat → Offers → Offers
told c None offers = offers
told c (Some seat) offers = told_of c seat seat.conn.cluster offers

-- there is room to tell it
pub record HasRoom (c : ℕ) (k : ℕ) (offers : Offers) : Type 0 where
  pub room : has (items_at k offers) c ≡ false → length (items_at k offers) < room_at k offers

pub record HasRoomFor (c : ℕ) (seats : Seats) (offers : Offers) : Type 0 where
  pub each : (seat : Seat) (k : ℕ) → under c seats ≡ Some seat → seat.conn.cluster ≡ Some k → HasRoom c k offers

-- the connection to a cluster, if there is one, has the exchange, or has it no more, and the cluster is told
abbrev pub connected : Option ℕ → ℕ → Seats → Seats
connected None x seats = seats
connected (Some t) x seats = changed t (linked x) seats

abbrev pub disconnected : Option ℕ → ℕ → Option ℕ → Seats → Seats
disconnected None x stream seats = seats
disconnected (Some t) x stream seats = changed t (left x stream) seats

abbrev pub told_by : Option ℕ → Seats → Offers → Offers
told_by None seats offers = offers
told_by (Some t) seats offers = told t (under t seats) offers
