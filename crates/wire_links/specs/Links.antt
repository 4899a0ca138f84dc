-- Who is linked to whom: the connections of a worker, and its live exchanges. An exchange stands between a stream of a
-- client's connection and, unless it is refused, a connection to a cluster, on which it gets a stream when its head is framed.
use Rattle.std.specs.BTreeMap.{insert_entry, is_at}
use Rattle.std.specs.Map.{keys_of, remove_entry}
use Rattle.std.specs.Option.{is_some, option_and_then, option_map_or, unwrap_or}
use Rattle.std.specs.Ordering.{nat_cmp}
use Rattle.std.specs.Prelude.{Bool, IfSome, IsSome, List, None, Option, Some, [], false, length, min, nat_eq, nat_lt, not, true, ℕ, ◌&&◌, ◌||◌, ◌≡◌}
use Rattle.number_set.specs.NumberSet.{Rises, first, first_above}
use Rattle.wire_links.specs.Numbers.{changed, numbers_where, under}
use Rattle.wire_links.specs.declared.conn.Conn.{Conn}
use Rattle.wire_links.specs.declared.links.exchanges.Ends.{Ends}

pub record Links : Type 0 where
  -- each under its number, in the order of the numbers
  pub conns : List (ℕ × Conn)
  pub exchanges : List (ℕ × Ends)

abbrev pub no_links : Links
no_links = record { conns = []; exchanges = [] }

-- ---- connections
abbrev pub conn_at : ℕ → Links → Option Conn
conn_at c links = under c links.conns

abbrev pub is_known : ℕ → Links → Bool
is_known c links = is_some (conn_at c links)

-- it is known, and this holds of it
abbrev pub is_such : (Conn → Bool) → ℕ → Links → Bool
is_such p c links = option_map_or p (conn_at c links) false

abbrev pub is_open : ℕ → Links → Bool
is_open = is_such (λ conn. conn.live)

abbrev pub is_client : ℕ → Links → Bool
is_client = is_such (λ conn. not (is_some conn.cluster))

abbrev pub is_draining : ℕ → Links → Bool
is_draining = is_such (λ conn. is_some conn.draining)

-- the number of its cluster, if it has one
abbrev pub cluster_of : ℕ → Links → Option ℕ
cluster_of c links = option_and_then (λ conn. conn.cluster) (conn_at c links)

-- the number that its first GOAWAY named
abbrev pub goaway_last : ℕ → Links → Option ℕ
goaway_last c links = option_and_then (λ conn. conn.draining) (conn_at c links)

-- the client connections that are open, in order
abbrev pub is_open_client : Conn → Bool
is_open_client conn = conn.live && not (is_some conn.cluster)

abbrev pub open_clients : List (ℕ × Conn) → List ℕ
open_clients = numbers_where (λ c conn. is_open_client conn)

abbrev pub next_client : ℕ → Links → Option ℕ
next_client after links = first_above after (open_clients links.conns)

-- ---- exchanges
abbrev pub ends_of : ℕ → Links → Option Ends
ends_of x links = under x links.exchanges

abbrev pub is_same : Option ℕ → ℕ → Bool
is_same o n = option_map_or (nat_eq n) o false

-- the connection is one of the ends
abbrev pub is_end : ℕ → Ends → Bool
is_end c ends = nat_eq c ends.client || is_same ends.cluster c

-- the stream of the connection is one of the ends
abbrev pub is_on : ℕ → ℕ → Ends → Bool
is_on c stream ends = (nat_eq c ends.client && nat_eq stream ends.stream) || (is_same ends.cluster c && is_same ends.cluster_stream stream)

-- the exchanges of a connection, in order
abbrev pub exchanges_of : ℕ → List (ℕ × Ends) → List ℕ
exchanges_of c = numbers_where (λ x. is_end c)

abbrev pub least_of : ℕ → Links → Option ℕ
least_of c links = first (exchanges_of c links.exchanges)

abbrev pub next_of : ℕ → ℕ → Links → Option ℕ
next_of c after links = first_above after (exchanges_of c links.exchanges)

-- the exchange on a stream of a connection
abbrev pub exchange_at : ℕ → ℕ → Links → Option ℕ
exchange_at c stream links = first (numbers_where (λ x. is_on c stream) links.exchanges)

-- the exchange is on the stream
abbrev pub IsOn : ℕ → ℕ → ℕ → Links → Type 0
IsOn c stream x links = option_map_or (is_on c stream) (ends_of x links) false ≡ true

-- ---- the choice of a cluster's connection (RFC 9113 section 5.1.2)
-- how many exchanges a connection takes at most: what its peer allows, and never above 100, which holds too before the peer
-- has named a number
abbrev pub most_of : Conn → ℕ
most_of conn = min (unwrap_or conn.concurrent 100) 100

-- with so many exchanges it takes one more for the cluster: it is the cluster's, open, and not draining
abbrev pub takes_one : ℕ → ℕ → Conn → Bool
takes_one k count conn = is_same conn.cluster k && (conn.live && (not (is_some conn.draining) && nat_lt count (most_of conn)))

-- the connections that can take one more exchange for the cluster, in order
abbrev pub takers : ℕ → List (ℕ × Conn) → List (ℕ × Ends) → List ℕ
takers k conns exchanges = numbers_where (λ c. takes_one k (length (exchanges_of c exchanges))) conns

-- the earliest joined of them: the one with the least number
abbrev pub chosen : ℕ → Links → Option ℕ
chosen k links = first (takers k links.conns links.exchanges)

-- ---- what is true at all times
-- an exchange stands between known connections: a client's, and a cluster's where it has one
pub record HasEnds (conns : List (ℕ × Conn)) (ends : Ends) : Type 0 where
  pub client : option_map_or (λ conn. not (is_some conn.cluster)) (under ends.client conns) false ≡ true
  pub cluster : IfSome ends.cluster (λ t. IsSome (option_and_then (λ conn. conn.cluster) (under t conns)))

pub record IsSound (links : Links) : Type 0 where
  -- each number stands once, in order
  pub conns : Rises (keys_of links.conns)
  pub exchanges : Rises (keys_of links.exchanges)
  pub ends : (x : ℕ) → IfSome (ends_of x links) (HasEnds links.conns)
  -- a stream has one exchange
  pub one : (c stream x y : ℕ) → IsOn c stream x links → IsOn c stream y links → x ≡ y

-- ---- the calls
abbrev pub new_conn : Option ℕ → Conn
new_conn cluster = record { cluster = cluster; live = true; draining = None; concurrent = None }

-- a connection of a client comes, or one to a cluster
abbrev pub accepted : ℕ → Links → Links
accepted c links = record links { conns = insert_entry nat_cmp links.conns c (new_conn None) }

abbrev pub joined : ℕ → ℕ → Links → Links
joined c k links = record links { conns = insert_entry nat_cmp links.conns c (new_conn (Some k)) }

-- the state of a connection changes
abbrev pub with_conn : ℕ → (Conn → Conn) → Links → Links
with_conn c f links = record links { conns = changed c f links.conns }

abbrev pub with_concurrent : ℕ → Conn → Conn
with_concurrent n conn = record conn { concurrent = Some n }

-- the first GOAWAY's number stays
abbrev pub drained : ℕ → Conn → Conn
drained last conn = record conn { draining = Some (unwrap_or conn.draining last) }

abbrev pub closed : Conn → Conn
closed conn = record conn { live = false }

-- the connection is known no more
abbrev pub forgotten : ℕ → Links → Links
forgotten c links = record links { conns = remove_entry (is_at (nat_cmp c)) links.conns }

-- an exchange begins on the stream of a client's connection
abbrev pub started : ℕ → ℕ → ℕ → Option ℕ → Links → Links
started x c stream to links = record links {
  exchanges = insert_entry nat_cmp links.exchanges x (record { client = c; stream = stream; cluster = to; cluster_stream = None });
}

-- it gets its stream at the cluster
abbrev pub with_stream : ℕ → Ends → Ends
with_stream stream ends = record ends { cluster_stream = Some stream }

abbrev pub framed : ℕ → ℕ → Links → Links
framed x stream links = record links { exchanges = changed x (with_stream stream) links.exchanges }

-- it goes
abbrev pub doomed : ℕ → Links → Links
doomed x links = record links { exchanges = remove_entry (is_at (nat_cmp x)) links.exchanges }

-- it has a cluster's connection, but no stream there yet, and no other exchange is on this one
pub record IsToFrame (stream : ℕ) (links : Links) (ends : Ends) : Type 0 where
  pub unframed : ends.cluster_stream ≡ None
  pub unused : IfSome ends.cluster (λ t. exchange_at t stream links ≡ None)
  pub chosen : IsSome ends.cluster
