-- What is looked up among connections as they are kept, and what is seen of them.
use Rattle.std.proofs.Common.{ap, refl, sym, ◌∙◌}
use Rattle.std.proofs.lemmas.Bool.{false≢true}
use Rattle.std.proofs.lemmas.Map.Made.{lookup-map_values}
use Rattle.std.proofs.lemmas.Option.{none-some}
use Rattle.std.specs.BTreeMap.{is_at}
use Rattle.std.specs.Map.{keys_of}
use Rattle.std.specs.Option.{is_some, option_and_then, option_map, option_map_or}
use Rattle.std.specs.Ordering.{nat_cmp}
use Rattle.std.specs.Prelude.{Bool, IsSome, None, Option, Some, [], false, nat_eq, not, true, ℕ, ◌∷◌, ◌≡◌}
use Rattle.number_set.proofs.Tests.{same_is}
use Rattle.wire_links.proofs.Under.{some_is, under_it, under_others}
use Rattle.wire_links.specs.Kept.{Seats, conns_of, numbers_at, streams_at}
use Rattle.wire_links.specs.Numbers.{changed, under}
use Rattle.wire_links.specs.Seats.{Seat}
use Rattle.wire_links.specs.declared.conn.Conn.{Conn}

pub keys_seen : (seats : Seats) → keys_of (conns_of seats) ≡ keys_of seats
keys_seen [] = refl
keys_seen (e ∷ seats) = ap (λ ks. e.0 ∷ ks) (keys_seen seats)

pub under_seen : (seats : Seats) (c : ℕ) → under c (conns_of seats) ≡ option_map (λ (s : Seat). s.conn) (under c seats)
under_seen seats c = lookup-map_values (λ (s : Seat). s.conn) (is_at (nat_cmp c)) seats

pub conn_found : (seats : Seats) (c : ℕ) (seat : Seat) → under c seats ≡ Some seat → under c (conns_of seats) ≡ Some seat.conn
conn_found seats c seat is = under_seen seats c ∙ ap (option_map (λ (s : Seat). s.conn)) is

-- a connection that is seen is kept
pub record IsSeat (c : ℕ) (seats : Seats) (conn : Conn) : Type 0 where
  pub seat : Seat
  pub found : under c seats ≡ Some seat
  pub conn_is : seat.conn ≡ conn

pub seat_found : (seats : Seats) (c : ℕ) (conn : Conn) → under c (conns_of seats) ≡ Some conn → IsSeat c seats conn
seat_found seats c conn is = by_found (under c seats) refl
  where
    by_found : (o : Option Seat) → under c seats ≡ o → IsSeat c seats conn
    by_found None none = absurd (false≢true (ap is_some (sym (under_seen seats c ∙ ap (option_map (λ (s : Seat). s.conn)) none) ∙ is)))
    by_found (Some seat) found = record { seat = seat; found = found; conn_is = some_is seat.conn conn (sym (conn_found seats c seat found) ∙ is) }

-- ---- of one connection, and of the others
module _ (seats : Seats) (c : ℕ) where
  pub numbers_found : (seat : Seat) → under c seats ≡ Some seat → numbers_at c seats ≡ seat.numbers
  numbers_found seat is = ap (λ o. option_map_or (λ (s : Seat). s.numbers) o []) is

  pub streams_found : (seat : Seat) → under c seats ≡ Some seat → streams_at c seats ≡ seat.streams
  streams_found seat is = ap (λ o. option_map_or (λ (s : Seat). s.streams) o []) is

  module _ (f : Seat → Seat) where
    pub numbers_it : (seat : Seat) → under c seats ≡ Some seat → numbers_at c (changed c f seats) ≡ (f seat).numbers
    numbers_it seat is = ap (λ o. option_map_or (λ (s : Seat). s.numbers) o []) (under_it seats c f seat is)

    pub streams_it : (seat : Seat) → under c seats ≡ Some seat → streams_at c (changed c f seats) ≡ (f seat).streams
    streams_it seat is = ap (λ o. option_map_or (λ (s : Seat). s.streams) o []) (under_it seats c f seat is)

    pub numbers_others : (j : ℕ) → nat_eq c j ≡ false → numbers_at j (changed c f seats) ≡ numbers_at j seats
    numbers_others j apart = ap (λ o. option_map_or (λ (s : Seat). s.numbers) o []) (under_others seats c j f apart)

    pub streams_others : (j : ℕ) → nat_eq c j ≡ false → streams_at j (changed c f seats) ≡ streams_at j seats
    streams_others j apart = ap (λ o. option_map_or (λ (s : Seat). s.streams) o []) (under_others seats c j f apart)

-- ---- the ends of an exchange
pub record IsClient (c : ℕ) (seats : Seats) : Type 0 where
  pub seat : Seat
  pub found : under c seats ≡ Some seat
  pub none : seat.conn.cluster ≡ None

pub client_is : (seats : Seats) (c : ℕ) → option_map_or (λ conn. not (is_some conn.cluster)) (under c (conns_of seats)) false ≡ true → IsClient c seats
client_is seats c client = by_conn (under c (conns_of seats)) refl client
  where
    by_cluster : (conn : Conn) (o : Option ℕ) → conn.cluster ≡ o → not (is_some o) ≡ true → conn.cluster ≡ None
    by_cluster conn None is so = is
    by_cluster conn (Some k) is so = absurd (false≢true so)

    by_conn : (o : Option Conn) → under c (conns_of seats) ≡ o → option_map_or (λ conn. not (is_some conn.cluster)) o false ≡ true → IsClient c seats
    by_conn None none so = absurd (false≢true so)
    by_conn (Some conn) is so =
        let found : IsSeat c seats conn = seat_found seats c conn is in
        record { seat = found.seat; found = found.found; none = ap (λ (d : Conn). d.cluster) found.conn_is ∙ by_cluster conn conn.cluster refl so }

pub record IsCluster (t : ℕ) (seats : Seats) : Type 0 where
  pub seat : Seat
  pub cluster : ℕ
  pub found : under t seats ≡ Some seat
  pub some : seat.conn.cluster ≡ Some cluster

pub cluster_is : (seats : Seats) (t : ℕ) → IsSome (option_and_then (λ conn. conn.cluster) (under t (conns_of seats))) → IsCluster t seats
cluster_is seats t cluster = by_conn (under t (conns_of seats)) refl cluster
  where
    by_cluster : (conn : Conn) (o : Option ℕ) → IsSeat t seats conn → conn.cluster ≡ o → IsSome o → IsCluster t seats
    by_cluster conn None found is so = absurd (false≢true so)
    by_cluster conn (Some k) found is so = record { seat = found.seat; cluster = k; found = found.found; some = ap (λ (d : Conn). d.cluster) found.conn_is ∙ is }

    by_conn : (o : Option Conn) → under t (conns_of seats) ≡ o → IsSome (option_and_then (λ conn. conn.cluster) o) → IsCluster t seats
    by_conn None none so = absurd (false≢true so)
    by_conn (Some conn) is so = by_cluster conn conn.cluster (seat_found seats t conn is) refl so

-- a client's connection is no cluster's
pub ends_apart : (seats : Seats) (c t : ℕ) → IsClient c seats → IsCluster t seats → nat_eq t c ≡ false
ends_apart seats c t client cluster = by_test (nat_eq t c) refl
  where
    by_test : (b : Bool) → nat_eq t c ≡ b → nat_eq t c ≡ false
    by_test true is = absurd (none-some cluster.cluster (sym client.none ∙ ap (λ (s : Seat). s.conn.cluster) (some_is client.seat cluster.seat (sym client.found ∙ ap (λ n. under n seats) (sym (same_is t c is)) ∙ cluster.found)) ∙ cluster.some))
    by_test false is = is
