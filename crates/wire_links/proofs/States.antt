-- A connection comes, changes its state or is forgotten: all that is kept fits as before.
use Rattle.std.proofs.Common.{ap, inl, inr, refl, subst, sym, ◌∙◌}
use Rattle.std.proofs.lemmas.Bool.{false≢true}
use Rattle.std.specs.BTreeMap.{is_at}
use Rattle.std.specs.List.{AllByRecursion}
use Rattle.std.specs.Map.{keys_of}
use Rattle.std.specs.Option.{is_some, option_and_then, option_map, option_map_or}
use Rattle.std.specs.Ordering.{nat_cmp}
use Rattle.std.specs.Prelude.{Bool, IfSome, IsSome, List, None, Option, Some, false, if◌then◌else◌, length, nat_eq, not, true, ℕ, ◌<◌, ◌&&◌, ◌^◌, ◌||◌, ◌≡◌, ◌≤◌}
use Rattle.std.specs.Set.{remove_key}
use Rattle.wire_links.proofs.Offered.{Conns, Exchanges, no_client, no_other, offer_is, room_kept, some_room, takes, told_right}
use Rattle.wire_links.proofs.Seen.{conn_found, keys_seen, numbers_found, numbers_it, numbers_others, streams_found, streams_it, streams_others, under_seen}
use Rattle.number_set.proofs.Sorted.{marked_same}
use Rattle.wire_links.proofs.Tables.{or_true}
use Rattle.number_set.proofs.Tests.{here, same_or_apart}
use Rattle.wire_links.proofs.Under.{keys_changed, some_is, under_it, under_others}
use Rattle.wire_links.proofs.Where.{has_where, holds, rises_changed, rises_where, where_alike, where_but}
use Rattle.wire_links.specs.Kept.{AreKept, Offers, Seats, conns_in, in_cluster, conns_of, items_at, numbers_at, room_at, streams_at, told, told_of}
use Rattle.wire_links.specs.Links.{HasEnds, exchanges_of, is_end, is_open_client, is_same, open_clients, takers}
use Rattle.number_set.specs.NumberSet.{Rises, marked}
use Rattle.wire_links.specs.Numbers.{changed, under}
use Rattle.wire_links.specs.Seats.{Seat, with_state}
use Rattle.wire_links.specs.declared.conn.Conn.{Conn}
use Rattle.wire_links.specs.declared.links.exchanges.Ends.{Ends}

-- ---- the ends of an exchange stay of their kinds
pub record Stays (conn : Conn) (o : Option Conn) : Type 0 where
  pub now : Conn
  pub is : o ≡ Some now
  pub same : now.cluster ≡ conn.cluster

pub ends_stay : (old new : Conns) (e : Ends) → ((c : ℕ) (conn : Conn) → is_end c e ≡ true → under c old ≡ Some conn → Stays conn (under c new)) → HasEnds old e → HasEnds new e
ends_stay old new e stays ends = record { client = client_of (under e.client old) refl ends.client; cluster = cluster_of e.cluster refl ends.cluster }
  where
    client_of : (o : Option Conn) → under e.client old ≡ o → option_map_or (λ (conn : Conn). not (is_some conn.cluster)) o false ≡ true →
        option_map_or (λ (conn : Conn). not (is_some conn.cluster)) (under e.client new) false ≡ true
    client_of None none so = absurd (false≢true so)
    client_of (Some conn) is so =
        let s : Stays conn (under e.client new) = stays e.client conn (ap (λ b. b || is_same e.cluster e.client) (here e.client e.client refl)) is in
        ap (λ o. option_map_or (λ (d : Conn). not (is_some d.cluster)) o false) s.is ∙ ap (λ o. not (is_some o)) s.same ∙ so

    of_conn : (t : ℕ) (o : Option Conn) → is_end t e ≡ true → under t old ≡ o → IsSome (option_and_then (λ (conn : Conn). conn.cluster) o) → IsSome (option_and_then (λ (conn : Conn). conn.cluster) (under t new))
    of_conn t None end none so = absurd (false≢true so)
    of_conn t (Some conn) end is so =
        let s : Stays conn (under t new) = stays t conn end is in
        ap is_some (ap (option_and_then (λ (d : Conn). d.cluster)) s.is ∙ s.same) ∙ so

    cluster_of : (o : Option ℕ) → e.cluster ≡ o → IfSome o (λ t. IsSome (option_and_then (λ (conn : Conn). conn.cluster) (under t old))) → IfSome o (λ t. IsSome (option_and_then (λ (conn : Conn). conn.cluster) (under t new)))
    cluster_of None none so = tt
    cluster_of (Some t) to so = of_conn t (under t old) (ap (λ o. nat_eq t e.client || is_same o t) to ∙ ap (λ b. nat_eq t e.client || b) (here t t refl) ∙ or_true (nat_eq t e.client)) refl so

-- ---- the state of a connection changes
pub record CanPut (seats : Seats) (exchanges : Exchanges) (offers : Offers) (clients : List ℕ) (c : ℕ) (state : Conn) : Type 0 where
  pub kept : AreKept seats exchanges offers clients
  pub seat : Seat
  pub found : under c seats ≡ Some seat
  pub kind : state.cluster ≡ seat.conn.cluster
  pub closed : state.live ≡ true → seat.conn.live ≡ true

-- the clients that are open then
abbrev pub clients_put : ℕ → Conn → List ℕ → List ℕ
clients_put c state clients = if state.live then clients else remove_key (is_at (nat_cmp c)) clients

module _ (seats : Seats) (exchanges : Exchanges) (offers : Offers) (clients : List ℕ) (c : ℕ) (state : Conn) (can : CanPut seats exchanges offers clients c state) where
  put_numbers : (j : ℕ) → numbers_at j (changed c (with_state state) seats) ≡ numbers_at j seats
  put_numbers j = elim (same_or_apart c j) [
    | inl same ↦ subst (λ i. numbers_at i (changed c (with_state state) seats) ≡ numbers_at i seats) same
        (numbers_it seats c (with_state state) can.seat can.found ∙ sym (numbers_found seats c can.seat can.found))
    | inr apart ↦ numbers_others seats c (with_state state) j apart
  ]

  put_tables : (j : ℕ) → streams_at j (changed c (with_state state) seats) ≡ streams_at j seats
  put_tables j = elim (same_or_apart c j) [
    | inl same ↦ subst (λ i. streams_at i (changed c (with_state state) seats) ≡ streams_at i seats) same
        (streams_it seats c (with_state state) can.seat can.found ∙ sym (streams_found seats c can.seat can.found))
    | inr apart ↦ streams_others seats c (with_state state) j apart
  ]

  put_rises : Rises (keys_of (conns_of seats))
  put_rises = subst Rises (sym (keys_seen seats)) can.kept.conns

  put_rises' : Rises (keys_of (conns_of (changed c (with_state state) seats)))
  put_rises' = subst Rises (sym (keys_seen (changed c (with_state state) seats))) (rises_changed seats c (with_state state) can.kept.conns)

  put_old : under c (conns_of seats) ≡ Some can.seat.conn
  put_old = conn_found seats c can.seat can.found

  put_new : under c (conns_of (changed c (with_state state) seats)) ≡ Some state
  put_new = conn_found (changed c (with_state state) seats) c (with_state state can.seat) (under_it seats c (with_state state) can.seat can.found)

  put_others : (j : ℕ) → nat_eq c j ≡ false → under j (conns_of (changed c (with_state state) seats)) ≡ under j (conns_of seats)
  put_others j apart = under_seen (changed c (with_state state) seats) j ∙ ap (option_map (λ (s : Seat). s.conn)) (under_others seats c j (with_state state) apart) ∙ sym (under_seen seats j)

  put_ends : (y : ℕ) → IfSome (under y exchanges) (HasEnds (conns_of (changed c (with_state state) seats)))
  put_ends y = by_found (under y exchanges) (can.kept.ends y)
    where
      stays : (e : Ends) (d : ℕ) (conn : Conn) → is_end d e ≡ true → under d (conns_of seats) ≡ Some conn → Stays conn (under d (conns_of (changed c (with_state state) seats)))
      stays e d conn end is = elim (same_or_apart c d) [
        | inl same ↦ record {
          now = state;
          is = ap (λ n. under n (conns_of (changed c (with_state state) seats))) (sym same) ∙ put_new;
          same = can.kind ∙ ap (λ (k : Conn). k.cluster) (some_is can.seat.conn conn (sym put_old ∙ ap (λ n. under n (conns_of seats)) same ∙ is));
        }
        | inr apart ↦ record { now = conn; is = put_others d apart ∙ is; same = refl }
      ]

      by_found : (o : Option Ends) → IfSome o (HasEnds (conns_of seats)) → IfSome o (HasEnds (conns_of (changed c (with_state state) seats)))
      by_found None ends = tt
      by_found (Some e) ends = ends_stay (conns_of seats) (conns_of (changed c (with_state state) seats)) e (stays e) ends

  put_it : under c (changed c (with_state state) seats) ≡ Some (with_state state can.seat)
  put_it = under_it seats c (with_state state) can.seat can.found

  put_offers : (o : Option ℕ) → state.cluster ≡ o → (k : ℕ) →
      items_at k (told c (Some (with_state state can.seat)) offers) ≡ takers k (conns_of (changed c (with_state state) seats)) exchanges
  put_offers None none k = ap (λ o. items_at k (told_of c (with_state state can.seat) o offers)) none ∙ can.kept.offers k
      ∙ where_alike (takes k exchanges) (takes k exchanges) (conns_of seats) (conns_of (changed c (with_state state) seats)) put_rises put_rises' alike
    where
      alike : (j : ℕ) → holds (takes k exchanges) j (under j (conns_of seats)) ≡ holds (takes k exchanges) j (under j (conns_of (changed c (with_state state) seats)))
      alike j = elim (same_or_apart c j) [
        | inl same ↦ subst (λ i. holds (takes k exchanges) i (under i (conns_of seats)) ≡ holds (takes k exchanges) i (under i (conns_of (changed c (with_state state) seats)))) same
            (ap (holds (takes k exchanges) c) put_old ∙ no_client k (length (exchanges_of c exchanges)) can.seat.conn (sym can.kind ∙ none)
            ∙ sym (ap (holds (takes k exchanges) c) put_new ∙ no_client k (length (exchanges_of c exchanges)) state none))
        | inr apart ↦ ap (holds (takes k exchanges) j) (sym (put_others j apart))
      ]
  put_offers (Some own) is k = told_right own c (with_state state can.seat) (conns_of seats) (conns_of (changed c (with_state state) seats)) exchanges exchanges offers (record {
    rises = put_rises;
    rises' = put_rises';
    old = can.kept.offers;
    there = put_new;
    kind = is;
    count = ap length (sym (numbers_found seats c can.seat can.found) ∙ can.kept.numbers c);
    others = λ j d apart. ap (holds (takes j exchanges) d) (put_others d apart);
    foreign = λ j apart. ap (holds (takes j exchanges) c) put_old ∙ no_other own j (length (exchanges_of c exchanges)) can.seat.conn (sym can.kind ∙ is) apart;
    offer = offer_is offers own (some_room (conns_of seats) own c (room_at own offers) can.seat.conn put_old (sym can.kind ∙ is) (can.kept.room own));
  }) k

  put_conns_in : (k : ℕ) → conns_in k (conns_of seats) ≡ conns_in k (conns_of (changed c (with_state state) seats))
  put_conns_in k = where_alike (in_cluster k) (in_cluster k) (conns_of seats) (conns_of (changed c (with_state state) seats)) put_rises put_rises' alike
    where
      alike : (j : ℕ) → holds (in_cluster k) j (under j (conns_of seats)) ≡ holds (in_cluster k) j (under j (conns_of (changed c (with_state state) seats)))
      alike j = elim (same_or_apart c j) [
        | inl same ↦ subst (λ i. holds (in_cluster k) i (under i (conns_of seats)) ≡ holds (in_cluster k) i (under i (conns_of (changed c (with_state state) seats)))) same
            (ap (holds (in_cluster k) c) put_old ∙ ap (λ o. is_same o k) (sym can.kind) ∙ sym (ap (holds (in_cluster k) c) put_new))
        | inr apart ↦ ap (holds (in_cluster k) j) (sym (put_others j apart))
      ]

  put_room : (o : Option ℕ) → state.cluster ≡ o → (k : ℕ) → room_at k (told c (Some (with_state state can.seat)) offers) ≡ room_at k offers
  put_room None none k = ap (λ o. room_at k (told_of c (with_state state can.seat) o offers)) none
  put_room (Some own) is k = room_kept own c (with_state state can.seat) offers is
      (offer_is offers own (some_room (conns_of seats) own c (room_at own offers) can.seat.conn put_old (sym can.kind ∙ is) (can.kept.room own))) k

  put_marked : open_clients (conns_of (changed c (with_state state) seats)) ≡ marked c (is_open_client state) (open_clients (conns_of seats))
  put_marked = where_but (λ _. is_open_client) (λ _. is_open_client) (conns_of seats) (conns_of (changed c (with_state state) seats)) c (is_open_client state) put_rises put_rises'
      (ap (holds (λ _. is_open_client) c) put_new) (λ j apart. ap (holds (λ _. is_open_client) j) (put_others j apart))

  put_clients : (b : Bool) → state.live ≡ b → clients_put c state clients ≡ open_clients (conns_of (changed c (with_state state) seats))
  put_clients true live =
      let same : is_open_client can.seat.conn ≡ is_open_client state =
      ap (λ b. b && not (is_some can.seat.conn.cluster)) (can.closed live ∙ sym live) ∙ ap (λ o. state.live && not (is_some o)) (sym can.kind) in
      ap (λ b. if b then clients else remove_key (is_at (nat_cmp c)) clients) live ∙ can.kept.clients
      ∙ sym (put_marked ∙ marked_same (open_clients (conns_of seats)) c (is_open_client state) (rises_where (λ _. is_open_client) (conns_of seats) put_rises)
      (has_where (λ _. is_open_client) (conns_of seats) c put_rises ∙ ap (holds (λ _. is_open_client) c) put_old ∙ same))
  put_clients false dead = ap (λ b. if b then clients else remove_key (is_at (nat_cmp c)) clients) dead ∙ ap (remove_key (is_at (nat_cmp c))) can.kept.clients
      ∙ sym (put_marked ∙ ap (λ b. marked c (b && not (is_some state.cluster)) (open_clients (conns_of seats))) dead)

  pub puts : AreKept (changed c (with_state state) seats) exchanges (told c (under c (changed c (with_state state) seats)) offers) (clients_put c state clients)
  puts = record {
    conns = rises_changed seats c (with_state state) can.kept.conns;
    small = subst (AllByRecursion (λ n. n < 2 ^ 32)) (sym (keys_changed seats c (with_state state))) can.kept.small;
    order = can.kept.order;
    ends = put_ends;
    numbers = λ j. put_numbers j ∙ can.kept.numbers j;
    tables = λ j. subst (λ es. Rises (keys_of es)) (sym (put_tables j)) (can.kept.tables j);
    streams = λ j s y. ap (λ es. is_same (under s es) y) (put_tables j) ∙ can.kept.streams j s y;
    offers = λ k. ap (λ o. items_at k (told c o offers)) put_it ∙ put_offers state.cluster refl k;
    room = λ k. subst (λ n. length (conns_in k (conns_of (changed c (with_state state) seats))) ≤ n) (sym (ap (λ o. room_at k (told c o offers)) put_it ∙ put_room state.cluster refl k))
        (subst (λ ns. length ns ≤ room_at k offers) (put_conns_in k) (can.kept.room k));
    clients = put_clients state.live refl;
  }
