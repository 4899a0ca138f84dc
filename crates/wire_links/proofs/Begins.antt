-- An exchange begins on the stream of a client's connection, or ends there: all that is kept fits as before.
use Rattle.std.proofs.Common.{ap, inl, inr, refl, subst, sym, ◌∙◌}
use Rattle.std.proofs.lemmas.Bool.{cases_Bool}
use Rattle.std.specs.BTreeMap.{insert_entry, is_at}
use Rattle.std.specs.List.{AllByRecursion}
use Rattle.std.specs.Map.{keys_of, remove_entry}
use Rattle.std.specs.Option.{is_some, option_map_or}
use Rattle.std.specs.Ordering.{nat_cmp}
use Rattle.std.specs.Prelude.{Bool, IfSome, List, None, Option, Some, false, if◌then◌else◌, length, nat_eq, not, true, ℕ, ◌<◌, ◌^◌, ◌||◌, ◌≡◌, ◌≤◌}
use Rattle.wire_links.proofs.Offered.{Exchanges, no_client, takers_alike, takes}
use Rattle.wire_links.proofs.Seen.{IsClient, client_is, conn_found, keys_seen, numbers_found, numbers_it, numbers_others, streams_found, streams_it, streams_others}
use Rattle.number_set.proofs.Sorted.{marked_same}
use Rattle.wire_links.proofs.Tables.{found_other, on_client, same_itself, same_other, spot, spot_there, table_left, table_placed}
use Rattle.number_set.proofs.Tests.{here, same_or_apart, turned}
use Rattle.wire_links.proofs.Under.{choice, entries_insert, entries_remove, keys_changed, other, seen_changed, some_is, under_insert, under_remove}
use Rattle.wire_links.proofs.Where.{has_where, holds, rises_changed, rises_where, where_insert, where_remove}
use Rattle.wire_links.specs.Kept.{AreKept, Offers, Seats, conns_in, conns_of, items_at, numbers_at, room_at, streams_at}
use Rattle.wire_links.specs.Links.{HasEnds, exchanges_of, is_end, is_on, is_same, open_clients, takers, takes_one}
use Rattle.number_set.specs.NumberSet.{Rises, has, marked}
use Rattle.wire_links.specs.Numbers.{changed, under}
use Rattle.wire_links.specs.Seats.{Seat, left, opened}
use Rattle.wire_links.specs.declared.conn.Conn.{Conn}
use Rattle.wire_links.specs.declared.links.exchanges.Ends.{Ends}

-- ---- what an exchange without a cluster is an end of
pub end_here : (e : Ends) → is_end e.client e ≡ true
end_here e = ap (λ b. b || is_same e.cluster e.client) (here e.client e.client refl)

pub end_apart : (e : Ends) (c : ℕ) → e.cluster ≡ None → nat_eq e.client c ≡ false → is_end c e ≡ false
end_apart e c none apart = ap (λ b. b || is_same e.cluster c) (turned c e.client ∙ apart) ∙ ap (λ o. is_same o c) none

pub has_ends : (exchanges : Exchanges) (x c : ℕ) (o : Option Ends) → Rises (keys_of exchanges) → under x exchanges ≡ o → has (exchanges_of c exchanges) x ≡ option_map_or (is_end c) o false
has_ends exchanges x c o r is = has_where (λ _. is_end c) exchanges x r ∙ ap (holds (λ _. is_end c) x) is

-- the exchanges of a connection, where the end of one doesn't matter to it
pub mark_nothing : (exchanges : Exchanges) (x c : ℕ) (b : Bool) → Rises (keys_of exchanges) → has (exchanges_of c exchanges) x ≡ b → marked x b (exchanges_of c exchanges) ≡ exchanges_of c exchanges
mark_nothing exchanges x c b r is = marked_same (exchanges_of c exchanges) x b (rises_where (λ _. is_end c) exchanges r) is

-- no cluster cares for a client's connection
pub offers_stay : (seats : Seats) (old new : Exchanges) (offers : Offers) (c : ℕ) → IsClient c seats → Rises (keys_of seats) → ((k : ℕ) → items_at k offers ≡ takers k (conns_of seats) old) →
    ((j : ℕ) → nat_eq c j ≡ false → exchanges_of j new ≡ exchanges_of j old) → (k : ℕ) → items_at k offers ≡ takers k (conns_of seats) new
offers_stay seats old new offers c client r items others k = items k ∙ takers_alike (conns_of seats) old new k (subst Rises (sym (keys_seen seats)) r) alike
  where
    alike : (j : ℕ) (conn : Conn) → under j (conns_of seats) ≡ Some conn → takes k old j conn ≡ takes k new j conn
    alike j conn is = elim (same_or_apart c j) [
      | inl same ↦
          let it : conn.cluster ≡ None = ap (λ (d : Conn). d.cluster) (some_is conn client.seat.conn (sym is ∙ ap (λ i. under i (conns_of seats)) (sym same) ∙ conn_found seats c client.seat client.found)) ∙ client.none in
          no_client k (length (exchanges_of j old)) conn it ∙ sym (no_client k (length (exchanges_of j new)) conn it)
      | inr apart ↦ ap (λ ns. takes_one k (length ns) conn) (sym (others j apart))
    ]

-- ---- it begins
abbrev pub begun : ℕ → ℕ → ℕ → Exchanges → Exchanges
begun x c stream exchanges = insert_entry nat_cmp exchanges x (record { client = c; stream = stream; cluster = None; cluster_stream = None })

abbrev pub at_client : ℕ → ℕ → Ends
at_client c stream = record { client = c; stream = stream; cluster = None; cluster_stream = None }

pub record CanBegin (seats : Seats) (exchanges : Exchanges) (offers : Offers) (clients : List ℕ) (x c stream : ℕ) : Type 0 where
  pub kept : AreKept seats exchanges offers clients
  pub new_one : under x exchanges ≡ None
  pub client : IsClient c seats
  pub unused : under stream (streams_at c seats) ≡ None

module _ (seats : Seats) (exchanges : Exchanges) (offers : Offers) (clients : List ℕ) (x c stream : ℕ) (can : CanBegin seats exchanges offers clients x c stream) where
  not_of : (j : ℕ) → marked x false (exchanges_of j exchanges) ≡ exchanges_of j exchanges
  not_of j = mark_nothing exchanges x j false can.kept.order (has_ends exchanges x j None can.kept.order can.new_one)

  begun_others : (j : ℕ) → nat_eq c j ≡ false → exchanges_of j (begun x c stream exchanges) ≡ exchanges_of j exchanges
  begun_others j apart = where_insert (λ _. is_end j) exchanges x (at_client c stream) can.kept.order
      ∙ ap (λ b. marked x b (exchanges_of j exchanges)) (end_apart (at_client c stream) j refl apart) ∙ not_of j

  begun_numbers : (j : ℕ) → numbers_at j (changed c (opened stream x) seats) ≡ exchanges_of j (begun x c stream exchanges)
  begun_numbers j = elim (same_or_apart c j) [
    | inl same ↦ subst (λ i. numbers_at i (changed c (opened stream x) seats) ≡ exchanges_of i (begun x c stream exchanges)) same
        (numbers_it seats c (opened stream x) can.client.seat can.client.found
        ∙ ap (marked x true) (sym (numbers_found seats c can.client.seat can.client.found) ∙ can.kept.numbers c)
        ∙ ap (λ b. marked x b (exchanges_of c exchanges)) (sym (end_here (at_client c stream)))
        ∙ sym (where_insert (λ _. is_end c) exchanges x (at_client c stream) can.kept.order))
    | inr apart ↦ numbers_others seats c (opened stream x) j apart ∙ can.kept.numbers j ∙ sym (begun_others j apart)
  ]

  begun_tables : (j : ℕ) → Rises (keys_of (streams_at j (changed c (opened stream x) seats)))
  begun_tables j = elim (same_or_apart c j) [
    | inl same ↦ subst (λ i. Rises (keys_of (streams_at i (changed c (opened stream x) seats)))) same
        (subst (λ t. Rises (keys_of t)) (sym (streams_it seats c (opened stream x) can.client.seat can.client.found))
        (entries_insert can.client.seat.streams stream x (subst (λ t. Rises (keys_of t)) (streams_found seats c can.client.seat can.client.found) (can.kept.tables c))))
    | inr apart ↦ subst (λ t. Rises (keys_of t)) (sym (streams_others seats c (opened stream x) j apart)) (can.kept.tables j)
  ]

  begun_streams : (j s y : ℕ) → is_same (under s (streams_at j (changed c (opened stream x) seats))) y ≡ option_map_or (is_on j s) (under y (begun x c stream exchanges)) false
  begun_streams j s y =
      let table : under s (streams_at j (changed c (opened stream x) seats)) ≡ (if spot c stream j s then Some x else under s (streams_at j seats)) =
      table_placed seats c stream (opened stream x) can.client.seat can.client.found x refl j s in
      let was : is_same (under s (streams_at j seats)) y ≡ option_map_or (is_on j s) (under y exchanges) false = can.kept.streams j s y in
      let now : under y (begun x c stream exchanges) ≡ (if nat_eq x y then Some (at_client c stream) else under y exchanges) = under_insert exchanges x y (at_client c stream) in
      elim (cases_Bool (spot c stream j s)) [
        | inl there ↦
            let left : is_same (under s (streams_at j (changed c (opened stream x) seats))) y ≡ is_same (Some x) y =
            ap (λ o. is_same o y) (table ∙ ap (λ b. if b then Some x else under s (streams_at j seats)) there) in
            elim (same_or_apart x y) [
              | inl same ↦ left ∙ ap (is_same (Some x)) (sym same) ∙ same_itself x ∙ sym there ∙ sym (on_client (at_client c stream) j s refl)
                  ∙ sym (ap (λ o. option_map_or (is_on j s) o false) (now ∙ choice x y (Some (at_client c stream)) (under y exchanges) same))
              | inr apart ↦ left ∙ same_other x y apart ∙ sym (ap (λ o. is_same o y) (spot_there seats c stream j s there ∙ can.unused)) ∙ was
                  ∙ sym (ap (λ o. option_map_or (is_on j s) o false) (now ∙ other x y (Some (at_client c stream)) (under y exchanges) apart))
            ]
        | inr elsewhere ↦
            let left : is_same (under s (streams_at j (changed c (opened stream x) seats))) y ≡ is_same (under s (streams_at j seats)) y =
            ap (λ o. is_same o y) (table ∙ ap (λ b. if b then Some x else under s (streams_at j seats)) elsewhere) in
            elim (same_or_apart x y) [
              | inl same ↦ left ∙ was ∙ ap (λ o. option_map_or (is_on j s) o false) (ap (λ z. under z exchanges) (sym same) ∙ can.new_one)
                  ∙ sym elsewhere ∙ sym (on_client (at_client c stream) j s refl)
                  ∙ sym (ap (λ o. option_map_or (is_on j s) o false) (now ∙ choice x y (Some (at_client c stream)) (under y exchanges) same))
              | inr apart ↦ left ∙ was ∙ sym (ap (λ o. option_map_or (is_on j s) o false) (now ∙ other x y (Some (at_client c stream)) (under y exchanges) apart))
            ]
      ]

  pub begun_seen : conns_of (changed c (opened stream x) seats) ≡ conns_of seats
  begun_seen = seen_changed (λ (s : Seat). s.conn) seats c (opened stream x) (λ _. refl)

  client_there : option_map_or (λ conn. not (is_some conn.cluster)) (under c (conns_of seats)) false ≡ true
  client_there = ap (λ o. option_map_or (λ (conn : Conn). not (is_some conn.cluster)) o false) (conn_found seats c can.client.seat can.client.found) ∙ ap (λ o. not (is_some o)) can.client.none

  begun_ends : (y : ℕ) → IfSome (under y (begun x c stream exchanges)) (HasEnds (conns_of seats))
  begun_ends y =
      let now : under y (begun x c stream exchanges) ≡ (if nat_eq x y then Some (at_client c stream) else under y exchanges) = under_insert exchanges x y (at_client c stream) in
      elim (same_or_apart x y) [
        | inl same ↦ subst (λ o. IfSome o (HasEnds (conns_of seats))) (sym (now ∙ choice x y (Some (at_client c stream)) (under y exchanges) same)) (record { client = client_there; cluster = tt })
        | inr apart ↦ subst (λ o. IfSome o (HasEnds (conns_of seats))) (sym (now ∙ other x y (Some (at_client c stream)) (under y exchanges) apart)) (can.kept.ends y)
      ]

  pub begins : AreKept (changed c (opened stream x) seats) (begun x c stream exchanges) offers clients
  begins = record {
    conns = rises_changed seats c (opened stream x) can.kept.conns;
    small = subst (AllByRecursion (λ n. n < 2 ^ 32)) (sym (keys_changed seats c (opened stream x))) can.kept.small;
    order = entries_insert exchanges x (at_client c stream) can.kept.order;
    ends = λ y. subst (λ cs. IfSome (under y (begun x c stream exchanges)) (HasEnds cs)) (sym begun_seen) (begun_ends y);
    numbers = begun_numbers;
    tables = begun_tables;
    streams = begun_streams;
    offers = λ k. subst (λ cs. items_at k offers ≡ takers k cs (begun x c stream exchanges)) (sym begun_seen)
        (offers_stay seats exchanges (begun x c stream exchanges) offers c can.client can.kept.conns can.kept.offers begun_others k);
    room = λ k. subst (λ cs. length (conns_in k cs) ≤ room_at k offers) (sym begun_seen) (can.kept.room k);
    clients = can.kept.clients ∙ ap open_clients (sym begun_seen);
  }

-- ---- it ends
pub record CanEnd (seats : Seats) (exchanges : Exchanges) (offers : Offers) (clients : List ℕ) (x : ℕ) (e : Ends) : Type 0 where
  pub kept : AreKept seats exchanges offers clients
  pub found : under x exchanges ≡ Some e
  pub alone : e.cluster ≡ None

abbrev pub ended : ℕ → Exchanges → Exchanges
ended x exchanges = remove_entry (is_at (nat_cmp x)) exchanges

module _ (seats : Seats) (exchanges : Exchanges) (offers : Offers) (clients : List ℕ) (x : ℕ) (e : Ends) (can : CanEnd seats exchanges offers clients x e) where
  the_client : IsClient e.client seats
  the_client = client_is seats e.client (ends_there (under x exchanges) can.found (can.kept.ends x)).client
    where
      ends_there : (o : Option Ends) → o ≡ Some e → IfSome o (HasEnds (conns_of seats)) → HasEnds (conns_of seats) e
      ends_there o is ends = subst (λ p. IfSome p (HasEnds (conns_of seats))) is ends

  ended_others : (j : ℕ) → nat_eq e.client j ≡ false → exchanges_of j (ended x exchanges) ≡ exchanges_of j exchanges
  ended_others j apart = where_remove (λ _. is_end j) exchanges x can.kept.order
      ∙ mark_nothing exchanges x j false can.kept.order (has_ends exchanges x j (Some e) can.kept.order can.found ∙ end_apart e j can.alone apart)

  ended_numbers : (j : ℕ) → numbers_at j (changed e.client (left x (Some e.stream)) seats) ≡ exchanges_of j (ended x exchanges)
  ended_numbers j = elim (same_or_apart e.client j) [
    | inl same ↦ subst (λ i. numbers_at i (changed e.client (left x (Some e.stream)) seats) ≡ exchanges_of i (ended x exchanges)) same
        (numbers_it seats e.client (left x (Some e.stream)) the_client.seat the_client.found
        ∙ ap (marked x false) (sym (numbers_found seats e.client the_client.seat the_client.found) ∙ can.kept.numbers e.client)
        ∙ sym (where_remove (λ _. is_end e.client) exchanges x can.kept.order))
    | inr apart ↦ numbers_others seats e.client (left x (Some e.stream)) j apart ∙ can.kept.numbers j ∙ sym (ended_others j apart)
  ]

  ended_tables : (j : ℕ) → Rises (keys_of (streams_at j (changed e.client (left x (Some e.stream)) seats)))
  ended_tables j = elim (same_or_apart e.client j) [
    | inl same ↦ subst (λ i. Rises (keys_of (streams_at i (changed e.client (left x (Some e.stream)) seats)))) same
        (subst (λ t. Rises (keys_of t)) (sym (streams_it seats e.client (left x (Some e.stream)) the_client.seat the_client.found))
        (entries_remove the_client.seat.streams e.stream (subst (λ t. Rises (keys_of t)) (streams_found seats e.client the_client.seat the_client.found) (can.kept.tables e.client))))
    | inr apart ↦ subst (λ t. Rises (keys_of t)) (sym (streams_others seats e.client (left x (Some e.stream)) j apart)) (can.kept.tables j)
  ]

  ended_streams : (j s y : ℕ) → is_same (under s (streams_at j (changed e.client (left x (Some e.stream)) seats))) y ≡ option_map_or (is_on j s) (under y (ended x exchanges)) false
  ended_streams j s y =
      let table : under s (streams_at j (changed e.client (left x (Some e.stream)) seats)) ≡ (if spot e.client e.stream j s then None else under s (streams_at j seats)) =
      table_left seats e.client e.stream (left x (Some e.stream)) the_client.seat the_client.found (can.kept.tables e.client) refl j s in
      let was : is_same (under s (streams_at j seats)) y ≡ option_map_or (is_on j s) (under y exchanges) false = can.kept.streams j s y in
      let it : is_same (under s (streams_at j seats)) x ≡ spot e.client e.stream j s =
      can.kept.streams j s x ∙ ap (λ o. option_map_or (is_on j s) o false) can.found ∙ on_client e j s can.alone in
      let now : under y (ended x exchanges) ≡ (if nat_eq x y then None else under y exchanges) = under_remove exchanges x y can.kept.order in
      elim (same_or_apart x y) [
        | inl same ↦
            let none : option_map_or (is_on j s) (under y (ended x exchanges)) false ≡ false = ap (λ o. option_map_or (is_on j s) o false) (now ∙ choice x y None (under y exchanges) same) in
            elim (cases_Bool (spot e.client e.stream j s)) [
              | inl there ↦ ap (λ o. is_same o y) (table ∙ ap (λ b. if b then None else under s (streams_at j seats)) there) ∙ sym none
              | inr elsewhere ↦ ap (λ o. is_same o y) (table ∙ ap (λ b. if b then None else under s (streams_at j seats)) elsewhere)
                  ∙ ap (is_same (under s (streams_at j seats))) (sym same) ∙ it ∙ elsewhere ∙ sym none
            ]
        | inr apart ↦
            let old : option_map_or (is_on j s) (under y (ended x exchanges)) false ≡ option_map_or (is_on j s) (under y exchanges) false =
            ap (λ o. option_map_or (is_on j s) o false) (now ∙ other x y None (under y exchanges) apart) in
            elim (cases_Bool (spot e.client e.stream j s)) [
              | inl there ↦ ap (λ o. is_same o y) (table ∙ ap (λ b. if b then None else under s (streams_at j seats)) there)
                  ∙ sym (found_other (under s (streams_at j seats)) x y (it ∙ there) apart) ∙ was ∙ sym old
              | inr elsewhere ↦ ap (λ o. is_same o y) (table ∙ ap (λ b. if b then None else under s (streams_at j seats)) elsewhere) ∙ was ∙ sym old
            ]
      ]

  pub ended_seen : conns_of (changed e.client (left x (Some e.stream)) seats) ≡ conns_of seats
  ended_seen = seen_changed (λ (s : Seat). s.conn) seats e.client (left x (Some e.stream)) (λ _. refl)

  ended_ends : (y : ℕ) → IfSome (under y (ended x exchanges)) (HasEnds (conns_of seats))
  ended_ends y =
      let now : under y (ended x exchanges) ≡ (if nat_eq x y then None else under y exchanges) = under_remove exchanges x y can.kept.order in
      elim (same_or_apart x y) [
        | inl same ↦ subst (λ o. IfSome o (HasEnds (conns_of seats))) (sym (now ∙ choice x y None (under y exchanges) same)) tt
        | inr apart ↦ subst (λ o. IfSome o (HasEnds (conns_of seats))) (sym (now ∙ other x y None (under y exchanges) apart)) (can.kept.ends y)
      ]

  pub ends : AreKept (changed e.client (left x (Some e.stream)) seats) (ended x exchanges) offers clients
  ends = record {
    conns = rises_changed seats e.client (left x (Some e.stream)) can.kept.conns;
    small = subst (AllByRecursion (λ n. n < 2 ^ 32)) (sym (keys_changed seats e.client (left x (Some e.stream)))) can.kept.small;
    order = entries_remove exchanges x can.kept.order;
    ends = λ y. subst (λ cs. IfSome (under y (ended x exchanges)) (HasEnds cs)) (sym ended_seen) (ended_ends y);
    numbers = ended_numbers;
    tables = ended_tables;
    streams = ended_streams;
    offers = λ k. subst (λ cs. items_at k offers ≡ takers k cs (ended x exchanges)) (sym ended_seen)
        (offers_stay seats exchanges (ended x exchanges) offers e.client the_client can.kept.conns can.kept.offers ended_others k);
    room = λ k. subst (λ cs. length (conns_in k cs) ≤ room_at k offers) (sym ended_seen) (can.kept.room k);
    clients = can.kept.clients ∙ ap open_clients (sym ended_seen);
  }
