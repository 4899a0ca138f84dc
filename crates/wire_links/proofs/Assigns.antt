-- An exchange gets the connection of a cluster, gets its stream there, or leaves it: all that is kept fits as before.
use Rattle.std.proofs.Common.{ap, inl, inr, refl, subst, sym, ◌∙◌}
use Rattle.std.proofs.lemmas.Bool.{cases_Bool}
use Rattle.std.specs.List.{AllByRecursion}
use Rattle.std.specs.Map.{keys_of}
use Rattle.std.specs.Option.{is_some, option_and_then, option_map_or}
use Rattle.std.specs.Prelude.{IfSome, IsSome, List, None, Option, Some, false, if◌then◌else◌, length, nat_eq, true, ℕ, ◌<◌, ◌&&◌, ◌^◌, ◌||◌, ◌≡◌, ◌≤◌}
use Rattle.wire_links.proofs.Begins.{has_ends, mark_nothing}
use Rattle.wire_links.proofs.Offered.{Exchanges, IsOffer, no_other, offer_is, room_kept, some_room, takers_alike, takes, told_right}
use Rattle.wire_links.proofs.Seen.{IsClient, IsCluster, client_is, cluster_is, conn_found, ends_apart, keys_seen, numbers_found, numbers_it, numbers_others, streams_found, streams_it, streams_others}
use Rattle.wire_links.proofs.Tables.{found_other, on_both, on_client, on_waiting, or_false, or_true, same_itself, same_other, spot, spot_there, table_left, table_placed, table_same, and_first}
use Rattle.number_set.proofs.Tests.{here, same_is, same_or_apart, turned}
use Rattle.wire_links.proofs.Under.{entries_insert, entries_remove, keys_changed, seen_changed, under_it, under_others}
use Rattle.wire_links.proofs.Where.{holds, rises_changed, where_changed}
use Rattle.wire_links.specs.Kept.{AreKept, Offers, Seats, conns_in, conns_of, items_at, numbers_at, room_at, streams_at, told}
use Rattle.wire_links.specs.Links.{HasEnds, exchanges_of, is_end, is_on, is_same, open_clients, takers, takes_one, with_stream}
use Rattle.number_set.specs.NumberSet.{Rises, marked}
use Rattle.wire_links.specs.Numbers.{changed, under}
use Rattle.wire_links.specs.Seats.{Seat, left, linked, placed}
use Rattle.wire_links.specs.declared.conn.Conn.{Conn}
use Rattle.wire_links.specs.declared.links.exchanges.Ends.{Ends}

pub ends_of_found : (seats : Seats) (exchanges : Exchanges) (x : ℕ) (e : Ends) → under x exchanges ≡ Some e → IfSome (under x exchanges) (HasEnds (conns_of seats)) → HasEnds (conns_of seats) e
ends_of_found seats exchanges x e is ends = subst (λ o. IfSome o (HasEnds (conns_of seats))) is ends

-- what an exchange with another end under the same number is the end of
pub ends_changed : (seats : Seats) (exchanges : Exchanges) (x : ℕ) (e : Ends) (g : Ends → Ends) → under x exchanges ≡ Some e → HasEnds (conns_of seats) (g e) →
    ((y : ℕ) → IfSome (under y exchanges) (HasEnds (conns_of seats))) → (y : ℕ) → IfSome (under y (changed x g exchanges)) (HasEnds (conns_of seats))
ends_changed seats exchanges x e g is now all y = elim (same_or_apart x y) [
  | inl same ↦ subst (λ o. IfSome o (HasEnds (conns_of seats))) (sym (ap (λ n. under n (changed x g exchanges)) (sym same) ∙ under_it exchanges x g e is)) now
  | inr apart ↦ subst (λ o. IfSome o (HasEnds (conns_of seats))) (sym (under_others exchanges x y g apart)) (all y)
]

-- ---- a connection of a cluster has other exchanges, and its cluster is told
pub record Relinks (seats : Seats) (exchanges : Exchanges) (offers : Offers) (clients : List ℕ) (t : ℕ) (f : Seat → Seat) (exchanges' : Exchanges) : Type 0 where
  pub kept : AreKept seats exchanges offers clients
  pub cluster : IsCluster t seats
  pub same : (s : Seat) → (f s).conn ≡ s.conn
  pub order : Rises (keys_of exchanges')
  pub ends : (y : ℕ) → IfSome (under y exchanges') (HasEnds (conns_of seats))
  pub numbers : (j : ℕ) → numbers_at j (changed t f seats) ≡ exchanges_of j exchanges'
  pub others : (j : ℕ) → nat_eq t j ≡ false → exchanges_of j exchanges' ≡ exchanges_of j exchanges
  pub tables : (j : ℕ) → Rises (keys_of (streams_at j (changed t f seats)))
  pub streams : (j s y : ℕ) → is_same (under s (streams_at j (changed t f seats))) y ≡ option_map_or (is_on j s) (under y exchanges') false

pub the_offer : (seats : Seats) (exchanges : Exchanges) (offers : Offers) (clients : List ℕ) → AreKept seats exchanges offers clients → (t : ℕ) (cluster : IsCluster t seats) → IsOffer cluster.cluster offers
the_offer seats exchanges offers clients kept t cluster = offer_is offers cluster.cluster
    (some_room (conns_of seats) cluster.cluster t (room_at cluster.cluster offers) cluster.seat.conn (conn_found seats t cluster.seat cluster.found) cluster.some (kept.room cluster.cluster))

pub relinks : (seats : Seats) (exchanges : Exchanges) (offers : Offers) (clients : List ℕ) (t : ℕ) (f : Seat → Seat) (exchanges' : Exchanges) →
    Relinks seats exchanges offers clients t f exchanges' → AreKept (changed t f seats) exchanges' (told t (under t (changed t f seats)) offers) clients
relinks seats exchanges offers clients t f exchanges' is =
    let seen : conns_of (changed t f seats) ≡ conns_of seats = seen_changed (λ (s : Seat). s.conn) seats t f is.same in
    let r : Rises (keys_of (conns_of seats)) = subst Rises (sym (keys_seen seats)) is.kept.conns in
    let it : under t (changed t f seats) ≡ Some (f is.cluster.seat) = under_it seats t f is.cluster.seat is.cluster.found in
    let kind : (f is.cluster.seat).conn.cluster ≡ Some is.cluster.cluster = ap (λ (c : Conn). c.cluster) (is.same is.cluster.seat) ∙ is.cluster.some in
    let offer : IsOffer is.cluster.cluster offers = the_offer seats exchanges offers clients is.kept t is.cluster in
    let there : under t (conns_of seats) ≡ Some is.cluster.seat.conn = conn_found seats t is.cluster.seat is.cluster.found in
    record {
      conns = rises_changed seats t f is.kept.conns;
      small = subst (AllByRecursion (λ n. n < 2 ^ 32)) (sym (keys_changed seats t f)) is.kept.small;
      order = is.order;
      ends = λ y. subst (λ cs. IfSome (under y exchanges') (HasEnds cs)) (sym seen) (is.ends y);
      numbers = is.numbers;
      tables = is.tables;
      streams = is.streams;
      offers = λ k. subst (λ cs. items_at k (told t (under t (changed t f seats)) offers) ≡ takers k cs exchanges') (sym seen)
          (ap (λ o. items_at k (told t o offers)) it
          ∙ told_right is.cluster.cluster t (f is.cluster.seat) (conns_of seats) (conns_of seats) exchanges exchanges' offers (record {
            rises = r;
            rises' = r;
            old = is.kept.offers;
            there = there ∙ ap Some (sym (is.same is.cluster.seat));
            kind = kind;
            count = ap length (sym (numbers_it seats t f is.cluster.seat is.cluster.found) ∙ is.numbers t);
            others = λ j c apart. ap (λ ns. holds (λ d. takes_one j (length ns)) c (under c (conns_of seats))) (is.others c apart);
            foreign = λ j apart. ap (holds (takes j exchanges) t) there ∙ no_other is.cluster.cluster j (length (exchanges_of t exchanges)) is.cluster.seat.conn is.cluster.some apart;
            offer = offer;
          }) k);
      room = λ k. subst (λ cs. length (conns_in k cs) ≤ room_at k (told t (under t (changed t f seats)) offers)) (sym seen)
          (subst (λ n. length (conns_in k (conns_of seats)) ≤ n) (sym (ap (λ o. room_at k (told t o offers)) it ∙ room_kept is.cluster.cluster t (f is.cluster.seat) offers kind offer k)) (is.kept.room k));
      clients = is.kept.clients ∙ ap open_clients (sym seen);
    }

-- ---- it gets the connection of a cluster
abbrev pub assigned : ℕ → Ends → Ends
assigned t e = record e { cluster = Some t }

pub record CanAssign (seats : Seats) (exchanges : Exchanges) (offers : Offers) (clients : List ℕ) (x t : ℕ) (e : Ends) : Type 0 where
  pub kept : AreKept seats exchanges offers clients
  pub found : under x exchanges ≡ Some e
  pub alone : e.cluster ≡ None
  pub waiting : e.cluster_stream ≡ None
  pub cluster : IsCluster t seats

module _ (seats : Seats) (exchanges : Exchanges) (offers : Offers) (clients : List ℕ) (x t : ℕ) (e : Ends) (can : CanAssign seats exchanges offers clients x t e) where
  assigned_others : (j : ℕ) → nat_eq t j ≡ false → exchanges_of j (changed x (assigned t) exchanges) ≡ exchanges_of j exchanges
  assigned_others j apart =
      let same : is_end j e ≡ is_end j (assigned t e) = ap (λ o. nat_eq j e.client || is_same o j) can.alone ∙ ap (λ b. nat_eq j e.client || b) (sym (turned j t ∙ apart)) in
      where_changed (λ _. is_end j) exchanges x (assigned t) e can.kept.order can.found
      ∙ mark_nothing exchanges x j (is_end j (assigned t e)) can.kept.order (has_ends exchanges x j (Some e) can.kept.order can.found ∙ same)

  assigned_numbers : (j : ℕ) → numbers_at j (changed t (linked x) seats) ≡ exchanges_of j (changed x (assigned t) exchanges)
  assigned_numbers j = elim (same_or_apart t j) [
    | inl same ↦ subst (λ i. numbers_at i (changed t (linked x) seats) ≡ exchanges_of i (changed x (assigned t) exchanges)) same
        (numbers_it seats t (linked x) can.cluster.seat can.cluster.found
        ∙ ap (marked x true) (sym (numbers_found seats t can.cluster.seat can.cluster.found) ∙ can.kept.numbers t)
        ∙ ap (λ b. marked x b (exchanges_of t exchanges)) (sym (ap (λ b. nat_eq t e.client || b) (here t t refl) ∙ or_true (nat_eq t e.client)))
        ∙ sym (where_changed (λ _. is_end t) exchanges x (assigned t) e can.kept.order can.found))
    | inr apart ↦ numbers_others seats t (linked x) j apart ∙ can.kept.numbers j ∙ sym (assigned_others j apart)
  ]

  assigned_streams : (j s y : ℕ) → is_same (under s (streams_at j (changed t (linked x) seats))) y ≡ option_map_or (is_on j s) (under y (changed x (assigned t) exchanges)) false
  assigned_streams j s y = ap (λ es. is_same (under s es) y) (table_same seats t 0 (linked x) can.cluster.seat can.cluster.found refl j) ∙ can.kept.streams j s y ∙ elim (same_or_apart x y) [
    | inl same ↦ ap (λ o. option_map_or (is_on j s) o false) (ap (λ n. under n exchanges) (sym same) ∙ can.found)
        ∙ on_waiting e j s can.waiting ∙ sym (on_waiting (assigned t e) j s can.waiting)
        ∙ sym (ap (λ o. option_map_or (is_on j s) o false) (ap (λ n. under n (changed x (assigned t) exchanges)) (sym same) ∙ under_it exchanges x (assigned t) e can.found))
    | inr apart ↦ sym (ap (λ o. option_map_or (is_on j s) o false) (under_others exchanges x y (assigned t) apart))
  ]

  pub assigns : AreKept (changed t (linked x) seats) (changed x (assigned t) exchanges) (told t (under t (changed t (linked x) seats)) offers) clients
  assigns = relinks seats exchanges offers clients t (linked x) (changed x (assigned t) exchanges) (record {
    kept = can.kept;
    cluster = can.cluster;
    same = λ _. refl;
    order = rises_changed exchanges x (assigned t) can.kept.order;
    ends = ends_changed seats exchanges x e (assigned t) can.found (record {
      client = (ends_of_found seats exchanges x e can.found (can.kept.ends x)).client;
      cluster = ap is_some (ap (option_and_then (λ (c : Conn). c.cluster)) (conn_found seats t can.cluster.seat can.cluster.found) ∙ can.cluster.some);
    }) can.kept.ends;
    numbers = assigned_numbers;
    others = assigned_others;
    tables = λ j. subst (λ es. Rises (keys_of es)) (sym (table_same seats t 0 (linked x) can.cluster.seat can.cluster.found refl j)) (can.kept.tables j);
    streams = assigned_streams;
  })

-- ---- it leaves it
abbrev pub unassigned : Ends → Ends
unassigned e = record e { cluster = None; cluster_stream = None }

pub record CanLeave (seats : Seats) (exchanges : Exchanges) (offers : Offers) (clients : List ℕ) (x t : ℕ) (e : Ends) (stream : Option ℕ) : Type 0 where
  pub kept : AreKept seats exchanges offers clients
  pub found : under x exchanges ≡ Some e
  pub to : e.cluster ≡ Some t
  pub on : e.cluster_stream ≡ stream

module _ (seats : Seats) (exchanges : Exchanges) (offers : Offers) (clients : List ℕ) (x t : ℕ) (e : Ends) where
  pub its_cluster : AreKept seats exchanges offers clients → under x exchanges ≡ Some e → e.cluster ≡ Some t → IsCluster t seats
  its_cluster kept found to = cluster_is seats t (subst (λ o. IfSome o (λ u. IsSome (option_and_then (λ conn. conn.cluster) (under u (conns_of seats))))) to (ends_of_found seats exchanges x e found (kept.ends x)).cluster)

  pub its_client : AreKept seats exchanges offers clients → under x exchanges ≡ Some e → IsClient e.client seats
  its_client kept found = client_is seats e.client (ends_of_found seats exchanges x e found (kept.ends x)).client

  module _ (stream : Option ℕ) (can : CanLeave seats exchanges offers clients x t e stream) where
    left_others : (j : ℕ) → nat_eq t j ≡ false → exchanges_of j (changed x unassigned exchanges) ≡ exchanges_of j exchanges
    left_others j apart =
        let same : is_end j e ≡ is_end j (unassigned e) = ap (λ o. nat_eq j e.client || is_same o j) can.to ∙ ap (λ b. nat_eq j e.client || b) (turned j t ∙ apart) in
        where_changed (λ _. is_end j) exchanges x unassigned e can.kept.order can.found
        ∙ mark_nothing exchanges x j (is_end j (unassigned e)) can.kept.order (has_ends exchanges x j (Some e) can.kept.order can.found ∙ same)

    apart_ends : nat_eq t e.client ≡ false
    apart_ends = ends_apart seats e.client t (its_client can.kept can.found) (its_cluster can.kept can.found can.to)

    left_numbers : (j : ℕ) → numbers_at j (changed t (left x stream) seats) ≡ exchanges_of j (changed x unassigned exchanges)
    left_numbers j = elim (same_or_apart t j) [
      | inl same ↦
          let cluster : IsCluster t seats = its_cluster can.kept can.found can.to in
          subst (λ i. numbers_at i (changed t (left x stream) seats) ≡ exchanges_of i (changed x unassigned exchanges)) same
          (numbers_it seats t (left x stream) cluster.seat cluster.found
          ∙ ap (marked x false) (sym (numbers_found seats t cluster.seat cluster.found) ∙ can.kept.numbers t)
          ∙ ap (λ b. marked x b (exchanges_of t exchanges)) (sym (ap (λ b. b || false) apart_ends))
          ∙ sym (where_changed (λ _. is_end t) exchanges x unassigned e can.kept.order can.found))
      | inr apart ↦ numbers_others seats t (left x stream) j apart ∙ can.kept.numbers j ∙ sym (left_others j apart)
    ]

    -- the exchange under the number is the same but for this one
    left_now : (j s y : ℕ) → nat_eq x y ≡ false → option_map_or (is_on j s) (under y (changed x unassigned exchanges)) false ≡ option_map_or (is_on j s) (under y exchanges) false
    left_now j s y apart = ap (λ o. option_map_or (is_on j s) o false) (under_others exchanges x y unassigned apart)

    left_it : (j s y : ℕ) → x ≡ y → option_map_or (is_on j s) (under y (changed x unassigned exchanges)) false ≡ spot e.client e.stream j s
    left_it j s y same = ap (λ o. option_map_or (is_on j s) o false) (ap (λ n. under n (changed x unassigned exchanges)) (sym same) ∙ under_it exchanges x unassigned e can.found)
        ∙ on_client (unassigned e) j s refl

  left_tables : (stream : Option ℕ) (can : CanLeave seats exchanges offers clients x t e stream) (j : ℕ) → Rises (keys_of (streams_at j (changed t (left x stream) seats)))
  left_tables None can j =
      let cluster : IsCluster t seats = its_cluster can.kept can.found can.to in
      subst (λ es. Rises (keys_of es)) (sym (table_same seats t 0 (left x None) cluster.seat cluster.found refl j)) (can.kept.tables j)
  left_tables (Some u) can j =
      let cluster : IsCluster t seats = its_cluster can.kept can.found can.to in
      elim (same_or_apart t j) [
        | inl same ↦ subst (λ i. Rises (keys_of (streams_at i (changed t (left x (Some u)) seats)))) same
            (subst (λ es. Rises (keys_of es)) (sym (streams_it seats t (left x (Some u)) cluster.seat cluster.found))
            (entries_remove cluster.seat.streams u (subst (λ es. Rises (keys_of es)) (streams_found seats t cluster.seat cluster.found) (can.kept.tables t))))
        | inr apart ↦ subst (λ es. Rises (keys_of es)) (sym (streams_others seats t (left x (Some u)) j apart)) (can.kept.tables j)
      ]

  left_streams : (stream : Option ℕ) (can : CanLeave seats exchanges offers clients x t e stream) (j s y : ℕ) →
      is_same (under s (streams_at j (changed t (left x stream) seats))) y ≡ option_map_or (is_on j s) (under y (changed x unassigned exchanges)) false
  left_streams None can j s y =
      let cluster : IsCluster t seats = its_cluster can.kept can.found can.to in
      ap (λ es. is_same (under s es) y) (table_same seats t 0 (left x None) cluster.seat cluster.found refl j) ∙ can.kept.streams j s y ∙ elim (same_or_apart x y) [
        | inl same ↦ ap (λ o. option_map_or (is_on j s) o false) (ap (λ n. under n exchanges) (sym same) ∙ can.found) ∙ on_waiting e j s can.on ∙ sym (left_it None can j s y same)
        | inr apart ↦ sym (left_now None can j s y apart)
      ]
  left_streams (Some u) can j s y =
      let cluster : IsCluster t seats = its_cluster can.kept can.found can.to in
      let table : under s (streams_at j (changed t (left x (Some u)) seats)) ≡ (if spot t u j s then None else under s (streams_at j seats)) =
      table_left seats t u (left x (Some u)) cluster.seat cluster.found (can.kept.tables t) refl j s in
      let it : is_same (under s (streams_at j seats)) x ≡ (spot e.client e.stream j s || spot t u j s) =
      can.kept.streams j s x ∙ ap (λ o. option_map_or (is_on j s) o false) can.found ∙ on_both e t u j s can.to can.on in
      elim (cases_Bool (spot t u j s)) [
        | inl there ↦
            let gone : is_same (under s (streams_at j (changed t (left x (Some u)) seats))) y ≡ false = ap (λ o. is_same o y) (table ∙ ap (λ b. if b then None else under s (streams_at j seats)) there) in
            elim (same_or_apart x y) [
              | inl same ↦ gone ∙ sym (ap (λ b. b && nat_eq e.stream s) (ap (nat_eq e.client) (sym (same_is t j (and_first (nat_eq t j) (nat_eq u s) there))) ∙ turned e.client t ∙ apart_ends (Some u) can)) ∙ sym (left_it (Some u) can j s y same)
              | inr apart ↦ gone ∙ sym (found_other (under s (streams_at j seats)) x y (it ∙ ap (λ b. spot e.client e.stream j s || b) there ∙ or_true (spot e.client e.stream j s)) apart)
                  ∙ can.kept.streams j s y ∙ sym (left_now (Some u) can j s y apart)
            ]
        | inr elsewhere ↦
            let same_still : is_same (under s (streams_at j (changed t (left x (Some u)) seats))) y ≡ is_same (under s (streams_at j seats)) y =
            ap (λ o. is_same o y) (table ∙ ap (λ b. if b then None else under s (streams_at j seats)) elsewhere) in
            elim (same_or_apart x y) [
              | inl same ↦ same_still ∙ ap (is_same (under s (streams_at j seats))) (sym same) ∙ it ∙ ap (λ b. spot e.client e.stream j s || b) elsewhere ∙ or_false (spot e.client e.stream j s)
                  ∙ sym (left_it (Some u) can j s y same)
              | inr apart ↦ same_still ∙ can.kept.streams j s y ∙ sym (left_now (Some u) can j s y apart)
            ]
      ]

  pub leaves : (stream : Option ℕ) (can : CanLeave seats exchanges offers clients x t e stream) →
      AreKept (changed t (left x stream) seats) (changed x unassigned exchanges) (told t (under t (changed t (left x stream) seats)) offers) clients
  leaves stream can = relinks seats exchanges offers clients t (left x stream) (changed x unassigned exchanges) (record {
    kept = can.kept;
    cluster = its_cluster can.kept can.found can.to;
    same = λ _. refl;
    order = rises_changed exchanges x unassigned can.kept.order;
    ends = ends_changed seats exchanges x e unassigned can.found (record { client = (ends_of_found seats exchanges x e can.found (can.kept.ends x)).client; cluster = tt }) can.kept.ends;
    numbers = left_numbers stream can;
    others = left_others stream can;
    tables = left_tables stream can;
    streams = left_streams stream can;
  })

-- ---- it gets its stream there
pub record CanFrame (seats : Seats) (exchanges : Exchanges) (offers : Offers) (clients : List ℕ) (x t stream : ℕ) (e : Ends) : Type 0 where
  pub kept : AreKept seats exchanges offers clients
  pub found : under x exchanges ≡ Some e
  pub to : e.cluster ≡ Some t
  pub waiting : e.cluster_stream ≡ None
  pub unused : under stream (streams_at t seats) ≡ None

module _ (seats : Seats) (exchanges : Exchanges) (offers : Offers) (clients : List ℕ) (x t stream : ℕ) (e : Ends) (can : CanFrame seats exchanges offers clients x t stream e) where
  framed_all : (j : ℕ) → exchanges_of j (changed x (with_stream stream) exchanges) ≡ exchanges_of j exchanges
  framed_all j = where_changed (λ _. is_end j) exchanges x (with_stream stream) e can.kept.order can.found
      ∙ mark_nothing exchanges x j (is_end j e) can.kept.order (has_ends exchanges x j (Some e) can.kept.order can.found)

  the_cluster : IsCluster t seats
  the_cluster = its_cluster seats exchanges offers clients x t e can.kept can.found can.to

  framed_numbers : (j : ℕ) → numbers_at j (changed t (placed stream x) seats) ≡ numbers_at j seats
  framed_numbers j = elim (same_or_apart t j) [
    | inl same ↦ subst (λ i. numbers_at i (changed t (placed stream x) seats) ≡ numbers_at i seats) same
        (numbers_it seats t (placed stream x) the_cluster.seat the_cluster.found ∙ sym (numbers_found seats t the_cluster.seat the_cluster.found))
    | inr apart ↦ numbers_others seats t (placed stream x) j apart
  ]

  framed_tables : (j : ℕ) → Rises (keys_of (streams_at j (changed t (placed stream x) seats)))
  framed_tables j = elim (same_or_apart t j) [
    | inl same ↦ subst (λ i. Rises (keys_of (streams_at i (changed t (placed stream x) seats)))) same
        (subst (λ es. Rises (keys_of es)) (sym (streams_it seats t (placed stream x) the_cluster.seat the_cluster.found))
        (entries_insert the_cluster.seat.streams stream x (subst (λ es. Rises (keys_of es)) (streams_found seats t the_cluster.seat the_cluster.found) (can.kept.tables t))))
    | inr apart ↦ subst (λ es. Rises (keys_of es)) (sym (streams_others seats t (placed stream x) j apart)) (can.kept.tables j)
  ]

  framed_streams : (j s y : ℕ) → is_same (under s (streams_at j (changed t (placed stream x) seats))) y ≡ option_map_or (is_on j s) (under y (changed x (with_stream stream) exchanges)) false
  framed_streams j s y =
      let table : under s (streams_at j (changed t (placed stream x) seats)) ≡ (if spot t stream j s then Some x else under s (streams_at j seats)) =
      table_placed seats t stream (placed stream x) the_cluster.seat the_cluster.found x refl j s in
      let it : is_same (under s (streams_at j seats)) x ≡ spot e.client e.stream j s =
      can.kept.streams j s x ∙ ap (λ o. option_map_or (is_on j s) o false) can.found ∙ on_waiting e j s can.waiting in
      let now : x ≡ y → option_map_or (is_on j s) (under y (changed x (with_stream stream) exchanges)) false ≡ (spot e.client e.stream j s || spot t stream j s) =
      λ same. ap (λ o. option_map_or (is_on j s) o false) (ap (λ n. under n (changed x (with_stream stream) exchanges)) (sym same) ∙ under_it exchanges x (with_stream stream) e can.found)
      ∙ on_both (with_stream stream e) t stream j s can.to refl in
      let old : nat_eq x y ≡ false → option_map_or (is_on j s) (under y (changed x (with_stream stream) exchanges)) false ≡ is_same (under s (streams_at j seats)) y =
      λ apart. ap (λ o. option_map_or (is_on j s) o false) (under_others exchanges x y (with_stream stream) apart) ∙ sym (can.kept.streams j s y) in
      elim (cases_Bool (spot t stream j s)) [
        | inl there ↦
            let is : is_same (under s (streams_at j (changed t (placed stream x) seats))) y ≡ is_same (Some x) y = ap (λ o. is_same o y) (table ∙ ap (λ b. if b then Some x else under s (streams_at j seats)) there) in
            elim (same_or_apart x y) [
              | inl same ↦ is ∙ ap (is_same (Some x)) (sym same) ∙ same_itself x ∙ sym (now same ∙ ap (λ b. spot e.client e.stream j s || b) there ∙ or_true (spot e.client e.stream j s))
              | inr apart ↦ is ∙ same_other x y apart ∙ sym (ap (λ o. is_same o y) (spot_there seats t stream j s there ∙ can.unused)) ∙ sym (old apart)
            ]
        | inr elsewhere ↦
            let is : is_same (under s (streams_at j (changed t (placed stream x) seats))) y ≡ is_same (under s (streams_at j seats)) y = ap (λ o. is_same o y) (table ∙ ap (λ b. if b then Some x else under s (streams_at j seats)) elsewhere) in
            elim (same_or_apart x y) [
              | inl same ↦ is ∙ ap (is_same (under s (streams_at j seats))) (sym same) ∙ it ∙ sym (or_false (spot e.client e.stream j s))
                  ∙ ap (λ b. spot e.client e.stream j s || b) (sym elsewhere) ∙ sym (now same)
              | inr apart ↦ is ∙ sym (old apart)
            ]
      ]

  pub framed_seen : conns_of (changed t (placed stream x) seats) ≡ conns_of seats
  framed_seen = seen_changed (λ (s : Seat). s.conn) seats t (placed stream x) (λ _. refl)

  pub frames : AreKept (changed t (placed stream x) seats) (changed x (with_stream stream) exchanges) offers clients
  frames = record {
    conns = rises_changed seats t (placed stream x) can.kept.conns;
    small = subst (AllByRecursion (λ n. n < 2 ^ 32)) (sym (keys_changed seats t (placed stream x))) can.kept.small;
    order = rises_changed exchanges x (with_stream stream) can.kept.order;
    ends = λ y. subst (λ cs. IfSome (under y (changed x (with_stream stream) exchanges)) (HasEnds cs)) (sym framed_seen)
        (ends_changed seats exchanges x e (with_stream stream) can.found (as_framed (ends_of_found seats exchanges x e can.found (can.kept.ends x))) can.kept.ends y);
    numbers = λ j. framed_numbers j ∙ can.kept.numbers j ∙ sym (framed_all j);
    tables = framed_tables;
    streams = framed_streams;
    offers = λ k. subst (λ cs. items_at k offers ≡ takers k cs (changed x (with_stream stream) exchanges)) (sym framed_seen)
        (can.kept.offers k ∙ takers_alike (conns_of seats) exchanges (changed x (with_stream stream) exchanges) k (subst Rises (sym (keys_seen seats)) can.kept.conns)
        (λ c conn is. ap (λ ns. takes_one k (length ns) conn) (sym (framed_all c))));
    room = λ k. subst (λ cs. length (conns_in k cs) ≤ room_at k offers) (sym framed_seen) (can.kept.room k);
    clients = can.kept.clients ∙ ap open_clients (sym framed_seen);
  }
    where
      as_framed : HasEnds (conns_of seats) e → HasEnds (conns_of seats) (with_stream stream e)
      as_framed ends = record { client = ends.client; cluster = ends.cluster }
