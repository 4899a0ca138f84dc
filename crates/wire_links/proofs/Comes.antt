-- A connection comes or is forgotten: all that is kept fits as before.
use Rattle.std.proofs.Common.{ap, arith, inl, inr, refl, subst, sym, ◌∙◌}
use Rattle.std.proofs.lemmas.Bool.{false≢true}
use Rattle.std.proofs.lemmas.Option.{none-some}
use Rattle.std.specs.BTreeMap.{insert_entry, is_at}
use Rattle.std.specs.BTreeSet.{insert_key}
use Rattle.std.specs.List.{AllByRecursion}
use Rattle.std.specs.Map.{keys_of, remove_entry}
use Rattle.std.specs.Option.{option_map, option_map_or}
use Rattle.std.specs.Ordering.{match_ordering, nat_cmp}
use Rattle.std.specs.Prelude.{Bool, IfSome, List, None, Option, Some, [], false, if◌then◌else◌, length, nat_eq, true, ℕ, ◌+◌, ◌<◌, ◌&&◌, ◌^◌, ◌||◌, ◌∷◌, ◌≡◌, ◌≤◌}
use Rattle.std.specs.Set.{remove_key}
use Rattle.std.specs.declared.cmp.Ordering.{Ordering}
use Rattle.std.specs.declared.cmp.Ordering.TheVariants.{Equal, Greater, Less}
use Rattle.wire_links.proofs.Begins.{has_ends}
use Rattle.wire_links.proofs.Offered.{Exchanges, IsOffer, no_client, offer_is, room_kept, takes, told_right}
use Rattle.wire_links.proofs.Seen.{conn_found, keys_seen, under_seen}
use Rattle.number_set.proofs.Sorted.{marked_same, rises_none}
use Rattle.wire_links.proofs.States.{Stays, ends_stay}
use Rattle.number_set.proofs.Tests.{same_or_apart, turned}
use Rattle.wire_links.proofs.Under.{choice, entries_insert, entries_remove, keys_insert, keys_remove, other, seen_inserted, seen_removed, under_insert, under_remove}
use Rattle.wire_links.proofs.Where.{has_where, holds, rises_where, where_insert, where_remove, where_within}
use Rattle.wire_links.specs.Kept.{AreKept, HasRoom, Offers, Seats, conns_in, in_cluster, conns_of, items_at, numbers_at, room_at, streams_at, told}
use Rattle.wire_links.specs.Links.{HasEnds, exchanges_of, is_end, is_on, is_open_client, is_same, new_conn}
use Rattle.number_set.specs.NumberSet.{Rises, has, marked}
use Rattle.wire_links.specs.Numbers.{numbers_where, under}
use Rattle.wire_links.specs.Seats.{Seat}
use Rattle.wire_links.specs.declared.conn.Conn.{Conn}
use Rattle.wire_links.specs.declared.links.exchanges.Ends.{Ends}

-- ---- small numbers
all_insert : (P : ℕ → Type 0) (ks : List ℕ) (n : ℕ) → P n → AllByRecursion P ks → AllByRecursion P (insert_key nat_cmp ks n)
all_insert P [] n it all = (it, tt)
all_insert P (k ∷ ks) n it all = by_order (nat_cmp n k) (all_insert P ks n it all.1)
  where
    by_order : (o : Ordering) → AllByRecursion P (insert_key nat_cmp ks n) → AllByRecursion P (match_ordering o (n ∷ k ∷ ks) (k ∷ ks) (k ∷ insert_key nat_cmp ks n))
    by_order Less rest = (it, all)
    by_order Equal rest = all
    by_order Greater rest = (all.0, rest)

all_remove : (P : ℕ → Type 0) (ks : List ℕ) (n : ℕ) → AllByRecursion P ks → AllByRecursion P (remove_key (is_at (nat_cmp n)) ks)
all_remove P [] n all = tt
all_remove P (k ∷ ks) n all = by_test (is_at (nat_cmp n) k) (all_remove P ks n all.1)
  where
    by_test : (b : Bool) → AllByRecursion P (remove_key (is_at (nat_cmp n)) ks) → AllByRecursion P (if b then ks else k ∷ remove_key (is_at (nat_cmp n)) ks)
    by_test true rest = all.1
    by_test false rest = (all.0, rest)

length_removed : (ks : List ℕ) (n : ℕ) → length (remove_key (is_at (nat_cmp n)) ks) ≤ length ks
length_removed [] n = omega arith
length_removed (k ∷ ks) n = by_test (is_at (nat_cmp n) k) (length_removed ks n)
  where
    by_test : (b : Bool) → length (remove_key (is_at (nat_cmp n)) ks) ≤ length ks → length (if b then ks else k ∷ remove_key (is_at (nat_cmp n)) ks) ≤ length (k ∷ ks)
    by_test true le = omega arith
    by_test false le = omega (arith, le)

-- ---- a connection comes
abbrev pub seat_new : Option ℕ → Seat
seat_new cluster = record { conn = new_conn cluster; numbers = []; streams = [] }

abbrev pub come : ℕ → Option ℕ → Seats → Seats
come c cluster seats = insert_entry nat_cmp seats c (seat_new cluster)

pub record CanCome (seats : Seats) (exchanges : Exchanges) (offers : Offers) (clients : List ℕ) (c : ℕ) : Type 0 where
  pub kept : AreKept seats exchanges offers clients
  pub absent : under c seats ≡ None
  pub small : c < 2 ^ 32

module _ (seats : Seats) (exchanges : Exchanges) (offers : Offers) (clients : List ℕ) (c : ℕ) (cluster : Option ℕ) (can : CanCome seats exchanges offers clients c) where
  pub come_seen : conns_of (come c cluster seats) ≡ insert_entry nat_cmp (conns_of seats) c (new_conn cluster)
  come_seen = seen_inserted (λ (s : Seat). s.conn) seats c (seat_new cluster)

  come_numbers : (j : ℕ) → numbers_at j (come c cluster seats) ≡ numbers_at j seats
  come_numbers j = elim (same_or_apart c j) [
    | inl same ↦ ap (λ o. option_map_or (λ (s : Seat). s.numbers) o []) (under_insert seats c j (seat_new cluster) ∙ choice c j (Some (seat_new cluster)) (under j seats) same)
        ∙ sym (ap (λ o. option_map_or (λ (s : Seat). s.numbers) o []) (ap (λ i. under i seats) (sym same) ∙ can.absent))
    | inr apart ↦ ap (λ o. option_map_or (λ (s : Seat). s.numbers) o []) (under_insert seats c j (seat_new cluster) ∙ other c j (Some (seat_new cluster)) (under j seats) apart)
  ]

  come_streams : (j : ℕ) → streams_at j (come c cluster seats) ≡ streams_at j seats
  come_streams j = elim (same_or_apart c j) [
    | inl same ↦ ap (λ o. option_map_or (λ (s : Seat). s.streams) o []) (under_insert seats c j (seat_new cluster) ∙ choice c j (Some (seat_new cluster)) (under j seats) same)
        ∙ sym (ap (λ o. option_map_or (λ (s : Seat). s.streams) o []) (ap (λ i. under i seats) (sym same) ∙ can.absent))
    | inr apart ↦ ap (λ o. option_map_or (λ (s : Seat). s.streams) o []) (under_insert seats c j (seat_new cluster) ∙ other c j (Some (seat_new cluster)) (under j seats) apart)
  ]

  come_rises : Rises (keys_of (conns_of seats))
  come_rises = subst Rises (sym (keys_seen seats)) can.kept.conns

  come_absent : under c (conns_of seats) ≡ None
  come_absent = under_seen seats c ∙ ap (option_map (λ (s : Seat). s.conn)) can.absent

  come_there : under c (conns_of (come c cluster seats)) ≡ Some (new_conn cluster)
  come_there = conn_found (come c cluster seats) c (seat_new cluster) (under_insert seats c c (seat_new cluster) ∙ choice c c (Some (seat_new cluster)) (under c seats) refl)

  come_others : (j : ℕ) → nat_eq c j ≡ false → under j (conns_of (come c cluster seats)) ≡ under j (conns_of seats)
  come_others j apart = under_seen (come c cluster seats) j
      ∙ ap (option_map (λ (s : Seat). s.conn)) (under_insert seats c j (seat_new cluster) ∙ other c j (Some (seat_new cluster)) (under j seats) apart) ∙ sym (under_seen seats j)

  come_ends : (y : ℕ) → IfSome (under y exchanges) (HasEnds (conns_of (come c cluster seats)))
  come_ends y = by_found (under y exchanges) (can.kept.ends y)
    where
      stays : (e : Ends) (d : ℕ) (conn : Conn) → is_end d e ≡ true → under d (conns_of seats) ≡ Some conn → Stays conn (under d (conns_of (come c cluster seats)))
      stays e d conn end is = elim (same_or_apart c d) [
        | inl same ↦ absurd (none-some conn (sym come_absent ∙ ap (λ n. under n (conns_of seats)) same ∙ is))
        | inr apart ↦ record { now = conn; is = come_others d apart ∙ is; same = refl }
      ]

      by_found : (o : Option Ends) → IfSome o (HasEnds (conns_of seats)) → IfSome o (HasEnds (conns_of (come c cluster seats)))
      by_found None ends = tt
      by_found (Some e) ends = ends_stay (conns_of seats) (conns_of (come c cluster seats)) e (stays e) ends

  come_conns : Rises (keys_of (come c cluster seats))
  come_conns = entries_insert seats c (seat_new cluster) can.kept.conns

  come_small : AllByRecursion (λ n. n < 2 ^ 32) (keys_of (come c cluster seats))
  come_small = subst (AllByRecursion (λ n. n < 2 ^ 32)) (sym (keys_insert seats c (seat_new cluster))) (all_insert (λ n. n < 2 ^ 32) (keys_of seats) c can.small can.kept.small)

  -- who is such a connection of those that were there
  come_where : (p : ℕ → Conn → Bool) → numbers_where p (conns_of (come c cluster seats)) ≡ marked c (p c (new_conn cluster)) (numbers_where p (conns_of seats))
  come_where p = ap (numbers_where p) come_seen ∙ where_insert p (conns_of seats) c (new_conn cluster) come_rises

  come_not : (p : ℕ → Conn → Bool) → p c (new_conn cluster) ≡ false → numbers_where p (conns_of (come c cluster seats)) ≡ numbers_where p (conns_of seats)
  come_not p not_so = come_where p ∙ ap (λ b. marked c b (numbers_where p (conns_of seats))) not_so
      ∙ marked_same (numbers_where p (conns_of seats)) c false (rises_where p (conns_of seats) come_rises) (has_where p (conns_of seats) c come_rises ∙ ap (holds p c) come_absent)

module _ (seats : Seats) (exchanges : Exchanges) (offers : Offers) (clients : List ℕ) (c : ℕ) (can : CanCome seats exchanges offers clients c) where
  pub accepts : AreKept (come c None seats) exchanges offers (insert_key nat_cmp clients c)
  accepts = record {
    conns = come_conns seats exchanges offers clients c None can;
    small = come_small seats exchanges offers clients c None can;
    order = can.kept.order;
    ends = come_ends seats exchanges offers clients c None can;
    numbers = λ j. come_numbers seats exchanges offers clients c None can j ∙ can.kept.numbers j;
    tables = λ j. subst (λ es. Rises (keys_of es)) (sym (come_streams seats exchanges offers clients c None can j)) (can.kept.tables j);
    streams = λ j s y. ap (λ es. is_same (under s es) y) (come_streams seats exchanges offers clients c None can j) ∙ can.kept.streams j s y;
    offers = λ k. can.kept.offers k ∙ sym (come_not seats exchanges offers clients c None can (takes k exchanges) (no_client k (length (exchanges_of c exchanges)) (new_conn None) refl));
    room = λ k. subst (λ ns. length ns ≤ room_at k offers) (sym (come_not seats exchanges offers clients c None can (in_cluster k) refl)) (can.kept.room k);
    clients = ap (λ cs. insert_key nat_cmp cs c) can.kept.clients ∙ sym (come_where seats exchanges offers clients c None can (λ _. is_open_client));
  }

-- the room that is made alone
pub room_made : (seats : Seats) (exchanges : Exchanges) (offers offers' : Offers) (clients : List ℕ) → AreKept seats exchanges offers clients → ((j : ℕ) → items_at j offers' ≡ items_at j offers) →
    ((j : ℕ) → room_at j offers ≤ room_at j offers') → AreKept seats exchanges offers' clients
room_made seats exchanges offers offers' clients kept items more = record {
  conns = kept.conns;
  small = kept.small;
  order = kept.order;
  ends = kept.ends;
  numbers = kept.numbers;
  tables = kept.tables;
  streams = kept.streams;
  offers = λ k. items k ∙ kept.offers k;
  room = λ k. omega (arith, kept.room k, more k);
  clients = kept.clients;
}

length_seen : (seats : Seats) → length (conns_of seats) ≡ length seats
length_seen [] = refl
length_seen (e ∷ seats) = omega (arith, length_seen seats)

length_come : (seats : Seats) (c : ℕ) (seat : Seat) → length (insert_entry nat_cmp seats c seat) ≤ length seats + 1
length_come [] c seat = omega arith
length_come (e ∷ seats) c seat = by_order (nat_cmp c e.0) (length_come seats c seat)
  where
    by_order : (o : Ordering) → length (insert_entry nat_cmp seats c seat) ≤ length seats + 1 →
        length (match_ordering o ((c, seat) ∷ e ∷ seats) ((e.0, seat) ∷ seats) (e ∷ insert_entry nat_cmp seats c seat)) ≤ length (e ∷ seats) + 1
    by_order Less le = omega arith
    by_order Equal le = omega arith
    by_order Greater le = omega (arith, le)

module _ (seats : Seats) (exchanges : Exchanges) (offers : Offers) (clients : List ℕ) (c k : ℕ) (can : CanCome seats exchanges offers clients c) (wide : length seats + 1 ≤ room_at k offers) where
  pub join_room : HasRoom c k offers
  join_room = record { room = λ absent. omega (arith, wide, length_seen seats, where_within (takes k exchanges) (conns_of seats), ap length (can.kept.offers k)) }

  join_offer : IsOffer k offers
  join_offer = offer_is offers k (omega (arith, wide))

  pub joins : AreKept (come c (Some k) seats) exchanges (told c (under c (come c (Some k) seats)) offers) clients
  joins =
      let it : under c (come c (Some k) seats) ≡ Some (seat_new (Some k)) = under_insert seats c c (seat_new (Some k)) ∙ choice c c (Some (seat_new (Some k))) (under c seats) refl in
      let r : Rises (keys_of (conns_of seats)) = subst Rises (sym (keys_seen seats)) can.kept.conns in
      let absent : under c (conns_of seats) ≡ None = come_absent seats exchanges offers clients c (Some k) can in
      record {
        conns = come_conns seats exchanges offers clients c (Some k) can;
        small = come_small seats exchanges offers clients c (Some k) can;
        order = can.kept.order;
        ends = come_ends seats exchanges offers clients c (Some k) can;
        numbers = λ j. come_numbers seats exchanges offers clients c (Some k) can j ∙ can.kept.numbers j;
        tables = λ j. subst (λ es. Rises (keys_of es)) (sym (come_streams seats exchanges offers clients c (Some k) can j)) (can.kept.tables j);
        streams = λ j s y. ap (λ es. is_same (under s es) y) (come_streams seats exchanges offers clients c (Some k) can j) ∙ can.kept.streams j s y;
        offers = λ j. ap (λ o. items_at j (told c o offers)) it
            ∙ told_right k c (seat_new (Some k)) (conns_of seats) (conns_of (come c (Some k) seats)) exchanges exchanges offers (record {
              rises = r;
              rises' = subst Rises (sym (keys_seen (come c (Some k) seats))) (come_conns seats exchanges offers clients c (Some k) can);
              old = can.kept.offers;
              there = come_there seats exchanges offers clients c (Some k) can;
              kind = refl;
              count = ap length (sym (ap (λ o. option_map_or (λ (s : Seat). s.numbers) o []) can.absent) ∙ can.kept.numbers c);
              others = λ i d apart. ap (holds (takes i exchanges) d) (come_others seats exchanges offers clients c (Some k) can d apart);
              foreign = λ i apart. ap (holds (takes i exchanges) c) absent;
              offer = join_offer;
            }) j;
        room = λ j. subst (λ n. length (conns_in j (conns_of (come c (Some k) seats))) ≤ n) (sym (ap (λ o. room_at j (told c o offers)) it ∙ room_kept k c (seat_new (Some k)) offers refl join_offer j)) (fits j);
        clients = can.kept.clients ∙ sym (come_not seats exchanges offers clients c (Some k) can (λ _. is_open_client) refl);
      }
    where
      fits : (j : ℕ) → length (conns_in j (conns_of (come c (Some k) seats))) ≤ room_at j offers
      fits j = elim (same_or_apart k j) [
        | inl same ↦ subst (λ i. length (conns_in i (conns_of (come c (Some k) seats))) ≤ room_at i offers) same
            (omega (arith, wide, length_come seats c (seat_new (Some k)), length_seen (come c (Some k) seats), where_within (in_cluster k) (conns_of (come c (Some k) seats))))
        | inr apart ↦ subst (λ ns. length ns ≤ room_at j offers) (sym (come_not seats exchanges offers clients c (Some k) can (in_cluster j) (turned j k ∙ apart))) (can.kept.room j)
      ]

-- ---- a connection is forgotten
abbrev pub gone : ℕ → Seats → Seats
gone c seats = remove_entry (is_at (nat_cmp c)) seats

pub record CanForget (seats : Seats) (exchanges : Exchanges) (offers : Offers) (clients : List ℕ) (c : ℕ) : Type 0 where
  pub kept : AreKept seats exchanges offers clients
  pub alone : exchanges_of c exchanges ≡ []

-- a stream of a connection is no end where the connection isn't
on_end : (c stream : ℕ) (e : Ends) → is_end c e ≡ false → is_on c stream e ≡ false
on_end c stream e none = by_tests (nat_eq c e.client) (is_same e.cluster c) (nat_eq stream e.stream) (is_same e.cluster_stream stream) none
  where
    by_tests : (a b s u : Bool) → (a || b) ≡ false → ((a && s) || (b && u)) ≡ false
    by_tests true b s u not_so = absurd (false≢true (sym not_so))
    by_tests false true s u not_so = absurd (false≢true (sym not_so))
    by_tests false false s u not_so = refl

module _ (seats : Seats) (exchanges : Exchanges) (offers : Offers) (clients : List ℕ) (c : ℕ) (can : CanForget seats exchanges offers clients c) where
  gone_at : (j : ℕ) → under j (gone c seats) ≡ (if nat_eq c j then None else under j seats)
  gone_at j = under_remove seats c j can.kept.conns

  no_end : (y : ℕ) (e : Ends) → under y exchanges ≡ Some e → is_end c e ≡ false
  no_end y e is = sym (has_ends exchanges y c (Some e) can.kept.order is) ∙ ap (λ ns. has ns y) can.alone

  gone_rises : Rises (keys_of (conns_of seats))
  gone_rises = subst Rises (sym (keys_seen seats)) can.kept.conns

  pub gone_seen : conns_of (gone c seats) ≡ remove_entry (is_at (nat_cmp c)) (conns_of seats)
  gone_seen = seen_removed (λ (s : Seat). s.conn) seats c

  gone_others : (j : ℕ) → nat_eq c j ≡ false → under j (conns_of (gone c seats)) ≡ under j (conns_of seats)
  gone_others j apart = under_seen (gone c seats) j ∙ ap (option_map (λ (s : Seat). s.conn)) (gone_at j ∙ other c j None (under j seats) apart) ∙ sym (under_seen seats j)

  gone_ends : (y : ℕ) → IfSome (under y exchanges) (HasEnds (conns_of (gone c seats)))
  gone_ends y = by_found (under y exchanges) refl (can.kept.ends y)
    where
      stays : (e : Ends) → under y exchanges ≡ Some e → (d : ℕ) (conn : Conn) → is_end d e ≡ true → under d (conns_of seats) ≡ Some conn → Stays conn (under d (conns_of (gone c seats)))
      stays e found d conn end is = elim (same_or_apart c d) [
        | inl same ↦ absurd (false≢true (sym (no_end y e found) ∙ ap (λ n. is_end n e) same ∙ end))
        | inr apart ↦ record { now = conn; is = gone_others d apart ∙ is; same = refl }
      ]

      by_found : (o : Option Ends) → under y exchanges ≡ o → IfSome o (HasEnds (conns_of seats)) → IfSome o (HasEnds (conns_of (gone c seats)))
      by_found None none ends = tt
      by_found (Some e) found ends = ends_stay (conns_of seats) (conns_of (gone c seats)) e (stays e found) ends

  gone_numbers : (j : ℕ) → numbers_at j (gone c seats) ≡ exchanges_of j exchanges
  gone_numbers j = elim (same_or_apart c j) [
    | inl same ↦ ap (λ o. option_map_or (λ (s : Seat). s.numbers) o []) (gone_at j ∙ choice c j None (under j seats) same) ∙ sym can.alone ∙ ap (λ i. exchanges_of i exchanges) same
    | inr apart ↦ ap (λ o. option_map_or (λ (s : Seat). s.numbers) o []) (gone_at j ∙ other c j None (under j seats) apart) ∙ can.kept.numbers j
  ]

  gone_none : (j : ℕ) → c ≡ j → streams_at j (gone c seats) ≡ []
  gone_none j same = ap (λ o. option_map_or (λ (s : Seat). s.streams) o []) (gone_at j ∙ choice c j None (under j seats) same)

  gone_still : (j : ℕ) → nat_eq c j ≡ false → streams_at j (gone c seats) ≡ streams_at j seats
  gone_still j apart = ap (λ o. option_map_or (λ (s : Seat). s.streams) o []) (gone_at j ∙ other c j None (under j seats) apart)

  gone_tables : (j : ℕ) → Rises (keys_of (streams_at j (gone c seats)))
  gone_tables j = elim (same_or_apart c j) [
    | inl same ↦ subst (λ es. Rises (keys_of es)) (sym (gone_none j same)) rises_none
    | inr apart ↦ subst (λ es. Rises (keys_of es)) (sym (gone_still j apart)) (can.kept.tables j)
  ]

  gone_streams : (j s y : ℕ) → is_same (under s (streams_at j (gone c seats))) y ≡ option_map_or (is_on j s) (under y exchanges) false
  gone_streams j s y = elim (same_or_apart c j) [
    | inl same ↦ ap (λ es. is_same (under s es) y) (gone_none j same) ∙ sym (ap (λ i. option_map_or (is_on i s) (under y exchanges) false) (sym same) ∙ none_on (under y exchanges) refl)
    | inr apart ↦ ap (λ es. is_same (under s es) y) (gone_still j apart) ∙ can.kept.streams j s y
  ]
    where
      none_on : (o : Option Ends) → under y exchanges ≡ o → option_map_or (is_on c s) o false ≡ false
      none_on None none = refl
      none_on (Some e) found = on_end c s e (no_end y e found)

  gone_where : (p : ℕ → Conn → Bool) → numbers_where p (conns_of (gone c seats)) ≡ marked c false (numbers_where p (conns_of seats))
  gone_where p = ap (numbers_where p) gone_seen ∙ where_remove p (conns_of seats) c gone_rises

  gone_fewer : (p : ℕ → Conn → Bool) → length (numbers_where p (conns_of (gone c seats))) ≤ length (numbers_where p (conns_of seats))
  gone_fewer p = omega (arith, ap length (gone_where p), length_removed (numbers_where p (conns_of seats)) c)

  -- the clusters are told that they can't choose it
  pub forgets : (offers' : Offers) → ((k : ℕ) → items_at k offers' ≡ marked c false (items_at k offers)) → ((k : ℕ) → room_at k offers' ≡ room_at k offers) →
      AreKept (gone c seats) exchanges offers' (remove_key (is_at (nat_cmp c)) clients)
  forgets offers' items room = record {
    conns = entries_remove seats c can.kept.conns;
    small = subst (AllByRecursion (λ n. n < 2 ^ 32)) (sym (keys_remove seats c)) (all_remove (λ n. n < 2 ^ 32) (keys_of seats) c can.kept.small);
    order = can.kept.order;
    ends = gone_ends;
    numbers = gone_numbers;
    tables = gone_tables;
    streams = gone_streams;
    offers = λ k. items k ∙ ap (marked c false) (can.kept.offers k) ∙ sym (gone_where (takes k exchanges));
    room = λ k. omega (arith, room k, can.kept.room k, gone_fewer (in_cluster k));
    clients = ap (remove_key (is_at (nat_cmp c))) can.kept.clients ∙ sym (gone_where (λ _. is_open_client));
  }
