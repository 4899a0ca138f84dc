-- Which connections of a cluster can take one more exchange, and what the cluster is told of one of them.
use Rattle.std.proofs.Common.{ap, arith, inl, inr, refl, subst, sym, ◌∙◌}
use Rattle.std.proofs.lemmas.Bool.{false≢true}
use Rattle.std.specs.Map.{keys_of}
use Rattle.std.specs.Option.{is_some, option_map_or}
use Rattle.std.specs.Prelude.{Bool, List, None, Option, Some, [], false, length, nat_eq, nat_lt, not, true, ℕ, ◌<◌, ◌&&◌, ◌≡◌, ◌≤◌}
use Rattle.number_set.proofs.Tests.{here, same_or_apart, turned}
use Rattle.wire_links.proofs.Under.{under_it, under_others}
use Rattle.wire_links.proofs.Where.{fewer, has_where, holds, where_alike, where_but}
use Rattle.wire_links.specs.Kept.{HasRoom, Offers, conns_in, in_cluster, items_at, noted, room_at, told, told_of}
use Rattle.wire_links.specs.Links.{exchanges_of, is_same, most_of, takers, takes_one}
use Rattle.number_set.specs.NumberSet.{NumberSet, Rises, has, marked}
use Rattle.wire_links.specs.Numbers.{changed, numbers_where, under}
use Rattle.wire_links.specs.Seats.{Seat}
use Rattle.wire_links.specs.declared.conn.Conn.{Conn}
use Rattle.wire_links.specs.declared.links.exchanges.Ends.{Ends}

abbrev pub Conns : Type 0
Conns = List (ℕ × Conn)

abbrev pub Exchanges : Type 0
Exchanges = List (ℕ × Ends)

-- whether the connection, if there is one, can take one more exchange for the cluster
abbrev pub takes : ℕ → Exchanges → ℕ → Conn → Bool
takes k exchanges c = takes_one k (length (exchanges_of c exchanges))

-- it can't, for another cluster than its own
pub no_other : (k k' n : ℕ) (conn : Conn) → conn.cluster ≡ Some k → nat_eq k k' ≡ false → takes_one k' n conn ≡ false
no_other k k' n conn is apart = ap (λ b. b && (conn.live && (not (is_some conn.draining) && nat_lt n (most_of conn)))) (ap (λ o. is_same o k') is ∙ turned k' k ∙ apart)

pub no_client : (k n : ℕ) (conn : Conn) → conn.cluster ≡ None → takes_one k n conn ≡ false
no_client k n conn none = ap (λ b. b && (conn.live && (not (is_some conn.draining) && nat_lt n (most_of conn)))) (ap (λ o. is_same o k) none)

-- ---- the same can take one more
pub takers_alike : (conns : Conns) (old new : Exchanges) (k : ℕ) → Rises (keys_of conns) → ((c : ℕ) (conn : Conn) → under c conns ≡ Some conn → takes k old c conn ≡ takes k new c conn) →
    takers k conns old ≡ takers k conns new
takers_alike conns old new k r alike = where_alike (takes k old) (takes k new) conns conns r r (λ c. by_found c (under c conns) refl)
  where
    by_found : (c : ℕ) (o : Option Conn) → under c conns ≡ o → holds (takes k old) c (under c conns) ≡ holds (takes k new) c (under c conns)
    by_found c None none = ap (holds (takes k old) c) none ∙ sym (ap (holds (takes k new) c) none)
    by_found c (Some conn) is = ap (holds (takes k old) c) is ∙ alike c conn is ∙ sym (ap (holds (takes k new) c) is)

-- ---- a cluster is told of a connection
module _ (offers : Offers) (k t : ℕ) (b : Bool) where
  pub items_told : (n : NumberSet) → under k offers ≡ Some n → items_at k (changed k (noted t b) offers) ≡ marked t b (items_at k offers)
  items_told n is = ap (λ o. option_map_or (λ (m : NumberSet). m.items) o []) (under_it offers k (noted t b) n is)
      ∙ sym (ap (λ o. marked t b (option_map_or (λ (m : NumberSet). m.items) o [])) is)

  pub items_untold : (j : ℕ) → nat_eq k j ≡ false → items_at j (changed k (noted t b) offers) ≡ items_at j offers
  items_untold j apart = ap (λ o. option_map_or (λ (m : NumberSet). m.items) o []) (under_others offers k j (noted t b) apart)

  pub room_told : (n : NumberSet) → under k offers ≡ Some n → (j : ℕ) → room_at j (changed k (noted t b) offers) ≡ room_at j offers
  room_told n is j = elim (same_or_apart k j) [
    | inl same ↦ subst (λ i. room_at i (changed k (noted t b) offers) ≡ room_at i offers) same
        (ap (λ o. option_map_or (λ (m : NumberSet). m.room) o 0) (under_it offers k (noted t b) n is) ∙ sym (ap (λ o. option_map_or (λ (m : NumberSet). m.room) o 0) is))
    | inr apart ↦ ap (λ o. option_map_or (λ (m : NumberSet). m.room) o 0) (under_others offers k j (noted t b) apart)
  ]

pub record IsOffer (k : ℕ) (offers : Offers) : Type 0 where
  pub numbers : NumberSet
  pub found : under k offers ≡ Some numbers

-- a cluster with room is there
pub offer_is : (offers : Offers) (k : ℕ) → 0 < room_at k offers → IsOffer k offers
offer_is offers k room = by_found (under k offers) refl
  where
    by_found : (o : Option NumberSet) → under k offers ≡ o → IsOffer k offers
    by_found None none = absurd (omega (arith, room, ap (λ o. option_map_or (λ (m : NumberSet). m.room) o 0) none))
    by_found (Some n) is = record { numbers = n; found = is }

-- a cluster with a connection has room
pub some_room : (conns : Conns) (k t room : ℕ) (conn : Conn) → under t conns ≡ Some conn → conn.cluster ≡ Some k → length (conns_in k conns) ≤ room → 0 < room
some_room conns k t room conn is kind within =
    let more : length (numbers_where (λ _ _. false) conns) < length (conns_in k conns) =
    fewer (λ _ _. false) (in_cluster k) conns t conn (λ m w not_so. absurd (false≢true not_so)) is (ap (λ o. is_same o k) kind ∙ here k k refl) refl in
    omega (arith, more, within)

pub has_room : (conns : Conns) (exchanges : Exchanges) (offers : Offers) (k t : ℕ) (conn : Conn) → Rises (keys_of conns) → under t conns ≡ Some conn → conn.cluster ≡ Some k →
    items_at k offers ≡ takers k conns exchanges → length (conns_in k conns) ≤ room_at k offers → HasRoom t k offers
has_room conns exchanges offers k t conn r is kind items room = record {
  room = λ absent.
      let out : takes k exchanges t conn ≡ false = sym (ap (holds (takes k exchanges) t) is) ∙ sym (has_where (takes k exchanges) conns t r) ∙ ap (λ ns. has ns t) (sym items) ∙ absent in
      let more : length (takers k conns exchanges) < length (conns_in k conns) =
      fewer (takes k exchanges) (in_cluster k) conns t conn within is (ap (λ o. is_same o k) kind ∙ here k k refl) out in
      omega (arith, more, room, ap length items);
}
  where
    and_first : (a b : Bool) → (a && b) ≡ true → a ≡ true
    and_first true b so = refl
    and_first false b not_so = not_so

    within : (m : ℕ) (w : Conn) → takes k exchanges m w ≡ true → is_same w.cluster k ≡ true
    within m w so = and_first (is_same w.cluster k) _ so

-- what it is told makes it right again, where nothing else has changed for it
pub record IsTold (k t : ℕ) (seat : Seat) (conns conns' : Conns) (exchanges exchanges' : Exchanges) (offers : Offers) : Type 0 where
  pub rises : Rises (keys_of conns)
  pub rises' : Rises (keys_of conns')
  pub old : (j : ℕ) → items_at j offers ≡ takers j conns exchanges
  pub there : under t conns' ≡ Some seat.conn
  pub kind : seat.conn.cluster ≡ Some k
  pub count : length seat.numbers ≡ length (exchanges_of t exchanges')
  pub others : (j c : ℕ) → nat_eq t c ≡ false → holds (takes j exchanges') c (under c conns') ≡ holds (takes j exchanges) c (under c conns)
  pub foreign : (j : ℕ) → nat_eq k j ≡ false → holds (takes j exchanges) t (under t conns) ≡ false
  pub offer : IsOffer k offers

pub told_right : (k t : ℕ) (seat : Seat) (conns conns' : Conns) (exchanges exchanges' : Exchanges) (offers : Offers) → IsTold k t seat conns conns' exchanges exchanges' offers →
    (j : ℕ) → items_at j (told t (Some seat) offers) ≡ takers j conns' exchanges'
told_right k t seat conns conns' exchanges exchanges' offers is j =
    ap (λ o. items_at j (told_of t seat o offers)) is.kind ∙ elim (same_or_apart k j) [
      | inl same ↦ subst (λ i. items_at i (changed k (noted t (takes_one k (length seat.numbers) seat.conn)) offers) ≡ takers i conns' exchanges') same
          (items_told offers k t (takes_one k (length seat.numbers) seat.conn) is.offer.numbers is.offer.found ∙ ap (marked t (takes_one k (length seat.numbers) seat.conn)) (is.old k)
          ∙ sym (where_but (takes k exchanges) (takes k exchanges') conns conns' t (takes_one k (length seat.numbers) seat.conn) is.rises is.rises' (ap (holds (takes k exchanges') t) is.there ∙ ap (λ n. takes_one k n seat.conn) (sym is.count)) (is.others k)))
      | inr apart ↦ items_untold offers k t (takes_one k (length seat.numbers) seat.conn) j apart ∙ is.old j ∙ where_alike (takes j exchanges) (takes j exchanges') conns conns' is.rises is.rises' (alike j apart)
    ]
  where
    alike : (i : ℕ) → nat_eq k i ≡ false → (c : ℕ) → holds (takes i exchanges) c (under c conns) ≡ holds (takes i exchanges') c (under c conns')
    alike i apart c = elim (same_or_apart t c) [
      | inl same ↦ subst (λ d. holds (takes i exchanges) d (under d conns) ≡ holds (takes i exchanges') d (under d conns')) same
          (is.foreign i apart ∙ sym (ap (holds (takes i exchanges') t) is.there ∙ no_other k i (length (exchanges_of t exchanges')) seat.conn is.kind apart))
      | inr other ↦ sym (is.others i c other)
    ]

pub room_kept : (k t : ℕ) (seat : Seat) (offers : Offers) → seat.conn.cluster ≡ Some k → IsOffer k offers → (j : ℕ) → room_at j (told t (Some seat) offers) ≡ room_at j offers
room_kept k t seat offers kind offer j = ap (λ o. room_at j (told_of t seat o offers)) kind ∙ room_told offers k t (takes_one k (length seat.numbers) seat.conn) offer.numbers offer.found j
