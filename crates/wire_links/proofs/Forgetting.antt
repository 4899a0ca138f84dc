-- A connection that is forgotten is withdrawn from its cluster.
use Rattle.std.proofs.Common.{ap, inl, inr, refl, subst, sym, ◌∙◌}
use Rattle.std.specs.Map.{keys_of}
use Rattle.std.specs.Prelude.{IfNone, IfSome, List, None, Option, Some, [], false, length, ℕ, ◌∷◌, ◌≡◌}
use Rattle.std.proofs.Common.{arith}
use Rattle.wire_links.proofs.Assigns.{the_offer}
use Rattle.wire_links.proofs.Offered.{Exchanges, IsOffer, items_told, items_untold, no_client, no_other, room_told, takes}
use Rattle.wire_links.proofs.Seen.{conn_found, keys_seen}
use Rattle.number_set.proofs.Sorted.{marked_same}
use Rattle.number_set.proofs.Tests.{same_or_apart}
use Rattle.wire_links.proofs.Where.{has_where, holds, rises_where}
use Rattle.wire_links.specs.Kept.{AreKept, Offers, Seats, conns_of, items_at, noted, room_at}
use Rattle.wire_links.specs.Links.{exchanges_of}
use Rattle.number_set.specs.NumberSet.{Rises, has, marked}
use Rattle.wire_links.specs.Numbers.{changed, under}
use Rattle.wire_links.specs.Seats.{Seat}

pub none_left : (xs : List ℕ) → length xs ≡ 0 → xs ≡ []
none_left [] is = refl
none_left (x ∷ xs) is = absurd (omega (arith, is))

pub record IsWithdrawn (c : ℕ) (old new : Offers) : Type 0 where
  pub items : (k : ℕ) → items_at k new ≡ marked c false (items_at k old)
  pub room : (k : ℕ) → room_at k new ≡ room_at k old

module _ (seats : Seats) (exchanges : Exchanges) (offers : Offers) (clients : List ℕ) (kept : AreKept seats exchanges offers clients) (c : ℕ) (seat : Seat) (found : under c seats ≡ Some seat) where
  not_there : (k : ℕ) → takes k exchanges c seat.conn ≡ false → items_at k offers ≡ marked c false (items_at k offers)
  not_there k none =
      let r : Rises (keys_of (conns_of seats)) = subst Rises (sym (keys_seen seats)) kept.conns in
      let rises : Rises (items_at k offers) = subst Rises (sym (kept.offers k)) (rises_where (takes k exchanges) (conns_of seats) r) in
      sym (marked_same (items_at k offers) c false rises (ap (λ ns. has ns c) (kept.offers k) ∙ has_where (takes k exchanges) (conns_of seats) c r ∙ ap (holds (takes k exchanges) c) (conn_found seats c seat found) ∙ none))

  pub withdrawn : (cluster : Option ℕ) (new : Offers) → seat.conn.cluster ≡ cluster → IfNone cluster (new ≡ offers) → IfSome cluster (λ k. new ≡ changed k (noted c false) offers) → IsWithdrawn c offers new
  withdrawn None new is same changes = record {
    items = λ k. ap (items_at k) same ∙ not_there k (no_client k (length (exchanges_of c exchanges)) seat.conn is);
    room = λ k. ap (room_at k) same;
  }
  withdrawn (Some own) new is same changes =
      let offer : IsOffer own offers = the_offer seats exchanges offers clients kept c (record { seat = seat; cluster = own; found = found; some = is }) in
      record {
        items = λ k. ap (items_at k) changes ∙ of_cluster offer k;
        room = λ k. ap (room_at k) changes ∙ room_told offers own c false offer.numbers offer.found k;
      }
    where
      of_cluster : IsOffer own offers → (k : ℕ) → items_at k (changed own (noted c false) offers) ≡ marked c false (items_at k offers)
      of_cluster offer k = elim (same_or_apart own k) [
        | inl same_one ↦ subst (λ i. items_at i (changed own (noted c false) offers) ≡ marked c false (items_at i offers)) same_one (items_told offers own c false offer.numbers offer.found)
        | inr apart ↦ items_untold offers own c false k apart ∙ not_there k (no_other own k (length (exchanges_of c exchanges)) seat.conn is apart)
      ]
