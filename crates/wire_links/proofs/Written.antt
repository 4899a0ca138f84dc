-- What a function leaves in a map through what it was lent.
use Rattle.std.proofs.Common.{ap, arith, refl, sym, ◌∙◌}
use Rattle.std.proofs.lemmas.Option.{none-some}
use Rattle.std.proofs.lemmas.Map.Steps.{set_value_same}
use Rattle.std.specs.BTreeMap.{is_at}
use Rattle.std.specs.Map.{set_value}
use Rattle.std.specs.Option.{option_map_or}
use Rattle.std.specs.Ordering.{nat_cmp}
use Rattle.std.specs.Prelude.{Bool, Err, List, None, Ok, OnErr, OnOk, Option, Result, Some, [], false, length, ℕ, ◌<◌, ◌≡◌}
use Rattle.wire_links.proofs.Under.{changed_none, changed_some, some_is, under_it}
use Rattle.wire_links.specs.Kept.{HasRoom, HasRoomFor, Offers, Seats, items_at, noted, room_at, told, told_of}
use Rattle.wire_links.specs.Links.{takes_one}
use Rattle.number_set.specs.NumberSet.{NumberSet, has}
use Rattle.wire_links.specs.Numbers.{changed, under}
use Rattle.wire_links.specs.Seats.{Seat}
use Rattle.wire_links.specs.declared.conn.Conn.{Conn}

module _ {X : Type 0} (n : ℕ) (old new : List (ℕ × X)) where
  pub written : (f : X → X) (v w : X) → Some v ≡ under n old → w ≡ f v → new ≡ set_value (is_at (nat_cmp n)) old w → new ≡ changed n f old
  written f v w found is entries = entries ∙ ap (set_value (is_at (nat_cmp n)) old) is ∙ sym (changed_some old n f v (sym found))

  pub unwritten : (v w : X) → Some v ≡ under n old → w ≡ v → new ≡ set_value (is_at (nat_cmp n)) old w → new ≡ old
  unwritten v w found is entries = entries ∙ set_value_same (is_at (nat_cmp n)) old w (sym found ∙ ap Some (sym is))

  pub nothing : (f : X → X) → None ≡ under n old → new ≡ old → new ≡ changed n f old
  nothing f none same = same ∙ sym (changed_none old n f (sym none))

pub same_numbers : (m n : NumberSet) → m.items ≡ n.items → m.room ≡ n.room → m ≡ n
same_numbers m n items room = λ i. record { items = items i; room = room i }

-- ---- a clause about one outcome
pub on_ok : {A B : Type 0} {P Q : Type 0} (r : Result A B) → (P → Q) → OnOk r P → OnOk r Q
on_ok (Ok x) f p = f p
on_ok (Err y) f p = p

pub on_err : {A B : Type 0} {P Q : Type 0} (r : Result A B) → (P → Q) → OnErr r P → OnErr r Q
on_err (Ok x) f p = p
on_err (Err y) f p = f p

-- ---- what a cluster is told
module _ (seats : Seats) (old new : Offers) (c : ℕ) where
  pub told_none : under c seats ≡ None → new ≡ old → new ≡ told c (under c seats) old
  told_none none same = same ∙ sym (ap (λ o. told c o old) none)

  pub told_client : (seat : Seat) → under c seats ≡ Some seat → seat.conn.cluster ≡ None → new ≡ old → new ≡ told c (under c seats) old
  told_client seat found none same = same ∙ sym (ap (λ o. told c o old) found ∙ ap (λ o. told_of c seat o old) none)

  pub told_cluster : (seat : Seat) (k : ℕ) (b : Bool) → under c seats ≡ Some seat → seat.conn.cluster ≡ Some k → b ≡ takes_one k (length seat.numbers) seat.conn →
      new ≡ changed k (noted c b) old → new ≡ told c (under c seats) old
  told_cluster seat k b found kind is entries = entries ∙ ap (λ t. changed k (noted c t) old) is ∙ sym (ap (λ o. told c o old) found ∙ ap (λ o. told_of c seat o old) kind)

-- a cluster that is there has the room
pub room_of : (k c : ℕ) (offers : Offers) (n : NumberSet) → Some n ≡ under k offers → HasRoom c k offers → has n.items c ≡ false → length n.items < n.room
room_of k c offers n found room absent =
    let items : items_at k offers ≡ n.items = ap (λ o. option_map_or (λ (m : NumberSet). m.items) o []) (sym found) in
    let size : room_at k offers ≡ n.room = ap (λ o. option_map_or (λ (m : NumberSet). m.room) o 0) (sym found) in
    let less : length (items_at k offers) < room_at k offers = room.room (ap (λ ns. has ns c) items ∙ absent) in
    omega (arith, less, ap length items, size)

-- there is room to tell of a connection, also where it has changed, but for its cluster
pub room_still : (t : ℕ) (seats : Seats) (offers : Offers) (f : Seat → Seat) → ((s : Seat) → (f s).conn ≡ s.conn) → HasRoomFor t seats offers → HasRoomFor t (changed t f seats) offers
room_still t seats offers f same room = record { each = λ seat k found kind. by_found seat k (under t seats) refl found kind }
  where
    by_found : (seat : Seat) (k : ℕ) (o : Option Seat) → under t seats ≡ o → under t (changed t f seats) ≡ Some seat → seat.conn.cluster ≡ Some k → HasRoom t k offers
    by_found seat k None none found kind = absurd (none-some seat (sym none ∙ ap (under t) (sym (changed_none seats t f none)) ∙ found))
    by_found seat k (Some v) is found kind =
        let it : f v ≡ seat = some_is (f v) seat (sym (under_it seats t f v is) ∙ found) in
        room.each v k is (ap (λ (d : Conn). d.cluster) (sym (same v) ∙ ap (λ (s : Seat). s.conn) it) ∙ kind)
