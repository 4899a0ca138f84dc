-- What look-ups among what is kept say of the links.
use Rattle.std.proofs.Common.{ap, arith, refl, subst, sym, ◌∙◌}
use Rattle.std.proofs.lemmas.Bool.{false≢true}
use Rattle.std.proofs.lemmas.Bool.Decides.{nat_tests}
use Rattle.std.specs.BTreeMap.Range.{range_contains}
use Rattle.std.specs.List.{AllByRecursion, filter, find}
use Rattle.std.specs.BTreeMap.{is_at}
use Rattle.std.specs.Map.{remove_entry}
use Rattle.std.specs.Option.{is_some, option_and_then, option_map, option_map_or}
use Rattle.std.specs.Ordering.{nat_cmp}
use Rattle.std.specs.declared.ops.Bound.TheVariants.{Excluded, Unbounded}
use Rattle.std.specs.Prelude.{Bool, IfSome, List, None, Option, Some, [], false, if◌then◌else◌, nat_lt, slice_get, true, ℕ, ◌<◌, ◌&&◌, ◌^◌, ◌∷◌, ◌≡◌}
use Rattle.wire_links.proofs.Offered.{Exchanges, takes}
use Rattle.wire_links.proofs.Seen.{keys_seen, under_seen}
use Rattle.wire_links.proofs.Tables.{is_found, same_itself}
use Rattle.number_set.proofs.Tests.{same_is}
use Rattle.wire_links.proofs.Under.{seen_removed, some_is}
use Rattle.wire_links.proofs.Where.{all_where, first_in, has_where, holds}
use Rattle.wire_links.specs.Kept.{AreKept, Offers, Seats, conns_of, items_at, streams_at}
use Rattle.wire_links.specs.Links.{IsOn, IsSound, Links, chosen, cluster_of, exchange_at, exchanges_of, forgotten, is_on, is_same, takers}
use Rattle.number_set.specs.NumberSet.{Rises, first, first_above, has}
use Rattle.wire_links.specs.Numbers.{numbers_where, under}
use Rattle.wire_links.specs.Seats.{Seat}
use Rattle.wire_links.specs.declared.conn.Conn.{Conn}

abbrev pub links_at : Seats → Exchanges → Links
links_at seats exchanges = record { conns = conns_of seats; exchanges = exchanges }

-- ---- of a connection
pub known_is : (seats : Seats) (c : ℕ) → is_some (under c seats) ≡ is_some (under c (conns_of seats))
known_is seats c = by_found (under c seats) ∙ ap is_some (sym (under_seen seats c))
  where
    by_found : (o : Option Seat) → is_some o ≡ is_some (option_map (λ (s : Seat). s.conn) o)
    by_found None = refl
    by_found (Some s) = refl

module _ (seats : Seats) (exchanges : Exchanges) (offers : Offers) (clients : List ℕ) (kept : AreKept seats exchanges offers clients) where
  -- ---- the exchanges of a connection
  pub numbers_are : (c : ℕ) (seat : Seat) → under c seats ≡ Some seat → seat.numbers ≡ exchanges_of c exchanges
  numbers_are c seat is = sym (ap (λ o. option_map_or (λ (s : Seat). s.numbers) o []) is) ∙ kept.numbers c

  pub numbers_none : (c : ℕ) → under c seats ≡ None → exchanges_of c exchanges ≡ []
  numbers_none c none = sym (kept.numbers c) ∙ ap (λ o. option_map_or (λ (s : Seat). s.numbers) o []) none

  -- ---- the exchange on a stream
  on_is : (c stream x : ℕ) → is_same (under stream (streams_at c seats)) x ≡ has (numbers_where (λ _. is_on c stream) exchanges) x
  on_is c stream x = kept.streams c stream x ∙ sym (has_where (λ _. is_on c stream) exchanges x kept.order)

  pub at_stream : (c stream : ℕ) → under stream (streams_at c seats) ≡ exchange_at c stream (links_at seats exchanges)
  at_stream c stream = by_both (under stream (streams_at c seats)) (numbers_where (λ _. is_on c stream) exchanges) (on_is c stream)
    where
      has_head : (y : ℕ) (xs : List ℕ) → has (y ∷ xs) y ≡ true
      has_head y xs = first_in (y ∷ xs)

      by_both : (o : Option ℕ) (xs : List ℕ) → ((x : ℕ) → is_same o x ≡ has xs x) → o ≡ first xs
      by_both None [] same = refl
      by_both None (y ∷ xs) same = absurd (false≢true (same y ∙ has_head y xs))
      by_both (Some x) [] same = absurd (false≢true (sym (same x) ∙ same_itself x))
      by_both (Some x) (y ∷ xs) same = ap Some (sym (same_is y x (same y ∙ has_head y xs)))

  pub on_found : (c stream x : ℕ) → under stream (streams_at c seats) ≡ Some x → IsOn c stream x (links_at seats exchanges)
  on_found c stream x is = sym (kept.streams c stream x) ∙ ap (λ o. is_same o x) is ∙ same_itself x

  -- ---- the connection that is chosen
  pub chosen_found : (k : ℕ) → first (items_at k offers) ≡ chosen k (links_at seats exchanges)
  chosen_found k = ap first (kept.offers k)

  pub chosen_takes : (k x : ℕ) → chosen k (links_at seats exchanges) ≡ Some x → has (takers k (conns_of seats) exchanges) x ≡ true
  chosen_takes k x is = subst (λ o. IfSome o (λ n. has (takers k (conns_of seats) exchanges) n ≡ true)) is (first_in (takers k (conns_of seats) exchanges))

  pub chosen_small : (k x : ℕ) → chosen k (links_at seats exchanges) ≡ Some x → x < 2 ^ 32
  chosen_small k x is = subst (λ o. IfSome o (λ n. n < 2 ^ 32)) is (head_of (takers k (conns_of seats) exchanges)
      (all_where (λ n. n < 2 ^ 32) (takes k exchanges) (conns_of seats) (subst (AllByRecursion (λ n. n < 2 ^ 32)) (sym (keys_seen seats)) kept.small)))
    where
      head_of : (xs : List ℕ) → AllByRecursion (λ n. n < 2 ^ 32) xs → IfSome (first xs) (λ n. n < 2 ^ 32)
      head_of [] all = tt
      head_of (y ∷ xs) all = all.0

  pub chosen_member : (k x : ℕ) → chosen k (links_at seats exchanges) ≡ Some x → cluster_of x (links_at seats exchanges) ≡ Some k
  chosen_member k x is = by_conn (under x (conns_of seats)) (sym (has_where (takes k exchanges) (conns_of seats) x (subst Rises (sym (keys_seen seats)) kept.conns)) ∙ chosen_takes k x is)
    where
      first_of : (a b : Bool) → (a && b) ≡ true → a ≡ true
      first_of true b so = refl
      first_of false b not_so = not_so

      by_conn : (o : Option Conn) → holds (takes k exchanges) x o ≡ true → option_and_then (λ (conn : Conn). conn.cluster) o ≡ Some k
      by_conn None not_so = absurd (false≢true not_so)
      by_conn (Some conn) so = is_found conn.cluster k (first_of (is_same conn.cluster k) _ so)

  -- ---- what is true at all times
  pub sound : IsSound (links_at seats exchanges)
  sound = record {
    conns = subst Rises (sym (keys_seen seats)) kept.conns;
    exchanges = kept.order;
    ends = kept.ends;
    one = λ c stream x y on_x on_y. some_is x y (sym (is_found (under stream (streams_at c seats)) x (kept.streams c stream x ∙ on_x)) ∙ is_found (under stream (streams_at c seats)) y (kept.streams c stream y ∙ on_y));
  }

-- ---- the first of a range
first_filter : (p : ℕ → Bool) (xs : List ℕ) → slice_get (filter p xs) 0 ≡ find p xs
first_filter p [] = refl
first_filter p (x ∷ xs) = by_test (p x) (first_filter p xs)
  where
    by_test : (b : Bool) → slice_get (filter p xs) 0 ≡ find p xs → slice_get (if b then x ∷ filter p xs else filter p xs) 0 ≡ (if b then Some x else find p xs)
    by_test true rest = refl
    by_test false rest = rest

range_is : (n k : ℕ) → range_contains nat_cmp (Excluded n) Unbounded k ≡ nat_lt n k
range_is n k = grind (arith, nat_tests)

pub next_in : (n : ℕ) (xs : List ℕ) → slice_get (filter (range_contains nat_cmp (Excluded n) Unbounded) xs) 0 ≡ first_above n xs
next_in n xs = first_filter (range_contains nat_cmp (Excluded n) Unbounded) xs ∙ (λ i. find (λ k. range_is n k i) xs)

-- ---- nothing is kept yet
-- ---- what is seen after a step
pub seen_gone : (seats seats' : Seats) (exchanges : Exchanges) (c : ℕ) → seats' ≡ remove_entry (is_at (nat_cmp c)) seats → links_at seats' exchanges ≡ forgotten c (links_at seats exchanges)
seen_gone seats seats' exchanges c is = λ i. record { conns = (ap conns_of is ∙ seen_removed (λ (s : Seat). s.conn) seats c) i; exchanges = exchanges }
