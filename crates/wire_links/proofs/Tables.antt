-- Which exchange is on which stream, after one comes to a stream or leaves it.
use Rattle.std.proofs.Common.{ap, inl, inr, refl, subst, sym, ◌∙◌}
use Rattle.std.proofs.lemmas.Bool.{false≢true}
use Rattle.std.specs.BTreeMap.{insert_entry, is_at}
use Rattle.std.specs.Map.{keys_of, remove_entry}
use Rattle.std.specs.Ordering.{nat_cmp}
use Rattle.std.specs.Prelude.{Bool, None, Option, Some, false, if◌then◌else◌, nat_eq, true, ℕ, ◌&&◌, ◌||◌, ◌≡◌}
use Rattle.wire_links.proofs.Seen.{streams_found, streams_it, streams_others}
use Rattle.number_set.proofs.Tests.{here, same_is, same_or_apart, turned}
use Rattle.wire_links.proofs.Under.{under_insert, under_remove}
use Rattle.wire_links.specs.Kept.{Seats, streams_at}
use Rattle.wire_links.specs.Links.{is_on, is_same}
use Rattle.number_set.specs.NumberSet.{Rises}
use Rattle.wire_links.specs.Numbers.{changed, under}
use Rattle.wire_links.specs.Seats.{Seat}
use Rattle.wire_links.specs.declared.links.exchanges.Ends.{Ends}

-- the same stream of the same connection
abbrev pub spot : ℕ → ℕ → ℕ → ℕ → Bool
spot c stream j s = nat_eq c j && nat_eq stream s

pub or_false : (b : Bool) → (b || false) ≡ b
or_false true = refl
or_false false = refl

pub or_true : (b : Bool) → (b || true) ≡ true
or_true true = refl
or_true false = refl

and_false : (b : Bool) → (b && false) ≡ false
and_false true = refl
and_false false = refl

pub and_first : (a b : Bool) → (a && b) ≡ true → a ≡ true
and_first true b so = refl
and_first false b not_so = not_so

pub and_second : (a b : Bool) → (a && b) ≡ true → b ≡ true
and_second true b so = so
and_second false b not_so = absurd (false≢true not_so)

spot_other : (c stream j s : ℕ) → nat_eq c j ≡ false → spot c stream j s ≡ false
spot_other c stream j s apart = ap (λ b. b && nat_eq stream s) apart

pub spot_turned : (c stream j s : ℕ) → (nat_eq j c && nat_eq s stream) ≡ spot c stream j s
spot_turned c stream j s = ap (λ b. b && nat_eq s stream) (turned j c) ∙ ap (λ b. nat_eq c j && b) (turned s stream)

module _ (seats : Seats) (c stream : ℕ) (f : Seat → Seat) (seat : Seat) (found : under c seats ≡ Some seat) where
  -- it is on the stream
  pub table_placed : (x : ℕ) → (f seat).streams ≡ insert_entry nat_cmp seat.streams stream x → (j s : ℕ) →
      under s (streams_at j (changed c f seats)) ≡ (if spot c stream j s then Some x else under s (streams_at j seats))
  table_placed x is j s = elim (same_or_apart c j) [
    | inl same ↦ subst (λ i. under s (streams_at i (changed c f seats)) ≡ (if spot c stream i s then Some x else under s (streams_at i seats))) same
        (ap (under s) (streams_it seats c f seat found ∙ is) ∙ under_insert seat.streams stream s x
        ∙ ap (λ t. if nat_eq stream s then Some x else under s t) (sym (streams_found seats c seat found))
        ∙ ap (λ b. if (b && nat_eq stream s) then Some x else under s (streams_at c seats)) (sym (here c c refl)))
    | inr apart ↦ ap (under s) (streams_others seats c f j apart) ∙ sym (ap (λ b. if b then Some x else under s (streams_at j seats)) (spot_other c stream j s apart))
  ]

  -- it leaves the stream
  pub table_left : Rises (keys_of (streams_at c seats)) → (f seat).streams ≡ remove_entry (is_at (nat_cmp stream)) seat.streams → (j s : ℕ) →
      under s (streams_at j (changed c f seats)) ≡ (if spot c stream j s then None else under s (streams_at j seats))
  table_left r is j s = elim (same_or_apart c j) [
    | inl same ↦ subst (λ i. under s (streams_at i (changed c f seats)) ≡ (if spot c stream i s then None else under s (streams_at i seats))) same
        (ap (under s) (streams_it seats c f seat found ∙ is) ∙ under_remove seat.streams stream s (subst (λ t. Rises (keys_of t)) (streams_found seats c seat found) r)
        ∙ ap (λ t. if nat_eq stream s then None else under s t) (sym (streams_found seats c seat found))
        ∙ ap (λ b. if (b && nat_eq stream s) then None else under s (streams_at c seats)) (sym (here c c refl)))
    | inr apart ↦ ap (under s) (streams_others seats c f j apart) ∙ sym (ap (λ b. if b then None else under s (streams_at j seats)) (spot_other c stream j s apart))
  ]

  -- it is on no stream, and nothing changes
  pub table_same : (f seat).streams ≡ seat.streams → (j : ℕ) → streams_at j (changed c f seats) ≡ streams_at j seats
  table_same is j = elim (same_or_apart c j) [
    | inl same ↦ subst (λ i. streams_at i (changed c f seats) ≡ streams_at i seats) same (streams_it seats c f seat found ∙ is ∙ sym (streams_found seats c seat found))
    | inr apart ↦ streams_others seats c f j apart
  ]

-- a stream of one connection is that of the other where it is the same spot
pub spot_there : (seats : Seats) (c stream j s : ℕ) → spot c stream j s ≡ true → under s (streams_at j seats) ≡ under stream (streams_at c seats)
spot_there seats c stream j s so =
    ap (λ n. under n (streams_at j seats)) (sym (same_is stream s (and_second (nat_eq c j) (nat_eq stream s) so)))
    ∙ ap (λ n. under stream (streams_at n seats)) (sym (same_is c j (and_first (nat_eq c j) (nat_eq stream s) so)))

-- ---- where an exchange is
pub on_client : (e : Ends) (c stream : ℕ) → e.cluster ≡ None → is_on c stream e ≡ spot e.client e.stream c stream
on_client e c stream none = ap (λ o. (nat_eq c e.client && nat_eq stream e.stream) || (is_same o c && is_same e.cluster_stream stream)) none
    ∙ or_false (nat_eq c e.client && nat_eq stream e.stream) ∙ spot_turned e.client e.stream c stream

pub on_waiting : (e : Ends) (c stream : ℕ) → e.cluster_stream ≡ None → is_on c stream e ≡ spot e.client e.stream c stream
on_waiting e c stream none = ap (λ o. (nat_eq c e.client && nat_eq stream e.stream) || (is_same e.cluster c && is_same o stream)) none
    ∙ ap (λ b. (nat_eq c e.client && nat_eq stream e.stream) || b) (and_false (is_same e.cluster c))
    ∙ or_false (nat_eq c e.client && nat_eq stream e.stream) ∙ spot_turned e.client e.stream c stream

pub on_both : (e : Ends) (t u c stream : ℕ) → e.cluster ≡ Some t → e.cluster_stream ≡ Some u → is_on c stream e ≡ (spot e.client e.stream c stream || spot t u c stream)
on_both e t u c stream to at =
    ap (λ o. (nat_eq c e.client && nat_eq stream e.stream) || (is_same o c && is_same e.cluster_stream stream)) to
    ∙ ap (λ o. (nat_eq c e.client && nat_eq stream e.stream) || (nat_eq c t && is_same o stream)) at
    ∙ ap (λ b. b || (nat_eq c t && nat_eq stream u)) (spot_turned e.client e.stream c stream)
    ∙ ap (λ b. spot e.client e.stream c stream || b) (spot_turned t u c stream)

-- ---- what is the same as a number
pub is_found : (o : Option ℕ) (n : ℕ) → is_same o n ≡ true → o ≡ Some n
is_found None n not_so = absurd (false≢true not_so)
is_found (Some m) n so = ap Some (sym (same_is n m so))

pub same_itself : (n : ℕ) → is_same (Some n) n ≡ true
same_itself n = here n n refl

pub same_other : (m n : ℕ) → nat_eq m n ≡ false → is_same (Some m) n ≡ false
same_other m n apart = turned n m ∙ apart

-- what is one number isn't another
pub found_other : (o : Option ℕ) (m n : ℕ) → is_same o m ≡ true → nat_eq m n ≡ false → is_same o n ≡ false
found_other o m n so apart = ap (λ p. is_same p n) (is_found o m so) ∙ same_other m n apart
