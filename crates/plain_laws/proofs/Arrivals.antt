-- Octets arrive in a receive buffer.
use Rattle.plain_laws.proofs.Leaving.{flow_kept}
use Rattle.plain_laws.specs.Words.{Past, Alive, conn_lows, conn_out, lows_of, recv_at, send_at}
use Rattle.tape_laws.specs.Doomed.{is_swept}
use Rattle.plain_laws.proofs.Extending.{MayAdd, one_owed, regular_more}
use Rattle.plain_laws.proofs.Leaving.{Leaves, lows_kept, once_kept, only_other, only_own, room_kept, same_len_if, send_low_kept, unborn_kept}
use Rattle.plain_laws.proofs.Streams.{apart_from, flow_is_live, own_or_other, same_number}
use Rattle.plain_laws.specs.Owing.{arriving, nothing}
use Rattle.plain_laws.specs.Regular.{Books, FlowBooks, Regular}
use Rattle.std.proofs.Common.{ap, arith, length-append, refl, sym, ◌∙◌}
use Rattle.std.proofs.lemmas.List.{append-nil}
use Rattle.std.specs.Prelude.{List, [], false, length, nat_lt, ℕ, ◌++◌, ◌+◌, ◌<◌, ◌==◌, ◌∷◌, ◌≡◌, ◌≤◌}
use Rattle.tape_laws.specs.Dispatches.{live, started}
use Rattle.tape_laws.specs.Flows.{request}
use Rattle.tape_laws.specs.History.{NoMark, Noted, Step}
use Rattle.tape_laws.specs.World.{received}
use Rattle.tape_laws.specs.declared.PlainLimits.{PlainLimits}
use Rattle.flow_notes.specs.declared.notes.Note.TheVariants as note

pub arrive_leaves : (limits : PlainLimits) (x y : ℕ) (octets : List ℕ) (h : Past) → (x == y) ≡ false → Leaves limits y (Noted (note.Arrive (request x) octets)) h
arrive_leaves limits x y octets h e = record {
  recv = rw e (append-nil (recv_at limits y h));
  send = rw e (append-nil (send_at limits y h));
  send_lows = refl;
  paused = refl;
  resumed = refl;
  body = refl;
  received = rw e (append-nil (received (request y) h));
  framed = refl;
}

-- what it is asked for
arrive_may : (limits : PlainLimits) (x : ℕ) (octets : List ℕ) (h : Past) → Books limits (arriving x octets) h → is_swept h ≡ false → Alive h x → 0 < length octets
    → MayAdd limits (note.Arrive (request x) octets) h
arrive_may limits x octets h s fresh is some = record {
  allowed = (flow_is_live limits x h is, some);
  paused = s.due;
  ends = tt;
  in_turn = tt;
  doomed = is;
  swept = fresh;
  answered = rw s.asks refl;
  only = tt;
  quiet = tt;
  licensed = tt;
}

-- the stream's own books
arrive_own : (limits : PlainLimits) (x : ℕ) (octets : List ℕ) (h : Past) → FlowBooks limits (arriving x octets) x h → 0 < length octets
    → length (recv_at limits x h) + length octets ≤ limits.recv → FlowBooks limits nothing x (Noted (note.Arrive (request x) octets) ∷ h)
arrive_own limits x octets h f some room =
    let step : Step NoMark = Noted (note.Arrive (request x) octets) in
    let recv_is : recv_at limits x (step ∷ h) ≡ recv_at limits x h ++ octets = rw (same_number x) refl in
    let send_is : send_at limits x (step ∷ h) ≡ send_at limits x h =
    rw (same_number x) (append-nil (send_at limits x h)) in
    let received_is : received (request x) (step ∷ h) ≡ received (request x) h ++ octets = rw (same_number x) refl in
    let lows_is : lows_of limits x (step ∷ h) ≡ lows_of limits x h = refl in
    record {
      send_low = send_low_kept limits x step h send_is lows_is f.send_low;
      recv_room = fits _ _ _ _ recv_is room;
      send_room = same_len_if (nat_lt 0 limits.send) _ _ (limits.send + limits.quantum) send_is f.send_room;
      read = cc (only_own x octets, append-nil (received (request x) (step ∷ h)));
      over = λ t. absurd (never _ (sym (only_own x octets) ∙ (f.over t).2) some);
      unframed = f.unframed;
    }
  where
    fits : (xs ys zs : List ℕ) (n : ℕ) → zs ≡ xs ++ ys → length xs + length ys ≤ n → length zs ≤ n
    fits xs ys zs n e le = let l : length zs ≡ length xs + length ys = ap length e ∙ length-append xs ys in omega (arith, l, le)

    never : (xs : List ℕ) → xs ≡ [] → 0 < length xs → ⊥
    never xs e some = let l : length xs ≡ 0 = ap length e in omega (arith, l, some)

module _ (limits : PlainLimits) (x : ℕ) (octets : List ℕ) (h : Past) where
  arrive_books : Books limits (arriving x octets) h → Alive h x → 0 < length octets
      → length (recv_at limits x h) + length octets ≤ limits.recv → Books limits nothing (Noted (note.Arrive (request x) octets) ∷ h)
  arrive_books s is some room =
      let step : Step NoMark = Noted (note.Arrive (request x) octets) in
      let out_same : conn_out limits (step ∷ h) ≡ conn_out limits h = refl in
      let lows_same : conn_lows limits (step ∷ h) ≡ conn_lows limits h = refl in
      record {
        due = refl;
        asks = one_owed _ _ s.asks;
        opened = s.opened;
        known = s.known;
        unclosed = s.unclosed;
        write_room = room_kept limits out_same s.write_room;
        rising = s.rising;
        born = s.born;
        said = s.said;
        each = λ y e. own_or_other (λ z. FlowBooks limits nothing z (step ∷ h)) x y (arrive_own limits x octets h (s.each x is) some room)
            (λ d. flow_kept limits (arriving x octets) nothing y step h (arrive_leaves limits x y octets h d) (s.each y e)
            (sym (only_other x y octets d)) (s.each y e).unframed);
        unborn = λ y e. let d = apart_from (started h) x y (s.born x is) e in
            unborn_kept limits y step h (arrive_leaves limits x y octets h d) (record { ended = refl; pairs = refl; must = refl }) (s.unborn y e);
        owed = tt;
        write_lows = lows_kept (live h) lows_same s.write_lows;
        write_once = once_kept lows_same s.write_once;
        hushed = λ y e. s.hushed y e;
      }

  pub arrive_regular : Regular limits (arriving x octets) h → is_swept h ≡ false → Alive h x → 0 < length octets
      → length (recv_at limits x h) + length octets ≤ limits.recv
      → Regular limits nothing (Noted (note.Arrive (request x) octets) ∷ h)
  arrive_regular r fresh is some room =
      regular_more limits (arriving x octets) nothing (note.Arrive (request x) octets) h r (arrive_may limits x octets h r.books fresh is some)
      (arrive_books r.books is some room)
