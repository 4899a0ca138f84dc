-- The counts of the live streams, step by step.
use Rattle.plain_laws.proofs.Balances.{tally_at}
use Rattle.plain_laws.proofs.Streams.{swapped}
use Rattle.std.proofs.Math.Bool.{and-false}
use Rattle.flow_rules.specs.declared.ids.FlowId.{FlowId}
use Rattle.flow_rules.specs.declared.causes.Cause.{Cause}
use Rattle.plain_laws.proofs.Changes.{frame_paused, frame_resumed, move_paused, move_resumed}
use Rattle.plain_laws.proofs.Counting.{disabled_is, lows_are, one_if, told_of, write_flag, write_left}
use Rattle.plain_laws.proofs.EventChanges.{begin_paused, begin_resumed}
use Rattle.plain_laws.proofs.Flags.{low_empty}
use Rattle.plain_laws.proofs.Own.{send_doom}
use Rattle.plain_laws.proofs.Streams.{by_case, number_is, own_or_other, same_number}
use Rattle.plain_laws.proofs.Tellings.{told_own}
use Rattle.plain_laws.specs.Settled.{Settled}
use Rattle.std.proofs.Common.{ap, arith, refl, subst, sym, ◌∙◌}
use Rattle.std.specs.List.{list_any}
use Rattle.std.specs.Prelude.{Bool, List, [], false, flat_map, if◌then◌else◌, length, not, true, ℕ, ◌&&◌, ◌+◌, ◌-◌, ◌==◌, ◌||◌, ◌∷◌, ◌≡◌, ◌≤◌}
use Rattle.plain_laws.specs.Words.{Alive, Past, conn_high, conn_lows, conn_rises, disabled_at, frame_of, lows_at, move_of, past_begin, past_frame, past_move, send_drains, send_high, send_rises}
use Rattle.tape_laws.specs.Dispatches.{has, live, started}
use Rattle.tape_laws.specs.Flows.{request, same_flow}
use Rattle.tape_laws.specs.History.{Noted}
use Rattle.tape_laws.specs.Pauses.{count, pauses, resumes}
use Rattle.tape_laws.specs.Plain.{plain_setup}
use Rattle.tape_laws.specs.Sources.{is_live}
use Rattle.tape_laws.specs.declared.PlainLimits.{PlainLimits}
use Rattle.wm_buffer.specs.Watermark.{above_after}
use Rattle.flow_rules.specs.declared.ids.BufferId.TheVariants as buffer
use Rattle.flow_notes.specs.declared.notes.Note.TheVariants as note

-- between steps the pauses of a live stream are its resumes, its sources above and its lows
settled_tally : (limits : PlainLimits) (x : ℕ) (h : Past) → Settled limits h → Alive h x → pauses (request x) h + 0 ≡ resumes (request x) h + (disabled_at limits x h + lows_at limits x h)
settled_tally limits x h s is = tally_at limits x h s.regular.lawful s.regular.books.due is

-- so it was paused at least as often as resumed
module _ (limits : PlainLimits) where
  pub settled_pauses : (x : ℕ) (h : Past) → Settled limits h → Alive h x → resumes (request x) h ≤ pauses (request x) h
  settled_pauses x h s is = least _ _ _ (settled_tally limits x h s is)
    where
      least : (p r d : ℕ) → p + 0 ≡ r + d → r ≤ p
      least p r d e = omega (arith, e)

  pub move_count : (x y n : ℕ) (h : Past) → Settled limits h → Alive h y → count (request y) (past_move limits x n h)
      ≡ one_if ((x == y) && send_rises limits x (move_of x n) h) + count (request y) h
  move_count x y n h s is = more _ _ _ _ _ (settled_pauses y h s is) (move_paused limits x n h y) (move_resumed limits x n h y)
    where
      more : (p r p' r' a : ℕ) → r ≤ p → p' ≡ a + p → r' ≡ r → p' - r' ≡ a + (p - r)
      more p r p' r' a le ep er = omega arith

  pub frame_count : (x y n : ℕ) (last : Bool) (h : Past) → Settled limits h → Alive h x → Alive h y
      → count (request y) (past_frame limits x n last h)
      + one_if ((x == y) && send_drains limits x (frame_of x n last) h)
      ≡ one_if (conn_rises limits (frame_of x n last) h) + count (request y) h
  frame_count x y n last h s lives is =
      let drains = send_drains limits x (frame_of x n last) h in
      both _ _ _ _ _ _ (settled_pauses y h s is) (frame_paused limits x n last h y s.regular.books.rising is) (frame_resumed limits x n last h y)
      (own_or_other (λ z. Alive h z → one_if ((x == z) && drains) + resumes (request z) h ≤ pauses (request z) h) x y
      (λ i. own drains refl) (λ d i. other _ _ (cc) (settled_pauses y h s i)) is)
    where
      both : (p r p' r' a b : ℕ) → r ≤ p → p' ≡ a + p → r' ≡ b + r → b + r ≤ p → (p' - r') + b ≡ a + (p - r)
      both p r p' r' a b le ep er fits = omega arith

      other : (a r : ℕ) {p : ℕ} → a ≡ 0 → r ≤ p → a + r ≤ p
      other a r e le = omega arith

      above_counts : (p r d l a w : ℕ) → p + 0 ≡ r + (d + l) → d ≡ a + w → a ≡ 1 → 1 + r ≤ p
      above_counts p r d l a w t e f = omega (arith, t, e, f)

      was_high : (w a : Bool) → (w && not a) ≡ true → w ≡ true
      was_high true a e = refl
      was_high false a e = cc

      own : (b : Bool) → send_drains limits x (frame_of x n last) h ≡ b
          → one_if ((x == x) && b) + resumes (request x) h ≤ pauses (request x) h
      own true e =
          rw (same_number x) (above_counts _ _ _ _ _ (write_flag limits h) (settled_tally limits x h s lives) (disabled_is limits x h) (ap one_if (was_high _ _ e)))
      own false e = other _ _ (cc (and-false (x == x))) (settled_pauses x h s lives)

  pub tell_count : (x y : ℕ) (rest : List FlowId) (h : Past) → Settled limits h → Alive h y
      → conn_lows limits h ≡ request x ∷ rest
      → count (request y) (Noted (note.Resume (request x) (buffer.Write 0)) ∷ h) + one_if (x == y) ≡ count (request y) h
  tell_count x y rest h s is e = by_case (x == y) own other
    where
      lower : (p r k : ℕ) (b : Bool) → b ≡ true → k ≡ 1 → 1 + r ≤ p → (p - (k + r)) + one_if b ≡ p - r
      lower p r k true e f le = omega (arith, f, le)
      lower p r k false e f le = cc

      same : (p r k : ℕ) (b : Bool) → b ≡ false → k ≡ 0 → (p - (k + r)) + one_if b ≡ p - r
      same p r k true e f = cc
      same p r k false e f = omega (arith, f)

      fits : (p r d l q m k : ℕ) → p + 0 ≡ r + (d + l) → l ≡ q + m → m ≡ 1 + k → 1 + r ≤ p
      fits p r d l q m k t e f = omega (arith, t, e, f)

      own : (x == y) ≡ true → count (request y) (Noted (note.Resume (request x) (buffer.Write 0)) ∷ h) + one_if (x == y) ≡ count (request y) h
      own t =
          lower _ _ _ (x == y) t (cc)
          (fits _ _ _ _ _ _ _ (settled_tally limits y h s is) (lows_are limits y h) (subst (λ (v : ℕ). write_left limits v h ≡ 1 + told_of v rest) (number_is x y t) (cc (told_own x rest))))

      other : (x == y) ≡ false → count (request y) (Noted (note.Resume (request x) (buffer.Write 0)) ∷ h) + one_if (x == y) ≡ count (request y) h
      other d = same _ _ _ (x == y) d (cc)

  -- a stream that starts has its pause as its count
  pub begin_count_own : (k x : ℕ) (h : Past) → Settled limits h → has (started h) x ≡ false
      → count (request x) (past_begin limits k x h) ≡ one_if (conn_high limits h)
  begin_count_own k x h s new =
      let u = s.regular.books.unborn x new in
      sums _ _ _ _ _ (cc (begin_paused limits k x h x, same_number x)) (begin_resumed limits k x h x) u.paused u.resumed
    where
      sums : (p r p' r' a : ℕ) → p' ≡ a + p → r' ≡ r → p ≡ 0 → r ≡ 0 → p' - r' ≡ a
      sums p r p' r' a e1 e2 e3 e4 = omega arith

  pub begin_count : (k x y : ℕ) (h : Past) → (x == y) ≡ false → count (request y) (past_begin limits k x h) ≡ count (request y) h
  begin_count k x y h d =
      sums _ _ _ _ _ (begin_paused limits k x h y) (begin_resumed limits k x h y) (cc)
    where
      sums : (p r p' r' a : ℕ) → p' ≡ a + p → r' ≡ r → a ≡ 0 → p' - r' ≡ p - r
      sums p r p' r' a e1 e2 e3 = omega arith

  -- ---- others

  -- the send buffer of a doomed stream is low
  pub doom_low : (x : ℕ) (why : Cause) (h : Past) → send_high limits x (Noted (note.Doom x why) ∷ h) ≡ false
  doom_low x why h =
      ap (λ (o : List ℕ). above_after limits.send (send_high limits x h) (length o)) (send_doom limits x why h)
      ∙ low_empty limits.send (send_high limits x h)

-- a flow is live where it is the request flow of a live stream
pub is_live_is : (limits : PlainLimits) (f : FlowId) (h : Past) → is_live (plain_setup limits) f h ≡ (not f.back && has (live h) f.exchange)
is_live_is limits f h = among f.exchange f.back (live h)
  where
    joined : (a c b h t : Bool) → a ≡ c → t ≡ (not b && h) → ((a && (if b then false else true)) || t) ≡ (not b && (c || h))
    joined true true true h t e f = f
    joined true true false h t e f = refl
    joined true false b h t e f = cc
    joined false true b h t e f = cc
    joined false false true h t e f = f
    joined false false false h t e f = f

    among : (x : ℕ) (b : Bool) (xs : List ℕ) → list_any (same_flow (record { exchange = x; back = b })) (flat_map (λ y. request y ∷ []) xs) ≡ (not b && has xs x)
    among x b [] = sym (and-false (not b))
    among x b (y ∷ ys) = joined (x == y) (y == x) b (has ys x) _ (swapped x y) (among x b ys)
