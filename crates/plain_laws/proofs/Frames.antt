-- A frame of the flow whose turn it is.
use Rattle.plain_laws.proofs.Leaving.{flow_kept}
use Rattle.std.proofs.lemmas.Bool.{and_parts as both_true}
use Rattle.h2_frames.specs.Head.{data_head}
use Rattle.plain_laws.specs.Words.{Past, Alive, conn_high, conn_lows, conn_out, end_out, frame_of, lows_of, next_out, recv_at, send_at, send_high}
use Rattle.tape_laws.specs.Doomed.{is_swept}
use Rattle.flow_rules.specs.declared.ids.FlowId.{FlowId}
use Rattle.plain_laws.proofs.Extending.{MayAdd, free_meets, nothing_owed, regular_more, under_test}
use Rattle.plain_laws.proofs.Flags.{no_rise, send_now}
use Rattle.plain_laws.proofs.Greatest.{dropped}
use Rattle.plain_laws.proofs.Leaving.{Leaves, LeavesWords, lows_kept, once_kept, same_len, unborn_kept}
use Rattle.plain_laws.proofs.Moves.{where_limited, write_within}
use Rattle.plain_laws.proofs.Rises.{low_rises, rise_due}
use Rattle.plain_laws.proofs.Rotation.{IsBodyUnit, body_unit, carried_is, carries_is, next_is_unit}
use Rattle.plain_laws.proofs.Streams.{apart_from, by_case, differs_back, flow_is_live, not_both, own_or_other, same_number, same_request}
use Rattle.plain_laws.proofs.Tellings.{live_owed}
use Rattle.plain_laws.proofs.Watching.{send_watchers, write_watchers}
use Rattle.plain_laws.specs.Owing.{Owing, due_if, nothing, owed}
use Rattle.plain_laws.specs.Regular.{Books, FlowBooks, IsRising, Regular}
use Rattle.std.proofs.Common.{ap, arith, inl, inr, length-append, length-drop, length-take, refl, sym, ◌∙◌}
use Rattle.std.proofs.lemmas.List.{append-nil}
use Rattle.std.specs.Prelude.{Bool, List, [], drop, false, if◌then◌else◌, length, max, min, nat_lt, not, take, true, ℕ, ◌&&◌, ◌++◌, ◌+◌, ◌<◌, ◌==◌, ◌||◌, ◌∷◌, ◌≡◌, ◌≤◌, ◌⊎◌}
use Rattle.tape_laws.specs.Dispatches.{live, started}
use Rattle.flow_rules.specs.declared.unit.Unit.TheVariants.{Body as BodyUnit}
use Rattle.tape_laws.specs.Flows.{request}
use Rattle.tape_laws.specs.History.{NoMark, Step}
use Rattle.tape_laws.specs.Order.{Flows}
use Rattle.tape_laws.specs.Plain.{paired_with, plain_ended, plain_setup}
use Rattle.tape_laws.specs.PlainSession.{plain_must_end}
use Rattle.tape_laws.specs.Sources.{watchers}
use Rattle.tape_laws.specs.declared.PlainLimits.{PlainLimits}
use Rattle.flow_rules.specs.declared.ids.BufferId.TheVariants as buffer
use Rattle.flow_notes.specs.declared.notes.Note.TheVariants as note
use Rattle.plain_laws.proofs.Streams.{number_is as zero_of}

pub frame_leaves : (limits : PlainLimits) (x y n : ℕ) (last : Bool) (h : Past) → (x == y) ≡ false → Leaves limits y (frame_of x n last) h
frame_leaves limits x y n last h e = record {
  recv = rw e refl;
  send = rw e refl;
  send_lows = rw (differs_back x y e) (append-nil (lows_of limits y h));
  paused = refl;
  resumed = refl;
  body = refl;
  received = refl;
  framed = rw e refl;
}

-- a stream that hasn't begun has no pair that might end it
pub frame_words : (x y n : ℕ) (last : Bool) (h : Past) → (x == y) ≡ false → paired_with y h ≡ [] → LeavesWords y (frame_of x n last) h
frame_words x y n last h e alone = record {
  ended = refl;
  pairs = refl;
  must = cc (neither last (y == x) (plain_must_end y h) (differs_back x y e));
}
  where
    neither : (l d m : Bool) → d ≡ false → ((l && (d || false)) || m) ≡ m
    neither l true m e = cc
    neither true false m e = refl
    neither false false m e = refl

-- what the unit tells
pub frame_unit : (limits : PlainLimits) (x n : ℕ) (last : Bool) (h : Past) → next_out limits h ≡ Flows (request x) (BodyUnit n last)
    → IsBodyUnit limits.quantum (plain_ended x h) (end_out limits x h) (length (recv_at limits x h))
    (length (send_at limits x h)) n last
frame_unit limits x n last h next =
    body_unit _ _ _ n _ _ last (next_is_unit limits (request x) (BodyUnit n last) h next)

-- no end was framed before
pub frame_once : (limits : PlainLimits) (o : Owing) (x n : ℕ) (last : Bool) (h : Past) → FlowBooks limits o x h → next_out limits h ≡ Flows (request x) (BodyUnit n last)
    → end_out limits x h ≡ false
frame_once limits o x n last h f next =
    let u = frame_unit limits x n last h next in
    by_case (end_out limits x h) (λ t. absurd (empty n limits.quantum _ (f.over t).1 u.all (u.again t))) (λ f. f)
  where
    empty : (n q : ℕ) (xs : List ℕ) → xs ≡ [] → n ≡ min q (length xs) → 0 < n → ⊥
    empty n q xs e all some = let k : length xs ≡ 0 = ap length e in omega (arith, k, some, all)

frame_may : (limits : PlainLimits) (x n : ℕ) (last : Bool) (h : Past) → Books limits nothing h → is_swept h ≡ false → Alive h x
    → conn_high limits h ≡ false → next_out limits h ≡ Flows (request x) (BodyUnit n last)
    → MayAdd limits (note.Frame 0 (request x) n last) h
frame_may limits x n last h s fresh is low next =
    let u = frame_unit limits x n last h next in
    record {
      allowed = record {
        live = flow_is_live limits x h is;
        to = refl;
        write = record { opened = cc; low = low };
        all = u.all ∙ sym (carried_is limits x h);
        some = u.some;
      };
      paused = s.due;
      ends = record { exactly = u.ends ∙ sym (carries_is limits x n h); once = frame_once limits nothing x n last h (s.each x is) next; after_head = refl };
      in_turn = next;
      doomed = is;
      swept = fresh;
      answered = free_meets limits _ (note.Frame 0 (request x) n last) s.asks tt;
      only = tt;
      quiet = tt;
      licensed = tt;
    }

-- the pauses of the write buffer
abbrev after_frame : PlainLimits → ℕ → ℕ → Bool → Past → Owing
after_frame limits x n last h = owed (due_if (conn_high limits (frame_of x n last ∷ h)) (buffer.Write 0) (live h))

module _ (limits : PlainLimits) (x n : ℕ) (last : Bool) (h : Past) where
  send_is : send_at limits x (frame_of x n last ∷ h) ≡ drop n (send_at limits x h)
  send_is = rw (same_number x) refl

  pub send_less : length (send_at limits x (frame_of x n last ∷ h)) ≤ length (send_at limits x h)
  send_less = dropped n _ _ (send_is)

  pub frame_low : send_high limits x h ≡ false
      → send_high limits x (frame_of x n last ∷ h) ≡ false
  frame_low low = no_rise limits.send _ _ _ (send_now limits (request x) h) (send_less) low

  -- what the send buffer is to be told, where it had nothing to be told
  pub lows_after : IsRising (live h) → Alive h x
      → lows_of limits x (frame_of x n last ∷ h)
      ≡ lows_of limits x h
      ++ (if send_high limits x h && not (send_high limits x (frame_of x n last ∷ h)) then request x ∷ [] else [])
  lows_after r is =
      told _ _ _ _ (same_request x) (send_watchers limits x h r is)
    where
      told : (same drained : Bool) (pending watching : List FlowId) → same ≡ true → watching ≡ request x ∷ []
          → pending ++ (if same && drained then watching else []) ≡ pending ++ (if drained then request x ∷ [] else [])
      told same true pending watching es ew = rw (es, ew) refl
      told same false pending watching es ew = rw es refl

-- a buffer that is above has nothing to be told
pub high_untold : (limits : PlainLimits) (o : Owing) (x : ℕ) (h : Past) → FlowBooks limits o x h → send_high limits x h ≡ true
    → lows_of limits x h ≡ []
high_untold limits o x h f high = pick f.send_low
  where
    pick : (lows_of limits x h ≡ [])
        ⊎ ((lows_of limits x h ≡ request x ∷ []) × (send_high limits x h ≡ false))
        → lows_of limits x h ≡ []
    pick (inl e) = e
    pick (inr e) = not_both (send_high limits x h) high e.1

-- it is told at most once, and then it isn't above
told_once : (limits : PlainLimits) (o : Owing) (x n : ℕ) (last : Bool) (h : Past) → IsRising (live h) → Alive h x → FlowBooks limits o x h
    → (lows_of limits x (frame_of x n last ∷ h) ≡ [])
    ⊎ ((lows_of limits x (frame_of x n last ∷ h) ≡ request x ∷ [])
    × (send_high limits x (frame_of x n last ∷ h) ≡ false))
told_once limits o x n last h r is f =
    by_case (send_high limits x h)
    (λ t. was_high (send_high limits x (frame_of x n last ∷ h)) refl t (high_untold limits o x h f t))
    (λ d. was_low d f.send_low)
  where
    was_high : (a : Bool) → send_high limits x (frame_of x n last ∷ h) ≡ a
        → send_high limits x h ≡ true → lows_of limits x h ≡ []
        → (lows_of limits x (frame_of x n last ∷ h) ≡ [])
        ⊎ ((lows_of limits x (frame_of x n last ∷ h) ≡ request x ∷ [])
        × (send_high limits x (frame_of x n last ∷ h) ≡ false))
    was_high true e t none = inl (cc (lows_after limits x n last h r is))
    was_high false e t none = inr (
      lows_after limits x n last h r is ∙ ap (λ (fs : List FlowId). fs ++ (if send_high limits x h
          && not (send_high limits x (frame_of x n last ∷ h)) then request x ∷ [] else [])) none
          ∙ ap (λ b. if b && not (send_high limits x (frame_of x n last ∷ h)) then request x ∷ [] else []) t
          ∙ ap (λ b. if not b then request x ∷ [] else []) e,
      e,
    )

    kept : send_high limits x h ≡ false
        → lows_of limits x (frame_of x n last ∷ h) ≡ lows_of limits x h
    kept d = cc (lows_after limits x n last h r is, append-nil (lows_of limits x h))

    was_low : send_high limits x h ≡ false
        → (lows_of limits x h ≡ [])
        ⊎ ((lows_of limits x h ≡ request x ∷ []) × (send_high limits x h ≡ false))
        → (lows_of limits x (frame_of x n last ∷ h) ≡ [])
        ⊎ ((lows_of limits x (frame_of x n last ∷ h) ≡ request x ∷ [])
        × (send_high limits x (frame_of x n last ∷ h) ≡ false))
    was_low d (inl e) = inl (kept d ∙ e)
    was_low d (inr e) = inr (kept d ∙ e.0, frame_low limits x n last h d)

frame_own : (limits : PlainLimits) (x n : ℕ) (last : Bool) (h : Past) → Books limits nothing h → Alive h x
    → conn_high limits h ≡ false → next_out limits h ≡ Flows (request x) (BodyUnit n last)
    → FlowBooks limits (after_frame limits x n last h) x (frame_of x n last ∷ h)
frame_own limits x n last h s is low next =
    let step : Step NoMark = frame_of x n last in
    let f = s.each x is in
    let u = frame_unit limits x n last h next in
    let once = frame_once limits nothing x n last h f next in
    let recv_is : recv_at limits x (step ∷ h) ≡ recv_at limits x h = rw (same_number x) refl in
    let framed_is : end_out limits x (step ∷ h) ≡ (last || end_out limits x h) = rw (same_number x) refl in
    record {
      send_low = told_once limits nothing x n last h s.rising is f;
      recv_room = same_len _ _ limits.recv recv_is f.recv_room;
      send_room = under_test (nat_lt 0 limits.send) _ _ (less _ _ _ (send_less limits x n last h)) f.send_room;
      read = f.read;
      over = λ t.
          let ended : last ≡ true = by_case last (λ t. t) (λ d. not_both (end_out limits x h) (sym (ap (λ b. b || end_out limits x h) d) ∙ sym framed_is ∙ t) once) in
          let k = left_none _ _ _ (sym u.ends ∙ ended) in
          (recv_is ∙ no_octets _ k.0, send_is limits x n last h ∙ dropped_all n _ k.1, refl);
      unframed = f.unframed;
    }
  where
    less : (a b l : ℕ) → a ≤ b → b ≤ l → a ≤ l
    less a b l e f = omega arith

    left_none : (e : Bool) (r s : ℕ) → (e && ((r == 0) && (s == n))) ≡ true → (r ≡ 0) × (s ≡ n)
    left_none e r s t = let k = both_true (r == 0) (s == n) (both_true e _ t).1 in (zero_of r 0 k.0, zero_of s n k.1)

    no_octets : (xs : List ℕ) → length xs ≡ 0 → xs ≡ []
    no_octets [] e = refl
    no_octets (y ∷ ys) e = absurd (omega (arith, e))

    dropped_all : (n : ℕ) (xs : List ℕ) → length xs ≡ n → drop n xs ≡ []
    dropped_all n xs e = no_octets (drop n xs) (omega (arith, e, length-drop n xs))

frame_books : (limits : PlainLimits) (x n : ℕ) (last : Bool) (h : Past) → Books limits nothing h → Alive h x
    → conn_high limits h ≡ false → next_out limits h ≡ Flows (request x) (BodyUnit n last)
    → Books limits (after_frame limits x n last h) (frame_of x n last ∷ h)
frame_books limits x n last h s is low next =
    let step : Step NoMark = frame_of x n last in
    let u = frame_unit limits x n last h next in
    let a = conn_high limits (step ∷ h) in
    let lows_same : conn_lows limits (step ∷ h) ≡ conn_lows limits h = append-nil _ in
    record {
      due = rise_due (buffer.Write 0) (not (conn_high limits h) && a) (λ b. watchers (plain_setup limits) b h) (live h) (write_watchers limits h)
          ∙ ap (λ b. due_if b (buffer.Write 0) (live h)) (low_rises (conn_high limits h) a low);
      asks = nothing_owed _ s.asks;
      opened = s.opened;
      known = s.known;
      unclosed = s.unclosed;
      write_room = where_limited limits.write _ (λ p. grown (conn_out limits h) (send_at limits x h) _ _ _ (write_within limits h low p) (few _ _ _ u.all));
      rising = s.rising;
      born = s.born;
      said = s.said;
      each = λ y e. own_or_other (λ z. FlowBooks limits (after_frame limits x n last h) z (step ∷ h)) x y (frame_own limits x n last h s is low next)
          (λ d. flow_kept limits nothing (after_frame limits x n last h) y step h (frame_leaves limits x y n last h d) (s.each y e) refl (s.each y e).unframed);
      unborn = λ y e. let d = apart_from (started h) x y (s.born x is) e in let v = s.unborn y e in
          unborn_kept limits y step h (frame_leaves limits x y n last h d) (frame_words x y n last h d v.alone) v;
      owed = live_owed a (buffer.Write 0) (live h) (live h) (λ y e. e);
      write_lows = lows_kept (live h) lows_same s.write_lows;
      write_once = once_kept lows_same s.write_once;
      hushed = λ y e. (frame_leaves limits x y n last h (apart_from (live h) x y is e)).send_lows ∙ s.hushed y e;
    }
  where
    few : (n q l : ℕ) → n ≡ min q l → n ≤ q
    few n q l e = omega (arith, e)

    grown : (xs ys : List ℕ) (n l q : ℕ) → length xs ≤ l → n ≤ q → length (xs ++ (data_head x n last ++ take n ys)) ≤ l + max 65536 (q + 9)
    grown xs ys n l q le fits =
        let k : length (xs ++ (data_head x n last ++ take n ys)) ≡ length xs + (9 + length (take n ys)) =
        cc (length-append xs (data_head x n last ++ take n ys), length-append (data_head x n last) (take n ys)) in
        omega (arith, k, le, fits, length-take n ys)

pub frame_regular : (limits : PlainLimits) (x n : ℕ) (last : Bool) (h : Past) → Regular limits nothing h → is_swept h ≡ false → Alive h x
    → conn_high limits h ≡ false → next_out limits h ≡ Flows (request x) (BodyUnit n last)
    → Regular limits (owed (due_if (conn_high limits (frame_of x n last ∷ h)) (buffer.Write 0) (live h)))
    (frame_of x n last ∷ h)
frame_regular limits x n last h r fresh is low next =
    regular_more limits nothing (after_frame limits x n last h) (note.Frame 0 (request x) n last) h r (frame_may limits x n last h r.books fresh is low next) (frame_books limits x n last h r.books is low next)
