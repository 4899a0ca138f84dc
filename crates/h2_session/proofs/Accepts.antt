-- Connection errors, and opening a stream of this side's own.
use Rattle.std.proofs.Common.{◌≡◌, ℕ, ◌+◌, Bool, true, false, cond, eqb, List, [], ◌∷◌, Option, Some, None, refl, sym, ap, subst, ◌∙◌, arith}
use Rattle.std.specs.Option.{option_map_or}
use Rattle.std.specs.Prelude.{IfSome, nat_lt, not, ◌%◌, ◌&&◌, ◌||◌}
use Rattle.std.proofs.lemmas.Bool.Decides.{nat_tests}
use Rattle.h2_frames.specs.Frame.{Frame}
use Rattle.h2_session.specs.Blocks.{open_block}
use Rattle.h2_session.specs.Errors.{after, error_by, error_of, first_of, may_open, used_stream, uses_idle}
use Rattle.h2_session.specs.Happened.{Came, Failed, Happening, Opened, failure, next_number, none_came, was_ended, was_opened}
use Rattle.h2_session.specs.Streams.{head_stands, is_among, is_idle, is_new, opened, peer_ended, state_of, was_closed}
use Rattle.h2_session.specs.Summary.{StandsFor, Summary, is_idle_in, uses_idle_in}
use Rattle.h2_session.specs.Table.{Puts, stream_at}
use Rattle.h2_session.specs.declared.block.HeaderBlock.{HeaderBlock}
use Rattle.h2_session.specs.declared.streams.Stream.{Stream}
use Rattle.h2_session.proofs.BlockEnds.{same_number}
use Rattle.h2_session.proofs.Came.{puts_same}
use Rattle.h2_session.proofs.Opening.{stands_opened}
use Rattle.h2_session.proofs.Standing.{Keeps, stands_moved}
use Rattle.h2_session.proofs.States.{state_with}

idle_as : (past : List Happening) (v : Summary) (s : ℕ) → StandsFor past v → is_idle_in v s ≡ is_idle v.side.client_side s past
idle_as past v s h =
    ap (λ (b : Bool). cond v.side.client_side (not b) (nat_lt v.greatest s) || (not v.side.client_side && eqb (s % 2) 0)) (sym (h.numbered s))
    ∙ ap (λ (n : ℕ). cond v.side.client_side (not (was_opened s past)) (nat_lt n s) || (not v.side.client_side && eqb (s % 2) 0)) h.greatest

uses_idle_as : (past : List Happening) (v : Summary) (frame : Frame) → StandsFor past v → uses_idle_in v frame ≡ uses_idle v.side frame past
uses_idle_as past v frame h = ap (λ (b : Bool). not (may_open v.side frame) && b) (used (used_stream frame))
  where
    used : (o : Option ℕ) → option_map_or (is_idle_in v) o false ≡ option_map_or (λ s. is_idle v.side.client_side s past) o false
    used None = refl
    used (Some s) = idle_as past v s h

not_not : (b : Bool) → not (not b) ≡ b
not_not true = refl
not_not false = refl

-- what is kept tells the error of a frame
pub error_as : (past : List Happening) (v : Summary) (frame : Frame) → StandsFor past v
    → first_of v.failed (error_by v.side frame (not v.started) v.block (uses_idle_in v frame) v.empties) ≡ error_of v.side frame past
error_as past v frame h =
    ap (λ (o : Option ℕ). first_of o (error_by v.side frame (not v.started) v.block (uses_idle_in v frame) v.empties)) h.failed
    ∙ ap (first_of (failure past))
    (ap (λ (b : Bool). error_by v.side frame b v.block (uses_idle_in v frame) v.empties) (ap not h.started ∙ not_not (none_came past))
    ∙ ap (λ (o : Option HeaderBlock). error_by v.side frame (none_came past) o (uses_idle_in v frame) v.empties) h.block
    ∙ ap (λ (b : Bool). error_by v.side frame (none_came past) (open_block past) b v.empties) (uses_idle_as past v frame h)
    ∙ ap (error_by v.side frame (none_came past) (open_block past) (uses_idle v.side frame past)) h.empties)

abbrev pub failed_with : ℕ → Summary → Summary
failed_with code v = record { side = v.side; failed = Some code; started = v.started; block = v.block; greatest = v.greatest; next = v.next; empties = v.empties; streams = v.streams }

pub failed_stands : (past : List Happening) (v : Summary) (frame : Frame) (code : ℕ) → StandsFor past v → error_of v.side frame past ≡ Some code → StandsFor (after v.side frame past) (failed_with code v)
failed_stands past v frame code h e =
    subst (λ (o : Option ℕ). StandsFor (option_map_or (λ c. Failed c) o (Came frame) ∷ past) (failed_with code v)) (sym e)
    (stands_moved (Failed code) past v (failed_with code v) 0 (stream_at 0 v.streams) h refl
    (record {
      failed = refl;
      started = h.started;
      block = h.block;
      greatest_as = h.greatest;
      next = h.next;
      numbered = h.numbered;
      empties = h.empties;
      new = λ q n. n;
      untouched = λ q n. let before = h.untouched q n in record { peer = before.peer; ended = before.ended; closed = before.closed; head = before.head };
      within = h.within;
    })
    (record { opened_as = refl; of = record { closed = λ q n. refl; peer = λ q n. refl; ended = λ q n. refl; head = λ q n. refl } })
    (puts_same 0 v.streams) (h.streams 0))

pub took_stands : (past : List Happening) (v w : Summary) (frame : Frame) → error_of v.side frame past ≡ None → StandsFor (Came frame ∷ past) w → StandsFor (after v.side frame past) w
took_stands past v w frame e s = subst (λ (o : Option ℕ). StandsFor (option_map_or (λ c. Failed c) o (Came frame) ∷ past) w) (sym e) s

-- ---- opening

next_odd : (past : List Happening) → next_number past % 2 ≡ 1
next_odd [] = refl
next_odd (Opened s ∷ past) = omega (arith, next_odd past)
next_odd (x ∷ past) = next_odd past

-- the numbers below the next one, and the odd ones among them
numbers : (s q n : ℕ) → n % 2 ≡ 1 → s ≡ n → eqb s q || (nat_lt q n && eqb (q % 2) 1) ≡ nat_lt q (n + 2) && eqb (q % 2) 1
numbers s q n odd e = grind (arith, nat_tests)

-- what is left beside the streams where this side opens one
pub record LeavesOpened (v w : Summary) : Type 0 where
  pub side : w.side ≡ v.side
  pub failed : w.failed ≡ v.failed
  pub started : w.started ≡ v.started
  pub block : w.block ≡ v.block
  pub greatest : w.greatest ≡ v.greatest
  pub next : w.next ≡ v.next + 2
  pub empties : w.empties ≡ v.empties

opened_keeps : (past : List Happening) (v w : Summary) (s : ℕ) → StandsFor past v → LeavesOpened v w → s ≡ v.next
    → ((q : ℕ) → is_new v.side.client_side q (Opened s ∷ past) ≡ true → is_new v.side.client_side q past ≡ true) → Keeps v.side (Opened s) past w
opened_keeps past v w s h l e mono = record {
  failed = l.failed ∙ h.failed;
  started = l.started ∙ h.started;
  block = l.block ∙ h.block;
  greatest_as = l.greatest ∙ h.greatest;
  next = l.next ∙ ap (λ (n : ℕ). n + 2) h.next;
  numbered = λ q.
      ap (λ (b : Bool). eqb s q || b) (h.numbered q)
      ∙ numbers s q v.next (ap (λ (n : ℕ). n % 2) h.next ∙ next_odd past) e
      ∙ ap (λ (n : ℕ). nat_lt q n && eqb (q % 2) 1) (sym l.next);
  empties = l.empties ∙ h.empties;
  new = mono;
  untouched = λ q n. let before = h.untouched q (mono q n) in record { peer = before.peer; ended = before.ended; closed = before.closed; head = before.head };
  within = λ c. inside (open_block past) (h.within c);
}
  where
    either : (a b : Bool) → b ≡ true → a || b ≡ true
    either true b e = refl
    either false b e = e

    inside : (o : Option HeaderBlock) → IfSome o (λ b. was_opened b.stream past ≡ true) → IfSome o (λ b. was_opened b.stream (Opened s ∷ past) ≡ true)
    inside None i = i
    inside (Some b) i = either (eqb s b.stream) (was_opened b.stream past) i

mono_client : (c : Bool) (s q : ℕ) (past : List Happening) → is_new c q (Opened s ∷ past) ≡ true → is_new c q past ≡ true
mono_client true s q past n = second (eqb s q) (was_opened q past) n
  where
    second : (a b : Bool) → not (a || b) ≡ true → not b ≡ true
    second true b e = absurd cc
    second false b e = e
mono_client false s q past n = n

-- on a connection from a client nothing is opened
pub numbered_stands : (past : List Happening) (v w : Summary) (s : ℕ) → StandsFor past v → LeavesOpened v w → s ≡ v.next → v.side.client_side ≡ false → w.streams ≡ v.streams → StandsFor (Opened s ∷ past) w
numbered_stands past v w s h l e c same =
    stands_moved (Opened s) past v w s (stream_at s v.streams) h l.side (opened_keeps past v w s h l e (λ q n. mono_client v.side.client_side s q past n))
    (record { opened_as = none; of = record { closed = λ q n. refl; peer = λ q n. refl; ended = λ q n. refl; head = λ q n. refl } })
    (subst (λ (t : List (ℕ × Stream)). Puts s (stream_at s v.streams) v.streams t) (sym same) (puts_same s v.streams))
    (h.streams s ∙ sym (ap (λ (l : List ℕ). state_with (is_among s l) (was_closed s past) (peer_ended s past) (was_ended s past) (head_stands s past)) none))
  where
    none : opened v.side (Opened s ∷ past) ≡ opened v.side past
    none = ap (λ (b : Bool). cond b (s ∷ opened v.side past) (opened v.side past)) c

-- towards a cluster the stream is open, and no more than that
pub own_stands : (past : List Happening) (v w : Summary) (s : ℕ) → StandsFor past v → LeavesOpened v w → s ≡ v.next → v.side.client_side ≡ true
    → Puts s (Some (record { peer_ended = false; ended = false; head = false })) v.streams w.streams → StandsFor (Opened s ∷ past) w
own_stands past v w s h l e c put =
    stands_opened (Opened s) past v w s (record { peer_ended = false; ended = false; head = false }) h l.side (opened_keeps past v w s h l e (λ q n. mono_client v.side.client_side s q past n))
    (record { opened_as = more; of = record { closed = λ q n. refl; peer = λ q n. refl; ended = λ q n. refl; head = λ q n. refl }; new_before = new; new_after = old; state_is = state }) put
  where
    more : opened v.side (Opened s ∷ past) ≡ s ∷ opened v.side past
    more = ap (λ (b : Bool). cond b (s ∷ opened v.side past) (opened v.side past)) c

    unopened : was_opened s past ≡ false
    unopened = h.numbered s ∙ rw e (below v.next (v.next % 2))
      where
        below : (n k : ℕ) → nat_lt n n && eqb k 1 ≡ false
        below n k = grind (arith, nat_tests)

    new : is_new v.side.client_side s past ≡ true
    new = rw (c, unopened) refl

    old : is_new v.side.client_side s (Opened s ∷ past) ≡ false
    old = rw (c, same_number s) refl

    state : Some (record { peer_ended = false; ended = false; head = false }) ≡ state_of v.side s (Opened s ∷ past)
    state =
        let before = h.untouched s new in
        let among : is_among s (opened v.side (Opened s ∷ past)) ≡ true = ap (is_among s) more ∙ ap (λ (b : Bool). b || is_among s (opened v.side past)) (same_number s) in
        sym (ap (λ (a : Bool). state_with a (was_closed s past) (peer_ended s past) (was_ended s past) (head_stands s past)) among
        ∙ ap (λ (b : Bool). state_with true b (peer_ended s past) (was_ended s past) (head_stands s past)) before.closed
        ∙ ap (λ (b : Bool). state_with true false b (was_ended s past) (head_stands s past)) before.peer
        ∙ ap (λ (b : Bool). state_with true false false b (head_stands s past)) before.ended
        ∙ ap (λ (b : Bool). state_with true false false false b) before.head)

pub numbered_from : (u v w : Summary) (s : ℕ) → u ≡ v → LeavesOpened u w → s ≡ u.next → u.side.client_side ≡ false → w.streams ≡ u.streams
    → (past : List Happening) → StandsFor past v → StandsFor (Opened s ∷ past) w
numbered_from u v w s e l n c same past h = numbered_stands past u w s (subst (StandsFor past) (sym e) h) l n c same

pub own_from : (u v w : Summary) (s : ℕ) → u ≡ v → LeavesOpened u w → s ≡ u.next → u.side.client_side ≡ true
    → Puts s (Some (record { peer_ended = false; ended = false; head = false })) u.streams w.streams
    → (past : List Happening) → StandsFor past v → StandsFor (Opened s ∷ past) w
own_from u v w s e l n c put past h = own_stands past u w s (subst (StandsFor past) (sym e) h) l n c put
