-- What this side does with a stream, and what a connection error leaves.
use Rattle.std.proofs.Common.{◌≡◌, ℕ, Bool, true, false, cond, eqb, List, ◌∷◌, Option, Some, None, refl, sym, ap, subst, ◌∙◌}
use Rattle.std.specs.Prelude.{IfSome, IsNone, nat_lt, not, ◌%◌, ◌&&◌, ◌||◌}
use Rattle.h2_session.specs.Blocks.{greatest, open_block}
use Rattle.h2_session.specs.Errors.{empty_run}
use Rattle.h2_session.specs.Happened.{Closed, Ended, Happening, Interim, Side, failure, next_number, none_came, was_ended, was_opened}
use Rattle.h2_session.specs.Streams.{head_stands, is_among, is_new, is_open, is_over, opened, peer_ended, state_of, was_closed}
use Rattle.h2_session.specs.Summary.{StandsFor, Summary, noted}
use Rattle.h2_session.specs.Table.{Puts, after_end, after_interim, stream_at}
use Rattle.h2_session.specs.declared.block.HeaderBlock.{HeaderBlock}
use Rattle.h2_session.specs.declared.streams.Stream.{Stream}
use Rattle.h2_session.proofs.BlockEnds.{same_number}
use Rattle.h2_session.proofs.Came.{differs}
use Rattle.h2_session.proofs.Opening.{apart_too}
use Rattle.h2_session.proofs.Standing.{Keeps, stands_moved}
use Rattle.h2_session.proofs.States.{IsOf, after_end_is, after_interim_is, closed_is, state_with}

-- the streams apart, what is kept stays
pub record SameRest (v w : Summary) : Type 0 where
  pub side : w.side ≡ v.side
  pub failed : w.failed ≡ v.failed
  pub started : w.started ≡ v.started
  pub block : w.block ≡ v.block
  pub greatest : w.greatest ≡ v.greatest
  pub next : w.next ≡ v.next
  pub empties : w.empties ≡ v.empties

-- a happening that says something of one stream alone
pub record IsCall (side : Side) (s : ℕ) (x : Happening) (past : List Happening) : Type 0 where
  pub failed : failure (x ∷ past) ≡ failure past
  pub started : none_came (x ∷ past) ≡ none_came past
  pub block : open_block (x ∷ past) ≡ open_block past
  pub greatest_as : greatest (x ∷ past) ≡ greatest past
  pub next : next_number (x ∷ past) ≡ next_number past
  pub opened_by : (q : ℕ) → was_opened q (x ∷ past) ≡ was_opened q past
  pub run : empty_run (x ∷ past) ≡ empty_run past
  pub opened_as : opened side (x ∷ past) ≡ opened side past
  pub of : IsOf s x past

new_same : (side : Side) (s q : ℕ) (x : Happening) (past : List Happening) → IsCall side s x past → is_new side.client_side q (x ∷ past) ≡ is_new side.client_side q past
new_same side s q x past c =
    ap (λ (b : Bool). cond side.client_side (not b) (nat_lt (greatest (x ∷ past)) q)) (c.opened_by q) ∙ ap (λ (n : ℕ). cond side.client_side (not (was_opened q past)) (nat_lt n q)) c.greatest_as

call_keeps : (x : Happening) (past : List Happening) (v w : Summary) (s : ℕ) → StandsFor past v → SameRest v w → IsCall v.side s x past
    → ((q : ℕ) → is_new v.side.client_side q past ≡ true → eqb q s ≡ false) → Keeps v.side x past w
call_keeps x past v w s h r c apart = record {
  failed = r.failed ∙ h.failed ∙ sym c.failed;
  started = r.started ∙ h.started ∙ ap not (sym c.started);
  block = r.block ∙ h.block ∙ sym c.block;
  greatest_as = r.greatest ∙ h.greatest ∙ sym c.greatest_as;
  next = r.next ∙ h.next ∙ sym c.next;
  numbered = λ q. c.opened_by q ∙ h.numbered q ∙ ap (λ (n : ℕ). nat_lt q n && eqb (q % 2) 1) (sym r.next);
  empties = r.empties ∙ h.empties ∙ sym c.run;
  new = λ q e. sym (new_same v.side s q x past c) ∙ e;
  untouched = λ q e.
      let new = sym (new_same v.side s q x past c) ∙ e in
      let before = h.untouched q new in
      record { peer = c.of.peer q (apart q new) ∙ before.peer; ended = c.of.ended q (apart q new) ∙ before.ended; closed = c.of.closed q (apart q new) ∙ before.closed; head = c.of.head q (apart q new) ∙ before.head };
  within = λ e. inside (open_block past) (c.opened_by) (subst (λ (o : Option HeaderBlock). IfSome o (λ b. was_opened b.stream past ≡ true)) refl (h.within e)) (sym c.block);
}
  where
    inside : (o : Option HeaderBlock) → ((q : ℕ) → was_opened q (x ∷ past) ≡ was_opened q past) → IfSome o (λ b. was_opened b.stream past ≡ true)
        → {p : Option HeaderBlock} → o ≡ p → IfSome p (λ b. was_opened b.stream (x ∷ past) ≡ true)
    inside None same i e = subst (λ (p : Option HeaderBlock). IfSome p (λ b. was_opened b.stream (x ∷ past) ≡ true)) e tt
    inside (Some b) same i e = subst (λ (p : Option HeaderBlock). IfSome p (λ b. was_opened b.stream (x ∷ past) ≡ true)) e (same b.stream ∙ i)

among_from : (a b : Bool) → a && b ≡ true → a ≡ true
among_from true b e = refl
among_from false b e = absurd cc

abbrev summary_with : Side → Option ℕ → Bool → Option HeaderBlock → ℕ → ℕ → ℕ → List (ℕ × Stream) → Summary
summary_with side failed started block greatest next empties streams =
    record { side = side; failed = failed; started = started; block = block; greatest = greatest; next = next; empties = empties; streams = streams }

equal_summaries : {a b : Side} {c d : Option ℕ} {e f : Bool} {g i : Option HeaderBlock} {j k l m n o : ℕ} {p q : List (ℕ × Stream)}
    → a ≡ b → c ≡ d → e ≡ f → g ≡ i → j ≡ k → l ≡ m → n ≡ o → p ≡ q → summary_with a c e g j l n p ≡ summary_with b d f i k m o q
equal_summaries r s t u x y z w = cc

same_summary : (past : List Happening) (v w : Summary) → StandsFor past v → SameRest v w → w.streams ≡ v.streams → StandsFor past w
same_summary past v w h r s = subst (StandsFor past) (sym (equal_summaries r.side r.failed r.started r.block r.greatest r.next r.empties s)) h

pub call_stands : (x : Happening) (past : List Happening) (v w : Summary) (s : ℕ) (target : Option Stream)
    → StandsFor past v → SameRest v w → IsCall v.side s x past → Puts s target v.streams w.streams
    → target ≡ state_of v.side s (x ∷ past) → (IsNone (stream_at s v.streams) → w.streams ≡ v.streams)
    → StandsFor (noted v.side s x past) w
call_stands x past v w s target h r c put is other = cases (is_open v.side s past) refl
  where
    cases : (b : Bool) → is_open v.side s past ≡ b → StandsFor (cond (is_open v.side s past) (x ∷ past) past) w
    cases true e =
        let old = h.begun s (among_from (is_among s (opened v.side past)) (not (is_over s past)) e) in
        rw e (stands_moved x past v w s target h r.side (call_keeps x past v w s h r c (λ q new. differs v.side.client_side q s past new old))
        (record { opened_as = c.opened_as; of = c.of }) put is)
    cases false e =
        let none : state_of v.side s past ≡ None = rw e refl in
        rw e (same_summary past v w h r (other (subst IsNone (sym (h.streams s ∙ none)) refl)))

is_ended : (side : Side) (s : ℕ) (past : List Happening) → IsCall side s (Ended s) past
is_ended side s past = record {
  failed = refl;
  started = refl;
  block = refl;
  greatest_as = refl;
  next = refl;
  opened_by = λ q. refl;
  run = refl;
  opened_as = refl;
  of = record { closed = λ q e. refl; peer = λ q e. refl; ended = λ q e. ap (λ (b : Bool). b || was_ended q past) (apart_too q s e); head = λ q e. refl };
}

is_closed : (side : Side) (s : ℕ) (past : List Happening) → IsCall side s (Closed s) past
is_closed side s past = record {
  failed = refl;
  started = refl;
  block = refl;
  greatest_as = refl;
  next = refl;
  opened_by = λ q. refl;
  run = refl;
  opened_as = refl;
  of = record { closed = λ q e. ap (λ (b : Bool). b || was_closed q past) (apart_too q s e); peer = λ q e. refl; ended = λ q e. refl; head = λ q e. refl };
}

is_interim : (side : Side) (s : ℕ) (past : List Happening) → IsCall side s (Interim s) past
is_interim side s past = record {
  failed = refl;
  started = refl;
  block = refl;
  greatest_as = refl;
  next = refl;
  opened_by = λ q. refl;
  run = refl;
  opened_as = refl;
  of = record { closed = λ q e. refl; peer = λ q e. refl; ended = λ q e. refl; head = λ q e. ap (λ (b : Bool). not b && head_stands q past) (apart_too q s e) };
}

pub ended_stands : (past : List Happening) (v w : Summary) (s : ℕ) → StandsFor past v → SameRest v w
    → Puts s (after_end (stream_at s v.streams)) v.streams w.streams → (IsNone (stream_at s v.streams) → w.streams ≡ v.streams)
    → StandsFor (noted v.side s (Ended s) past) w
ended_stands past v w s h r put other =
    call_stands (Ended s) past v w s (after_end (stream_at s v.streams)) h r (is_ended v.side s past) put
    (ap after_end (h.streams s) ∙ after_end_is (is_among s (opened v.side past)) (was_closed s past) (peer_ended s past) (was_ended s past) (head_stands s past)
    ∙ ap (λ (b : Bool). state_with (is_among s (opened v.side past)) (was_closed s past) (peer_ended s past) (b || was_ended s past) (head_stands s past)) (sym (same_number s)))
    other

pub closed_stands : (past : List Happening) (v w : Summary) (s : ℕ) → StandsFor past v → SameRest v w
    → Puts s None v.streams w.streams → (IsNone (stream_at s v.streams) → w.streams ≡ v.streams)
    → StandsFor (noted v.side s (Closed s) past) w
closed_stands past v w s h r put other =
    call_stands (Closed s) past v w s None h r (is_closed v.side s past) put
    (closed_is (is_among s (opened v.side past)) (peer_ended s past) (was_ended s past) (head_stands s past)
    ∙ ap (λ (b : Bool). state_with (is_among s (opened v.side past)) (b || was_closed s past) (peer_ended s past) (was_ended s past) (head_stands s past)) (sym (same_number s)))
    other

pub interim_stands : (past : List Happening) (v w : Summary) (s : ℕ) → StandsFor past v → SameRest v w
    → Puts s (after_interim (stream_at s v.streams)) v.streams w.streams → (IsNone (stream_at s v.streams) → w.streams ≡ v.streams)
    → StandsFor (noted v.side s (Interim s) past) w
interim_stands past v w s h r put other =
    call_stands (Interim s) past v w s (after_interim (stream_at s v.streams)) h r (is_interim v.side s past) put
    (ap after_interim (h.streams s) ∙ after_interim_is (is_among s (opened v.side past)) (was_closed s past) (peer_ended s past) (was_ended s past) (head_stands s past)
    ∙ ap (λ (b : Bool). state_with (is_among s (opened v.side past)) (was_closed s past) (peer_ended s past) (was_ended s past) (not b && head_stands s past)) (sym (same_number s)))
    other

-- what a stream was put to stands there
pub put_there : (s : ℕ) (target : Option Stream) (old new : List (ℕ × Stream)) → Puts s target old new → stream_at s new ≡ target
put_there s target old new put = put.at s ∙ ap (λ (b : Bool). cond b target (stream_at s old)) (same_number s)

pub ended_from : (u v w : Summary) (s : ℕ) → u ≡ v → SameRest u w → Puts s (after_end (stream_at s u.streams)) u.streams w.streams → (IsNone (stream_at s u.streams) → w.streams ≡ u.streams)
    → (past : List Happening) → StandsFor past v → StandsFor (noted v.side s (Ended s) past) w
ended_from u v w s e r put other past h =
    subst (λ (x : Summary). StandsFor (noted x.side s (Ended s) past) w) e (ended_stands past u w s (subst (StandsFor past) (sym e) h) r put other)

pub closed_from : (u v w : Summary) (s : ℕ) → u ≡ v → SameRest u w → Puts s None u.streams w.streams → (IsNone (stream_at s u.streams) → w.streams ≡ u.streams)
    → (past : List Happening) → StandsFor past v → StandsFor (noted v.side s (Closed s) past) w
closed_from u v w s e r put other past h =
    subst (λ (x : Summary). StandsFor (noted x.side s (Closed s) past) w) e (closed_stands past u w s (subst (StandsFor past) (sym e) h) r put other)

pub interim_from : (u v w : Summary) (s : ℕ) → u ≡ v → SameRest u w → Puts s (after_interim (stream_at s u.streams)) u.streams w.streams → (IsNone (stream_at s u.streams) → w.streams ≡ u.streams)
    → (past : List Happening) → StandsFor past v → StandsFor (noted v.side s (Interim s) past) w
interim_from u v w s e r put other past h =
    subst (λ (x : Summary). StandsFor (noted x.side s (Interim s) past) w) e (interim_stands past u w s (subst (StandsFor past) (sym e) h) r put other)
