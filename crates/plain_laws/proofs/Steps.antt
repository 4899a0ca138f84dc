-- The steps of a core, each from a settled history to one.
use Rattle.plain_laws.proofs.Balances.{count_is}
use Rattle.flow_rules.specs.declared.ids.BufferId.{BufferId}
use Rattle.flow_rules.specs.declared.ids.FlowId.{FlowId}
use Rattle.flow_rules.specs.declared.causes.Cause.{Cause}
use Rattle.flow_notes.specs.declared.notes.Note.{Note}
use Rattle.plain_laws.proofs.Counting.{disabled_is, lows_are, send_flag, write_flag, write_left}
use Rattle.plain_laws.proofs.Dooms.{doom_done, doom_early}
use Rattle.plain_laws.proofs.Extending.{}
use Rattle.plain_laws.proofs.Frames.{frame_leaves, frame_regular, lows_after}
use Rattle.plain_laws.proofs.Gones.{gone_regular}
use Rattle.plain_laws.proofs.Moves.{move_regular, readable_low, untold}
use Rattle.plain_laws.proofs.Onto.{pauses_live, pauses_lows}
use Rattle.plain_laws.proofs.Ontos.{onto_append}
use Rattle.plain_laws.proofs.Pausing.{pauses_regular}
use Rattle.plain_laws.proofs.Quiets.{done_rests, told_none}
use Rattle.plain_laws.proofs.Resuming.{other_lows, own_lows, resume_send_regular, resume_write_regular}
use Rattle.plain_laws.proofs.Rises.{low_rises}
use Rattle.plain_laws.proofs.Streams.{by_case, own_or_other, same_number}
use Rattle.plain_laws.proofs.Unswept.{pauses_unswept}
use Rattle.plain_laws.specs.Owing.{due_if, nothing, owed, pause_notes, pauses_for}
use Rattle.plain_laws.specs.Regular.{Regular, Rests}
use Rattle.plain_laws.specs.Settled.{Settled}
use Rattle.plain_laws.specs.StepNotes.{drain_notes, move_notes, rise_notes}
use Rattle.std.proofs.Common.{ap, arith, refl, subst, ◌∙◌}
use Rattle.std.proofs.lemmas.List.{append-nil}
use Rattle.std.specs.Prelude.{Bool, List, [], false, if◌then◌else◌, length, map, min, true, ℕ, ◌&&◌, ◌+◌, ◌<◌, ◌==◌, ◌∷◌, ◌≡◌}
use Rattle.plain_laws.specs.Words.{Past, Alive, conn_high, conn_lows, end_out, frame_of, lows_of, move_of, next_out, past_frame, past_move, recv_at, send_drains, send_high}
use Rattle.tape_laws.specs.Dispatches.{before_dispatch, has, live}
use Rattle.tape_laws.specs.Doomed.{condemned, is_swept}
use Rattle.flow_rules.specs.declared.unit.Unit.TheVariants.{Body as BodyUnit}
use Rattle.tape_laws.specs.Flows.{request}
use Rattle.tape_laws.specs.History.{NoMark, Noted, Step, onto}
use Rattle.tape_laws.specs.Order.{Flows, Nothing}
use Rattle.tape_laws.specs.Pauses.{Owed, count}
use Rattle.tape_laws.specs.Plain.{paired_with}
use Rattle.tape_laws.specs.PlainSession.{plain_must_end}
use Rattle.tape_laws.specs.World.{gone}
use Rattle.tape_laws.specs.declared.PlainLimits.{PlainLimits}
use Rattle.flow_rules.specs.declared.ids.BufferId.TheVariants as buffer
use Rattle.flow_rules.specs.declared.causes.Cause.TheVariants as cause
use Rattle.flow_notes.specs.declared.notes.Note.TheVariants as note

-- a history of whole dispatches is settled
pub rests_settled : (limits : PlainLimits) (h : Past) → Rests limits h → Settled limits h
rests_settled limits h r = record {
  regular = r.regular;
  untold = λ x. by_case (has (live h) x) (λ t. untold limits nothing x h (r.regular.books.each x t) (told_none limits x h r.quiet t).0) (r.regular.books.hushed x);
}

pub one_pause : (b : BufferId) (x : ℕ) (rises high : Bool) → rises ≡ high → (if rises then note.Pause (request x) b ∷ [] else []) ≡ pause_notes (due_if high b (x ∷ []))
one_pause b x true true e = refl
one_pause b x true false e = cc
one_pause b x false true e = cc
one_pause b x false false e = refl

all_pauses : (b : BufferId) (xs : List ℕ) → map (λ y. note.Pause (request y) b) xs ≡ pause_notes (pauses_for b xs)
all_pauses b [] = refl
all_pauses b (x ∷ xs) = cc (all_pauses b xs)

pub many_pauses : (b : BufferId) (xs : List ℕ) (rises high : Bool) → rises ≡ high → (if rises then map (λ y. note.Pause (request y) b) xs else []) ≡ pause_notes (due_if high b xs)
many_pauses b xs true true e = all_pauses b xs
many_pauses b xs true false e = cc
many_pauses b xs false true e = cc
many_pauses b xs false false e = refl

-- the pauses that are due leave nothing to be told of the send buffers
module _ (limits : PlainLimits) where
  pub pauses_settled : (due : List Owed) (h : Past) → Regular limits (owed due) h → is_swept h ≡ false
      → ((x : ℕ) → lows_of limits x h ≡ []) → Settled limits (onto (pause_notes due) h)
  pauses_settled due h r fresh none = record {
    regular = pauses_regular limits due h r fresh;
    untold = λ x. pauses_lows limits (buffer.Send (request x)) due h ∙ none x;
  }

  -- the pauses of a move are those that are due
  pub move_pauses : (x n : ℕ) (h : Past) → send_high limits x h ≡ false
      → move_notes limits x n h
      ≡ note.Move (request x) 0 n ∷ pause_notes (due_if (send_high limits x (move_of x n ∷ h)) (buffer.Send (request x)) (x ∷ []))
  move_pauses x n h low =
      ap (λ (ns : List Note). note.Move (request x) 0 n ∷ ns) (one_pause (buffer.Send (request x)) x _ _ (low_rises _ (send_high limits x (move_of x n ∷ h)) low))

  pub move_step : (x n : ℕ) (h : Past) → Settled limits h → is_swept h ≡ false → Alive h x → count (request x) h ≡ 0
      → 0 < n → n ≡ min limits.quantum (length (recv_at limits x h)) → Settled limits (past_move limits x n h)
  move_step x n h s fresh is readable some all =
      let step : Step NoMark = move_of x n in
      let low = (readable_low limits x h s.regular is readable).0 in
      rw (move_pauses x n h low) (pauses_settled _ (step ∷ h) (move_regular limits x n h s.regular fresh is readable some all) refl
      (λ y. append-nil (lows_of limits y h) ∙ s.untold y))

  pub rise_pauses : (x n : ℕ) (last : Bool) (h : Past) → conn_high limits h ≡ false
      → rise_notes limits x n last h ≡ pause_notes (due_if (conn_high limits (frame_of x n last ∷ h)) (buffer.Write 0) (live h))
  rise_pauses x n last h low =
      many_pauses (buffer.Write 0) (live h) _ _ (low_rises _ (conn_high limits (frame_of x n last ∷ h)) low)

  -- the low of the send buffer that the frame left
  frame_pending : (x y n : ℕ) (last : Bool) (h : Past) → Settled limits h → Alive h x
      → lows_of limits y (frame_of x n last ∷ h)
      ≡ (if (x == y) && send_drains limits x (frame_of x n last) h then request x ∷ [] else [])
  frame_pending x y n last h s is =
      let drains = send_drains limits x (frame_of x n last) h in
      own_or_other (λ z. lows_of limits z (frame_of x n last ∷ h) ≡ (if (x == z) && drains then request x ∷ [] else [])) x y
      (cc (lows_after limits x n last h s.regular.books.rising is, s.untold x, same_number x))
      (λ d. cc ((frame_leaves limits x y n last h d).send_lows, s.untold y))

  drain_settled : (x : ℕ) (drains : Bool) (h : Past) → Regular limits nothing h → is_swept h ≡ false → Alive h x
      → ((y : ℕ) → lows_of limits y h ≡ (if (x == y) && drains then request x ∷ [] else []))
      → Settled limits (onto (if drains then note.Resume (request x) (buffer.Send (request x)) ∷ [] else []) h)
  drain_settled x true h r fresh is pend =
      let own : lows_of limits x h ≡ request x ∷ [] = cc (pend x, same_number x) in
      record {
        regular = resume_send_regular limits x h r fresh is own;
        untold = λ y. own_or_other (λ z. lows_of limits z (Noted (note.Resume (request x) (buffer.Send (request x))) ∷ h) ≡ []) x y
            (own_lows limits x h own) (λ d. cc (other_lows limits x y h d, pend y));
      }
  drain_settled x false h r fresh is pend = record { regular = r; untold = λ y. pend y ∙ none (x == y) }
    where
      none : (b : Bool) → (if b && false then request x ∷ [] else []) ≡ []
      none true = refl
      none false = refl

  pub frame_step : (x n : ℕ) (last : Bool) (h : Past) → Settled limits h → is_swept h ≡ false → Alive h x
      → conn_high limits h ≡ false → next_out limits h ≡ Flows (request x) (BodyUnit n last)
      → Settled limits (past_frame limits x n last h)
  frame_step x n last h s fresh is low next =
      let step : Step NoMark = frame_of x n last in
      let due = due_if (conn_high limits (step ∷ h)) (buffer.Write 0) (live h) in
      let h' = onto (pause_notes due) (step ∷ h) in
      let r = pauses_regular limits due (step ∷ h) (frame_regular limits x n last h s.regular fresh is low next) refl in
      let lives : Alive h' x = cc (pauses_live due (step ∷ h)) in
      subst (Settled limits) (cc (onto_append (rise_notes limits x n last h) (drain_notes limits x n last h) (step ∷ h), rise_pauses x n last h low))
      (drain_settled x (send_drains limits x step h) h' r (pauses_unswept due (step ∷ h) refl) lives (λ y. pauses_lows limits (buffer.Send (request y)) due (step ∷ h) ∙ frame_pending x y n last h s is))

  -- the next stream that waits for the write buffer's low is told
  pub tell_step : (x : ℕ) (rest : List FlowId) (h : Past) → Settled limits h → is_swept h ≡ false
      → conn_lows limits h ≡ request x ∷ rest
      → Settled limits (Noted (note.Resume (request x) (buffer.Write 0)) ∷ h)
  tell_step x rest h s fresh e = record { regular = resume_write_regular limits x rest h s.regular fresh e; untold = s.untold }

  doom_untold : (x y : ℕ) (why : Cause) (h : Past) → Settled limits h
      → lows_of limits y (Noted (note.Doom x why) ∷ h) ≡ []
  doom_untold x y why h s = cc (s.untold y)

  pub done_step : (x : ℕ) (h : Past) → Settled limits h → is_swept h ≡ false → Alive h x → end_out limits x h ≡ true
      → Settled limits (Noted (note.Doom x cause.Done) ∷ h)
  done_step x h s fresh is e = record { regular = doom_done limits x h s.regular fresh is e; untold = λ y. doom_untold x y cause.Done h s }

  pub early_pair_step : (s x : ℕ) (h : Past) → Settled limits h → is_swept h ≡ false → Alive h x → has (paired_with x h) s ≡ true
      → end_out limits s h ≡ true → end_out limits s (before_dispatch h) ≡ false
      → Settled limits (Noted (note.Doom x cause.EarlyEnd) ∷ h)
  early_pair_step s x h t fresh is pair e before = record { regular = doom_early limits s x h t.regular fresh is pair e before; untold = λ y. doom_untold x y cause.EarlyEnd h t }

  -- between steps the count of a live stream is that of its two flags, and of its low of the write buffer
  pub settled_count : (x : ℕ) (h : Past) → Settled limits h → Alive h x
      → count (request x) h ≡ (send_flag limits x h + write_flag limits h) + write_left limits x h
  settled_count x h s is =
      sums _ _ _ _ _ _ _ (count_is limits x h s.regular.lawful s.regular.books.due is) (disabled_is limits x h) (lows_are limits x h) (cc (s.untold x))
    where
      sums : (c d l a w s m : ℕ) → c ≡ d + l → d ≡ a + w → l ≡ s + m → s ≡ 0 → c ≡ (a + w) + m
      sums c d l a w s m e1 e2 e3 e4 = omega arith

  pub gone_step : (x : ℕ) (rest : List ℕ) (h : Past) → Settled limits h → condemned h ≡ x ∷ rest → Settled limits (Noted (note.Gone x) ∷ h)
  gone_step x rest h s e = record {
    regular = gone_regular limits x rest h s.regular e;
    untold = s.untold;
  }

  pub settled_done : (h : Past) → Settled limits h → conn_lows limits h ≡ []
      → ((x : ℕ) → Alive h x → count (request x) h ≡ 0 → recv_at limits x h ≡ [])
      → (conn_high limits h ≡ false → next_out limits h ≡ Nothing)
      → ((x : ℕ) → Alive h x → plain_must_end x h ≡ false) → condemned h ≡ [] → Rests limits h
  settled_done h s told moved framed ended gone =
      done_rests limits h s.regular (record { write_told = told; send_told = λ x e. s.untold x; moved = moved; framed = framed; ended = ended; gone = gone })
