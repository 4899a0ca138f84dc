-- What the steps of a core change, and what they keep.
use Rattle.h2_frames.specs.Head.{data_head}
use Rattle.flow_rules.specs.declared.ids.BufferId.{BufferId}
use Rattle.flow_rules.specs.declared.ids.FlowId.{FlowId}
use Rattle.flow_notes.specs.declared.notes.Note.{Note}
use Rattle.plain_laws.proofs.Counting.{one_if}
use Rattle.plain_laws.proofs.Flags.{send_same, write_same}
use Rattle.plain_laws.proofs.Frames.{frame_leaves}
use Rattle.plain_laws.proofs.Keepings.{keeps_stream, keeps_write, lists_more, pauses_keep, pauses_keep_lists, pauses_keep_write, resume_keeps, stream_more, write_more}
use Rattle.plain_laws.proofs.Moves.{move_leaves}
use Rattle.plain_laws.proofs.Onto.{pauses_leave, pauses_place, pauses_send_above}
use Rattle.plain_laws.proofs.Ontos.{onto_append, pauses_written}
use Rattle.plain_laws.proofs.Own.{end_frame, recv_frame, recv_move, send_frame, send_move}
use Rattle.plain_laws.proofs.Steps.{many_pauses, one_pause}
use Rattle.plain_laws.proofs.Streams.{number_is}
use Rattle.plain_laws.proofs.Tellings.{owed_if, owed_none, owed_one}
use Rattle.plain_laws.specs.Keeping.{KeepsLists, KeepsStream, KeepsWrite}
use Rattle.plain_laws.specs.Owing.{due_if, owed_times, pause_notes}
use Rattle.plain_laws.specs.Regular.{IsRising}
use Rattle.plain_laws.specs.Settled.{Settled}
use Rattle.plain_laws.specs.StepNotes.{drain_notes, rise_notes}
use Rattle.std.proofs.Common.{ap, arith, refl, subst, sym, ◌∙◌}
use Rattle.std.proofs.lemmas.List.{append-nil}
use Rattle.std.specs.Prelude.{Bool, List, [], drop, false, if◌then◌else◌, length, take, true, ℕ, ◌&&◌, ◌++◌, ◌+◌, ◌==◌, ◌||◌, ◌∷◌, ◌≡◌}
use Rattle.plain_laws.specs.Words.{Past, Alive, conn_high, conn_lows, conn_out, conn_rises, end_out, frame_of, last_out, move_of, past_frame, past_move, recv_at, send_at, send_drains, send_high, send_rises}
use Rattle.tape_laws.specs.Dispatches.{before_dispatch, events_back, live, started, turns}
use Rattle.tape_laws.specs.Doomed.{condemned}
use Rattle.tape_laws.specs.Flows.{request}
use Rattle.tape_laws.specs.History.{NoMark, Noted, Step, onto}
use Rattle.tape_laws.specs.Pauses.{Owed, pauses, resumes}
use Rattle.tape_laws.specs.Plain.{paired_with, plain_ended}
use Rattle.tape_laws.specs.PlainSession.{plain_must_end}
use Rattle.tape_laws.specs.declared.PlainLimits.{PlainLimits}
use Rattle.wm_buffer.specs.Watermark.{above_after}
use Rattle.flow_rules.specs.declared.ids.BufferId.TheVariants as buffer
use Rattle.flow_notes.specs.declared.notes.Note.TheVariants as note

-- ---- a move

-- the pauses of a move, whatever rose
abbrev move_due : PlainLimits → ℕ → ℕ → Past → List Owed
move_due limits x n h = due_if (send_rises limits x (move_of x n) h) (buffer.Send (request x)) (x ∷ [])

module _ (limits : PlainLimits) (x n : ℕ) (h : Past) where
  abbrev after : Past
  after = past_move limits x n h

  abbrev due : List Owed
  due = move_due limits x n h

  move_onto : after ≡ onto (pause_notes due) (move_of x n ∷ h)
  move_onto = ap (λ (ns : List Note). onto ns (move_of x n ∷ h)) (one_pause (buffer.Send (request x)) x _ _ refl)

  -- what is known of the history with the move and the pauses is known of that with the notes
  moved : (P : Past → Type 0) → P (onto (pause_notes due) (move_of x n ∷ h)) → P after
  moved P p = subst P (sym move_onto) p

  pub move_recv : recv_at limits x after ≡ drop n (recv_at limits x h)
  move_recv = moved (λ v. recv_at limits x v ≡ drop n (recv_at limits x h)) (pauses_place limits (request x) 0 due (move_of x n ∷ h) ∙ recv_move limits x n h)

  pub move_send : send_at limits x after ≡ send_at limits x h ++ take n (recv_at limits x h)
  move_send = moved (λ v. send_at limits x v ≡ send_at limits x h ++ take n (recv_at limits x h)) (pauses_place limits (request x) 1 due (move_of x n ∷ h) ∙ send_move limits x n h)

  pub move_high : send_high limits x after ≡ above_after limits.send (send_high limits x h) (length (send_at limits x h ++ take n (recv_at limits x h)))
  move_high =
      moved (λ v. send_high limits x v ≡ above_after limits.send (send_high limits x h) (length (send_at limits x h ++ take n (recv_at limits x h))))
      (cc (pauses_send_above limits (request x) due (move_of x n ∷ h), send_move limits x n h))

  pub move_keeps : (y : ℕ) → (x == y) ≡ false → KeepsStream limits y h after
  move_keeps y d =
      moved (KeepsStream limits y h)
      (stream_more limits y h (move_of x n ∷ h) _ (keeps_stream limits y (move_of x n) h (move_leaves limits x y n h d) refl refl) (pauses_keep limits y due (move_of x n ∷ h)))

  pub move_keeps_write : KeepsWrite limits h after
  move_keeps_write =
      moved (KeepsWrite limits h)
      (write_more limits h (move_of x n ∷ h) _ (keeps_write limits (move_of x n) h refl (append-nil _)) (pauses_keep_write limits due (move_of x n ∷ h)))

  pub move_keeps_lists : KeepsLists h after
  move_keeps_lists =
      moved (KeepsLists h)
      (lists_more h (move_of x n ∷ h) _ (record { lives = refl; begun = refl; doomed = refl; numbers = refl; events = refl }) (pauses_keep_lists due (move_of x n ∷ h)))

  -- what a move leaves as any pause does: what a note that isn't a pause may tell of no pause
  move_same : {A : Type 0} (F : Past → A) → ((f : FlowId) (b : BufferId) (h : Past) → F (Noted (note.Pause f b) ∷ h) ≡ F h) → F (move_of x n ∷ h) ≡ F h → F after ≡ F h
  move_same F same e = ap F move_onto ∙ pauses_leave F same due (move_of x n ∷ h) ∙ e

  pub move_ended : (y : ℕ) → plain_ended y after ≡ plain_ended y h
  move_ended y = move_same (plain_ended y) (λ f b v. refl) refl

  pub move_end_framed : (y : ℕ) → end_out limits y after ≡ end_out limits y h
  move_end_framed y = move_same (end_out limits y) (λ f b v. refl) refl

  pub move_must : (y : ℕ) → plain_must_end y after ≡ plain_must_end y h
  move_must y = move_same (plain_must_end y) (λ f b v. refl) refl

  pub move_paired : (y : ℕ) → paired_with y after ≡ paired_with y h
  move_paired y = move_same (paired_with y) (λ f b v. refl) refl

  pub move_before : before_dispatch after ≡ before_dispatch h
  move_before = move_same before_dispatch (λ f b v. refl) refl

  pub move_framed_last : last_out limits after ≡ last_out limits h
  move_framed_last = move_same (last_out limits) (λ f b v. refl) refl

  pub move_resumed : (y : ℕ) → resumes (request y) after ≡ resumes (request y) h
  move_resumed y = move_same (resumes (request y)) (λ f b v. refl) refl

  pub move_paused : (y : ℕ) → pauses (request y) after ≡ one_if ((x == y) && send_rises limits x (move_of x n) h) + pauses (request y) h
  move_paused y =
      let rises = send_rises limits x (move_of x n) h in
      moved (λ v. pauses (request y) v ≡ one_if ((x == y) && rises) + pauses (request y) h)
      (cc (pauses_written y due (move_of x n ∷ h), times rises (x == y) refl))
    where
      times : (r b : Bool) → (x == y) ≡ b → owed_times y (due_if r (buffer.Send (request x)) (x ∷ [])) ≡ one_if (b && r)
      times r true e = rw (← number_is x y e) (owed_one r (buffer.Send (request x)) x)
      times r false e = owed_none r (buffer.Send (request x)) x y e

-- ---- a frame

abbrev frame_due : PlainLimits → ℕ → ℕ → Bool → Past → List Owed
frame_due limits x n last h = due_if (conn_rises limits (frame_of x n last) h) (buffer.Write 0) (live h)

module _ (limits : PlainLimits) (x n : ℕ) (last : Bool) (h : Past) where
  abbrev behind : Past
  behind = past_frame limits x n last h

  abbrev step : Step NoMark
  step = frame_of x n last

  -- with its pauses, before the resume of its own low
  abbrev paused : Past
  paused = onto (pause_notes (frame_due limits x n last h)) (step ∷ h)

  frame_onto : behind ≡ onto (drain_notes limits x n last h) paused
  frame_onto =
      onto_append (rise_notes limits x n last h) (drain_notes limits x n last h) (step ∷ h)
      ∙ ap (λ (ns : List Note). onto (drain_notes limits x n last h) (onto ns (step ∷ h))) (many_pauses (buffer.Write 0) (live h) _ _ refl)

  framed : (P : Past → Type 0) → P (onto (drain_notes limits x n last h) paused) → P behind
  framed P p = subst P (sym frame_onto) p

  -- what pauses and resumes leave, a frame's notes leave as the frame did
  frame_same : {A : Type 0} (F : Past → A) → ((f : FlowId) (b : BufferId) (h : Past) → F (Noted (note.Pause f b) ∷ h) ≡ F h)
      → ((f g : FlowId) (h : Past) → F (Noted (note.Resume f (buffer.Send g)) ∷ h) ≡ F h) → F behind ≡ F (step ∷ h)
  frame_same F same again =
      ap F frame_onto ∙ drained (send_drains limits x step h) paused ∙ pauses_leave F same (frame_due limits x n last h) (step ∷ h)
    where
      drained : (b : Bool) (g : Past) → F (onto (if b then note.Resume (request x) (buffer.Send (request x)) ∷ [] else []) g) ≡ F g
      drained true g = again (request x) (request x) g
      drained false g = refl

  pub frame_recv : recv_at limits x behind ≡ recv_at limits x h
  frame_recv = frame_same (recv_at limits x) (λ f b v. refl) (λ f g v. refl) ∙ recv_frame limits x n last h

  pub frame_send : send_at limits x behind ≡ drop n (send_at limits x h)
  frame_send = frame_same (send_at limits x) (λ f b v. refl) (λ f g v. refl) ∙ send_frame limits x n last h

  pub frame_high : send_high limits x behind ≡ above_after limits.send (send_high limits x h) (length (drop n (send_at limits x h)))
  frame_high =
      frame_same (send_high limits x) (λ f b v. send_same limits (request x) (Noted (note.Pause f b)) v refl) (λ f g v. send_same limits (request x) (Noted (note.Resume f (buffer.Send g))) v refl)
      ∙ ap (λ (o : List ℕ). above_after limits.send (send_high limits x h) (length o)) (send_frame limits x n last h)

  pub frame_out : conn_out limits behind ≡ conn_out limits h ++ (data_head x n last ++ take n (send_at limits x h))
  frame_out = frame_same (conn_out limits) (λ f b v. refl) (λ f g v. refl)

  pub frame_write_high : conn_high limits behind ≡ above_after limits.write (conn_high limits h) (length (conn_out limits h ++ (data_head x n last ++ take n (send_at limits x h))))
  frame_write_high =
      frame_same (conn_high limits) (λ f b v. write_same limits (Noted (note.Pause f b)) v refl) (λ f g v. write_same limits (Noted (note.Resume f (buffer.Send g))) v refl)

  pub frame_write_lows : conn_lows limits behind ≡ conn_lows limits h
  frame_write_lows = frame_same (conn_lows limits) (λ f b v. refl) (λ f g v. refl) ∙ append-nil (conn_lows limits h)

  pub frame_keeps : (y : ℕ) → (x == y) ≡ false → KeepsStream limits y h behind
  frame_keeps y d =
      framed (KeepsStream limits y h)
      (stream_more limits y h paused _
      (stream_more limits y h (step ∷ h) paused (keeps_stream limits y step h (frame_leaves limits x y n last h d) refl refl) (pauses_keep limits y (frame_due limits x n last h) (step ∷ h)))
      (drained (send_drains limits x step h) paused))
    where
      drained : (b : Bool) (g : Past) → KeepsStream limits y g (onto (if b then note.Resume (request x) (buffer.Send (request x)) ∷ [] else []) g)
      drained true g = resume_keeps limits y (request x) (buffer.Send (request x)) g
      drained false g = record { recv = refl; send = refl; high = refl; ended = refl; framed = refl; pairs = refl; recv_most = refl; send_most = refl }

  pub frame_keeps_lists : KeepsLists h behind
  frame_keeps_lists = record {
    lives = frame_same live (λ f b v. refl) (λ f g v. refl);
    begun = frame_same started (λ f b v. refl) (λ f g v. refl);
    doomed = frame_same condemned (λ f b v. refl) (λ f g v. refl);
    numbers = frame_same turns (λ f b v. refl) (λ f g v. refl);
    events = frame_same events_back (λ f b v. refl) (λ f g v. refl);
  }

  pub frame_framed_last : last_out limits behind ≡ x
  frame_framed_last = frame_same (last_out limits) (λ f b v. refl) (λ f g v. refl)

  pub frame_ended : (y : ℕ) → plain_ended y behind ≡ plain_ended y h
  frame_ended y = frame_same (plain_ended y) (λ f b v. refl) (λ f g v. refl)

  pub frame_paired : (y : ℕ) → paired_with y behind ≡ paired_with y h
  frame_paired y = frame_same (paired_with y) (λ f b v. refl) (λ f g v. refl)

  pub frame_end_framed : end_out limits x behind ≡ (last || end_out limits x h)
  frame_end_framed = frame_same (end_out limits x) (λ f b v. refl) (λ f g v. refl) ∙ end_frame limits x n last h

  pub frame_before : before_dispatch behind ≡ before_dispatch h
  frame_before = frame_same before_dispatch (λ f b v. refl) (λ f g v. refl)

  pub frame_must : (y : ℕ) → plain_must_end y behind ≡ plain_must_end y (step ∷ h)
  frame_must y = frame_same (plain_must_end y) (λ f b v. refl) (λ f g v. refl)

  -- each live stream is paused where the write buffer rises
  pub frame_paused : (y : ℕ) → IsRising (live h) → Alive h y → pauses (request y) behind ≡ one_if (conn_rises limits step h) + pauses (request y) h
  frame_paused y r is =
      framed (λ v. pauses (request y) v ≡ one_if (conn_rises limits step h) + pauses (request y) h)
      (drained (send_drains limits x step h) _ ∙ pauses_written y (frame_due limits x n last h) (step ∷ h)
      ∙ ap (λ k. k + pauses (request y) h) (owed_if (conn_rises limits step h) (buffer.Write 0) (live h) y r is))
    where
      drained : (b : Bool) (g : Past) → pauses (request y) (onto (if b then note.Resume (request x) (buffer.Send (request x)) ∷ [] else []) g) ≡ pauses (request y) g
      drained true g = refl
      drained false g = refl

  -- and the stream itself is resumed where its send buffer drains
  pub frame_resumed : (y : ℕ) → resumes (request y) behind ≡ one_if ((x == y) && send_drains limits x step h) + resumes (request y) h
  frame_resumed y =
      let drains = send_drains limits x step h in
      framed (λ v. resumes (request y) v ≡ one_if ((x == y) && drains) + resumes (request y) h)
      (drained drains _ ∙ ap (λ k. one_if ((x == y) && drains) + k) (pauses_leave (resumes (request y)) (λ f b v. refl) (frame_due limits x n last h) (step ∷ h)))
    where
      neither : (b : Bool) (n : ℕ) → n ≡ one_if (b && false) + n
      neither true n = omega arith
      neither false n = omega arith

      drained : (b : Bool) (g : Past)
          → resumes (request y) (onto (if b then note.Resume (request x) (buffer.Send (request x)) ∷ [] else []) g) ≡ one_if ((x == y) && b) + resumes (request y) g
      drained true g = refl
      drained false g = neither (x == y) (resumes (request y) g)

  -- where the frame is the last, the end of the stream was framed, in this dispatch
  pub frame_here : Settled limits h → Alive h x → end_out limits x (before_dispatch behind) ≡ false
  frame_here s is = ap (end_out limits x) frame_before ∙ (s.regular.books.each x is).unframed
