-- What the effect of each event changes, and what it keeps.
use Rattle.flow_rules.specs.declared.ids.BufferId.{BufferId}
use Rattle.flow_rules.specs.declared.ids.FlowId.{FlowId}
use Rattle.flow_notes.specs.declared.events.PlainEvent.{PlainEvent}
use Rattle.flow_rules.specs.declared.causes.Cause.{Cause}
use Rattle.plain_laws.proofs.Counting.{one_if}
use Rattle.plain_laws.proofs.Dooms.{doom_leaves}
use Rattle.plain_laws.proofs.Flags.{send_same}
use Rattle.plain_laws.proofs.Keepings.{arrive_keeps, arrive_keeps_write, keeps_stream, out_keeps, pauses_keep, pauses_keep_write, start_keeps, start_keeps_write, stream_more, turn_keeps, turn_keeps_write, write_more}
use Rattle.plain_laws.proofs.Onto.{pauses_leave}
use Rattle.plain_laws.proofs.Ontos.{pauses_written}
use Rattle.plain_laws.proofs.Outs.{out_lows}
use Rattle.plain_laws.proofs.Own.{recv_arrive, send_arrive}
use Rattle.plain_laws.proofs.Quiets.{rests_told}
use Rattle.plain_laws.proofs.Steps.{one_pause}
use Rattle.plain_laws.proofs.Streams.{number_is}
use Rattle.plain_laws.proofs.Tellings.{owed_none, owed_one}
use Rattle.plain_laws.specs.Keeping.{KeepsStream, KeepsWrite}
use Rattle.plain_laws.specs.Owing.{due_if, owed_times, pause_notes}
use Rattle.plain_laws.specs.Pairs.{seconds}
use Rattle.plain_laws.specs.Regular.{Rests}
use Rattle.plain_laws.specs.Settled.{Settled}
use Rattle.plain_laws.specs.StepNotes.{cut_notes, over_notes, room_notes}
use Rattle.std.proofs.Common.{ap, refl, ◌∙◌}
use Rattle.std.specs.Prelude.{Bool, List, [], drop, false, if◌then◌else◌, length, map, not, true, ℕ, ◌&&◌, ◌++◌, ◌+◌, ◌==◌, ◌∷◌, ◌≡◌}
use Rattle.plain_laws.specs.Words.{Past, conn_high, conn_lows, conn_out, last_out, lows_of, past_begin, past_body, recv_at, send_at, send_high, turn_of}
use Rattle.tape_laws.specs.Dispatches.{live, started, turns}
use Rattle.tape_laws.specs.Doomed.{condemned}
use Rattle.tape_laws.specs.Flows.{request}
use Rattle.tape_laws.specs.History.{NoMark, Noted, Step, onto}
use Rattle.tape_laws.specs.Pauses.{Owed, pauses, resumes}
use Rattle.tape_laws.specs.Plain.{paired_with, plain_ended}
use Rattle.tape_laws.specs.PlainSession.{plain_must_end}
use Rattle.tape_laws.specs.declared.PlainLimits.{PlainLimits}
use Rattle.wm_buffer.specs.Watermark.{above_after}
use Rattle.flow_rules.specs.declared.ids.BufferId.TheVariants as buffer
use Rattle.flow_notes.specs.declared.events.PlainEvent.TheVariants as plain
use Rattle.flow_rules.specs.declared.causes.Cause.TheVariants as cause
use Rattle.flow_notes.specs.declared.notes.Note.TheVariants as note

-- ---- a stream begins

abbrev begin_due : PlainLimits → ℕ → Past → List Owed
begin_due limits x h = due_if (conn_high limits h) (buffer.Write 0) (x ∷ [])

module _ (limits : PlainLimits) (k x : ℕ) (h : Past) where
  abbrev after : Past
  after = past_begin limits k x h

  abbrev begun : Past
  begun = Noted (note.Start x 0 x 0) ∷ turn_of k (plain.Begin x) ∷ h

  abbrev due : List Owed
  due = begin_due limits x h

  begin_onto : after ≡ onto (pause_notes due) begun
  begin_onto = cc (one_pause (buffer.Write 0) x (conn_high limits h) (conn_high limits h) refl)

  -- what pauses leave, these notes leave as the turn and the start did
  pub begin_same : {A : Type 0} (F : Past → A) → ((f : FlowId) (b : BufferId) (h : Past) → F (Noted (note.Pause f b) ∷ h) ≡ F h) → F after ≡ F begun
  begin_same F same = ap F begin_onto ∙ pauses_leave F same due begun

  pub begin_keeps : (y : ℕ) → KeepsStream limits y h after
  begin_keeps y =
      rw begin_onto (stream_more limits y h begun _
      (stream_more limits y h (turn_of k (plain.Begin x) ∷ h) begun (turn_keeps limits y k (plain.Begin x) h refl refl) (start_keeps limits x y (turn_of k (plain.Begin x) ∷ h)))
      (pauses_keep limits y due begun))

  pub begin_keeps_write : KeepsWrite limits h after
  begin_keeps_write =
      rw begin_onto (write_more limits h begun _ (write_more limits h (turn_of k (plain.Begin x) ∷ h) begun (turn_keeps_write limits k (plain.Begin x) h) (start_keeps_write limits x (turn_of k (plain.Begin x) ∷ h)))
      (pauses_keep_write limits due begun))

  pub begin_live : live after ≡ live h ++ x ∷ []
  begin_live = begin_same live (λ f b v. refl)

  pub begin_started : started after ≡ started h ++ x ∷ []
  begin_started = begin_same started (λ f b v. refl)

  pub begin_condemned : condemned after ≡ condemned h
  begin_condemned = begin_same condemned (λ f b v. refl)

  pub begin_turns : turns after ≡ turns h + 1
  begin_turns = begin_same turns (λ f b v. refl)

  pub begin_framed_last : last_out limits after ≡ last_out limits h
  begin_framed_last = begin_same (last_out limits) (λ f b v. refl)

  pub begin_must : (y : ℕ) → plain_must_end y after ≡ plain_must_end y h
  begin_must y = begin_same (plain_must_end y) (λ f b v. refl)

  pub begin_paired : (y : ℕ) → paired_with y after ≡ paired_with y h
  begin_paired y = begin_same (paired_with y) (λ f b v. refl)

  pub begin_resumed : (y : ℕ) → resumes (request y) after ≡ resumes (request y) h
  begin_resumed y = begin_same (resumes (request y)) (λ f b v. refl)

  pub begin_paused : (y : ℕ) → pauses (request y) after ≡ one_if ((x == y) && conn_high limits h) + pauses (request y) h
  begin_paused y =
      ap (pauses (request y)) begin_onto ∙ pauses_written y due begun
      ∙ ap (λ n. n + pauses (request y) h) (times (conn_high limits h) (x == y) refl)
    where
      times : (r b : Bool) → (x == y) ≡ b → owed_times y (due_if r (buffer.Write 0) (x ∷ [])) ≡ one_if (b && r)
      times r true e = rw (← number_is x y e) (owed_one r (buffer.Write 0) x)
      times r false e = owed_none r (buffer.Write 0) x y e

-- ---- octets arrive

module _ (limits : PlainLimits) (k x : ℕ) (octets : List ℕ) (h : Past) where
  pub body_recv : recv_at limits x (past_body k x octets h) ≡ recv_at limits x h ++ octets
  body_recv = recv_arrive limits x octets (turn_of k (plain.Body x octets) ∷ h)

  pub body_send : send_at limits x (past_body k x octets h) ≡ send_at limits x h
  body_send = send_arrive limits x octets (turn_of k (plain.Body x octets) ∷ h)

  pub body_high : send_high limits x (past_body k x octets h) ≡ send_high limits x h
  body_high =
      let turn : Step NoMark = turn_of k (plain.Body x octets) in
      send_same limits (request x) (Noted (note.Arrive (request x) octets)) (turn ∷ h) (send_arrive limits x octets (turn ∷ h)) ∙ send_same limits (request x) turn h refl

module _ (limits : PlainLimits) (k x : ℕ) where
  pub body_keeps : (y : ℕ) (octets : List ℕ) (h : Past) → (x == y) ≡ false → KeepsStream limits y h (past_body k x octets h)
  body_keeps y octets h d =
      let turn : Step NoMark = turn_of k (plain.Body x octets) in
      stream_more limits y h (turn ∷ h) (past_body k x octets h) (turn_keeps limits y k (plain.Body x octets) h refl refl) (arrive_keeps limits x y octets (turn ∷ h) d)

  pub body_keeps_write : (octets : List ℕ) (h : Past) → KeepsWrite limits h (past_body k x octets h)
  body_keeps_write octets h =
      let turn : Step NoMark = turn_of k (plain.Body x octets) in
      write_more limits h (turn ∷ h) (past_body k x octets h) (turn_keeps_write limits k (plain.Body x octets) h) (arrive_keeps_write limits x octets (turn ∷ h))

  -- ---- a stream is doomed by its event

  doomed_keeps : (y : ℕ) (e : PlainEvent) (why : Cause) (h : Past) → Settled limits h → (x == y) ≡ false
      → plain_ended y (turn_of k e ∷ h) ≡ plain_ended y h → seconds y (turn_of k e ∷ h) ≡ seconds y h
      → KeepsStream limits y h (Noted (note.Doom x why) ∷ turn_of k e ∷ h)
  doomed_keeps y e why h s d ended pairs =
      let turn : Step NoMark = turn_of k e in
      let quiet : lows_of limits y (turn ∷ h) ≡ [] = s.untold y in
      stream_more limits y h (turn ∷ h) (Noted (note.Doom x why) ∷ turn ∷ h) (turn_keeps limits y k e h ended pairs)
      (keeps_stream limits y (Noted (note.Doom x why)) (turn ∷ h) (doom_leaves limits x y why (turn ∷ h) d (cc)) refl refl)

  pub over_keeps : (y : ℕ) (octets : List ℕ) (h : Past) → Settled limits h → (x == y) ≡ false → KeepsStream limits y h (onto (over_notes k x octets) h)
  over_keeps y octets h s d = doomed_keeps y (plain.Body x octets) (cause.StreamError 3) h s d refl refl

  pub cut_keeps : (y : ℕ) (h : Past) → Settled limits h → (x == y) ≡ false → KeepsStream limits y h (onto (cut_notes k x) h)
  cut_keeps y h s d = doomed_keeps y (plain.Cut x) (cause.PeerReset 8) h s d refl refl

-- ---- octets leave

module _ (limits : PlainLimits) (k n m : ℕ) (h : Past) where
  pub room_out : conn_out limits (onto (room_notes k n m) h) ≡ drop m (conn_out limits h)
  room_out = refl

  pub room_high : conn_high limits (onto (room_notes k n m) h)
      ≡ above_after limits.write (conn_high limits h) (length (drop m (conn_out limits h)))
  room_high =
      let turn : Step NoMark = turn_of k (plain.Room n) in
      ap (λ b. above_after limits.write b (length (conn_out limits (onto (room_notes k n m) h)))) (turn_keeps_write limits k (plain.Room n) h).high
      ∙ ap (λ (o : List ℕ). above_after limits.write (conn_high limits h) (length o)) (room_out)

  -- where the buffer drains all live flows are to be told
  pub room_lows : Rests limits h → conn_lows limits (onto (room_notes k n m) h)
      ≡ (if conn_high limits h && not (conn_high limits (onto (room_notes k n m) h)) then map request (live h) else [])
  room_lows r =
      let turn : Step NoMark = turn_of k (plain.Room n) in
      let w = turn_keeps_write limits k (plain.Room n) h in
      out_lows limits m (turn ∷ h) (w.lows ∙ rests_told limits h r)
      ∙ ap (λ b. if b && not (conn_high limits (onto (room_notes k n m) h)) then map request (live h) else []) w.high

pub room_keeps : (limits : PlainLimits) (k n m x : ℕ) (h : Past) → KeepsStream limits x h (onto (room_notes k n m) h)
room_keeps limits k n m x h =
    let turn : Step NoMark = turn_of k (plain.Room n) in
    stream_more limits x h (turn ∷ h) (onto (room_notes k n m) h) (turn_keeps limits x k (plain.Room n) h refl refl) (out_keeps limits m x (turn ∷ h))
