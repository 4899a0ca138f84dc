-- What single notes, and pauses, keep.
use Rattle.flow_rules.specs.declared.ids.BufferId.{BufferId}
use Rattle.flow_rules.specs.declared.ids.FlowId.{FlowId}
use Rattle.flow_notes.specs.declared.events.PlainEvent.{PlainEvent}
use Rattle.flow_rules.specs.declared.causes.Cause.{Cause}
use Rattle.plain_laws.proofs.Arrivals.{arrive_leaves}
use Rattle.plain_laws.proofs.Dooms.{doom_leaves}
use Rattle.plain_laws.proofs.Flags.{send_same, write_same}
use Rattle.plain_laws.proofs.Gones.{gone_leaves}
use Rattle.plain_laws.proofs.Greatest.{peak_kept}
use Rattle.plain_laws.proofs.Leaving.{Leaves}
use Rattle.plain_laws.proofs.Onto.{pauses_condemned, pauses_events, pauses_live, pauses_lows, pauses_out, pauses_started, pauses_turns, pauses_write_above}
use Rattle.plain_laws.proofs.Outs.{out_leaves}
use Rattle.plain_laws.proofs.Own.{leaves_low, leaves_recv_peak, leaves_send_peak}
use Rattle.plain_laws.proofs.Starts.{start_leaves}
use Rattle.plain_laws.specs.Keeping.{KeepsLists, KeepsStream, KeepsWrite}
use Rattle.plain_laws.specs.Owing.{pause_notes}
use Rattle.plain_laws.specs.Pairs.{seconds}
use Rattle.plain_laws.specs.Settled.{Settled}
use Rattle.std.proofs.Common.{refl, ◌∙◌}
use Rattle.std.specs.Prelude.{List, [], drop, false, ℕ, ◌==◌, ◌∷◌, ◌≡◌}
use Rattle.plain_laws.specs.Words.{Past, conn_high, conn_lows, conn_out, turn_of}
use Rattle.tape_laws.specs.Flows.{request}
use Rattle.tape_laws.specs.History.{NoMark, Noted, Step, onto}
use Rattle.tape_laws.specs.Pauses.{Owed}
use Rattle.tape_laws.specs.Plain.{plain_ended}
use Rattle.tape_laws.specs.declared.PlainLimits.{PlainLimits}
use Rattle.flow_rules.specs.declared.ids.BufferId.TheVariants as buffer
use Rattle.flow_notes.specs.declared.notes.Note.TheVariants as note

pub keeps_stream : (limits : PlainLimits) (x : ℕ) (step : Step NoMark) (h : Past) → Leaves limits x step h → plain_ended x (step ∷ h) ≡ plain_ended x h
    → seconds x (step ∷ h) ≡ seconds x h → KeepsStream limits x h (step ∷ h)
keeps_stream limits x step h l e s = record {
  recv = l.recv;
  send = l.send;
  high = leaves_low limits x step h l;
  ended = e;
  framed = l.framed;
  pairs = s;
  recv_most = leaves_recv_peak limits x step h l;
  send_most = leaves_send_peak limits x step h l;
}

pub stream_more : (limits : PlainLimits) (x : ℕ) (a b c : Past) → KeepsStream limits x a b → KeepsStream limits x b c → KeepsStream limits x a c
stream_more limits x a b c k l = record {
  recv = l.recv ∙ k.recv;
  send = l.send ∙ k.send;
  high = l.high ∙ k.high;
  ended = l.ended ∙ k.ended;
  framed = l.framed ∙ k.framed;
  pairs = l.pairs ∙ k.pairs;
  recv_most = l.recv_most ∙ k.recv_most;
  send_most = l.send_most ∙ k.send_most;
}

pub write_more : (limits : PlainLimits) (a b c : Past) → KeepsWrite limits a b → KeepsWrite limits b c → KeepsWrite limits a c
write_more limits a b c k l = record { octets = l.octets ∙ k.octets; high = l.high ∙ k.high; lows = l.lows ∙ k.lows }

pub lists_more : (a b c : Past) → KeepsLists a b → KeepsLists b c → KeepsLists a c
lists_more a b c k l = record { lives = l.lives ∙ k.lives; begun = l.begun ∙ k.begun; doomed = l.doomed ∙ k.doomed; numbers = l.numbers ∙ k.numbers; events = l.events ∙ k.events }

-- a note that keeps what the write buffer holds keeps its flag
module _ (limits : PlainLimits) where
  pub keeps_write : (step : Step NoMark) (h : Past) → conn_out limits (step ∷ h) ≡ conn_out limits h
      → conn_lows limits (step ∷ h) ≡ conn_lows limits h → KeepsWrite limits h (step ∷ h)
  keeps_write step h e l = record { octets = e; high = write_same limits step h e; lows = l }

  -- ---- pauses

  pub pause_keeps : (x : ℕ) (f : FlowId) (b : BufferId) (h : Past) → KeepsStream limits x h (Noted (note.Pause f b) ∷ h)
  pause_keeps x f b h = record {
    recv = refl;
    send = refl;
    high = send_same limits (request x) (Noted (note.Pause f b)) h refl;
    ended = refl;
    framed = refl;
    pairs = refl;
    recv_most = peak_kept limits (buffer.Recv (request x)) (Noted (note.Pause f b)) h refl refl;
    send_most = peak_kept limits (buffer.Send (request x)) (Noted (note.Pause f b)) h refl refl;
  }

  stream_none : (x : ℕ) (h : Past) → KeepsStream limits x h h
  stream_none x h = record { recv = refl; send = refl; high = refl; ended = refl; framed = refl; pairs = refl; recv_most = refl; send_most = refl }

  pub pauses_keep : (x : ℕ) (due : List Owed) (h : Past) → KeepsStream limits x h (onto (pause_notes due) h)
  pauses_keep x [] h = stream_none x h
  pauses_keep x (o ∷ due) h =
      stream_more limits x h (Noted (note.Pause o.flow o.buffer) ∷ h) _ (pause_keeps x o.flow o.buffer h) (pauses_keep x due (Noted (note.Pause o.flow o.buffer) ∷ h))

  pub pauses_keep_write : (due : List Owed) (h : Past) → KeepsWrite limits h (onto (pause_notes due) h)
  pauses_keep_write due h = record { octets = pauses_out limits due h; high = pauses_write_above limits due h; lows = pauses_lows limits (buffer.Write 0) due h }

pub pauses_keep_lists : (due : List Owed) (h : Past) → KeepsLists h (onto (pause_notes due) h)
pauses_keep_lists due h =
    record { lives = pauses_live due h; begun = pauses_started due h; doomed = pauses_condemned due h; numbers = pauses_turns due h; events = pauses_events due h }

-- ---- resumes

pub resume_keeps : (limits : PlainLimits) (x : ℕ) (f : FlowId) (b : BufferId) (h : Past) → KeepsStream limits x h (Noted (note.Resume f b) ∷ h)
resume_keeps limits x f b h = record {
  recv = refl;
  send = refl;
  high = send_same limits (request x) (Noted (note.Resume f b)) h refl;
  ended = refl;
  framed = refl;
  pairs = refl;
  recv_most = peak_kept limits (buffer.Recv (request x)) (Noted (note.Resume f b)) h refl refl;
  send_most = peak_kept limits (buffer.Send (request x)) (Noted (note.Resume f b)) h refl refl;
}

pub resume_keeps_lists : (f : FlowId) (b : BufferId) (h : Past) → KeepsLists h (Noted (note.Resume f b) ∷ h)
resume_keeps_lists f b h = record { lives = refl; begun = refl; doomed = refl; numbers = refl; events = refl }

-- of the write buffer: its octets and flag stay, and the first that waits has been told
module _ (limits : PlainLimits) (f : FlowId) (h : Past) where
  pub write_resume_out : conn_out limits (Noted (note.Resume f (buffer.Write 0)) ∷ h) ≡ conn_out limits h
  write_resume_out = refl

  pub write_resume_high : conn_high limits (Noted (note.Resume f (buffer.Write 0)) ∷ h) ≡ conn_high limits h
  write_resume_high = write_same limits (Noted (note.Resume f (buffer.Write 0))) h (write_resume_out)

  pub write_resume_lows : conn_lows limits (Noted (note.Resume f (buffer.Write 0)) ∷ h) ≡ drop 1 (conn_lows limits h)
  write_resume_lows = refl

-- ---- other notes, of a stream that they aren't of

module _ (limits : PlainLimits) where
  pub turn_keeps : (x k : ℕ) (e : PlainEvent) (h : Past) → plain_ended x (turn_of k e ∷ h) ≡ plain_ended x h
      → seconds x (turn_of k e ∷ h) ≡ seconds x h → KeepsStream limits x h (turn_of k e ∷ h)
  turn_keeps x k e h ended pairs = record {
    recv = refl;
    send = refl;
    high = send_same limits (request x) (turn_of k e) h refl;
    ended = ended;
    framed = refl;
    pairs = pairs;
    recv_most = peak_kept limits (buffer.Recv (request x)) (turn_of k e) h refl refl;
    send_most = peak_kept limits (buffer.Send (request x)) (turn_of k e) h refl refl;
  }

  pub turn_keeps_write : (k : ℕ) (e : PlainEvent) (h : Past) → KeepsWrite limits h (turn_of k e ∷ h)
  turn_keeps_write k e h = keeps_write limits (turn_of k e) h refl refl

  pub arrive_keeps : (x y : ℕ) (octets : List ℕ) (h : Past) → (x == y) ≡ false → KeepsStream limits y h (Noted (note.Arrive (request x) octets) ∷ h)
  arrive_keeps x y octets h d = keeps_stream limits y (Noted (note.Arrive (request x) octets)) h (arrive_leaves limits x y octets h d) refl refl

  pub arrive_keeps_write : (x : ℕ) (octets : List ℕ) (h : Past) → KeepsWrite limits h (Noted (note.Arrive (request x) octets) ∷ h)
  arrive_keeps_write x octets h = keeps_write limits (Noted (note.Arrive (request x) octets)) h refl refl

  pub start_keeps : (x y : ℕ) (h : Past) → KeepsStream limits y h (Noted (note.Start x 0 x 0) ∷ h)
  start_keeps x y h = keeps_stream limits y (Noted (note.Start x 0 x 0)) h (start_leaves limits x y h) refl refl

  pub start_keeps_write : (x : ℕ) (h : Past) → KeepsWrite limits h (Noted (note.Start x 0 x 0) ∷ h)
  start_keeps_write x h = keeps_write limits (Noted (note.Start x 0 x 0)) h refl refl

  pub out_keeps : (n x : ℕ) (h : Past) → KeepsStream limits x h (Noted (note.Out 0 n) ∷ h)
  out_keeps n x h = keeps_stream limits x (Noted (note.Out 0 n)) h (out_leaves limits n x h) refl refl

  pub gone_keeps : (x y : ℕ) (h : Past) → KeepsStream limits y h (Noted (note.Gone x) ∷ h)
  gone_keeps x y h = keeps_stream limits y (Noted (note.Gone x)) h (gone_leaves limits x y h) refl refl

  pub gone_keeps_write : (x : ℕ) (h : Past) → KeepsWrite limits h (Noted (note.Gone x) ∷ h)
  gone_keeps_write x h = keeps_write limits (Noted (note.Gone x)) h refl refl

  -- another stream than the doomed one, whose send buffer's low isn't pending
  pub doom_keeps : (x y : ℕ) (why : Cause) (h : Past) → Settled limits h → (x == y) ≡ false → KeepsStream limits y h (Noted (note.Doom x why) ∷ h)
  doom_keeps x y why h s d =
      keeps_stream limits y (Noted (note.Doom x why)) h (doom_leaves limits x y why h d (cc (s.untold y))) refl refl

module _ (limits : PlainLimits) (x : ℕ) (why : Cause) (h : Past) where
  pub doom_out : conn_out limits (Noted (note.Doom x why) ∷ h) ≡ conn_out limits h
  doom_out = refl

  pub doom_high : conn_high limits (Noted (note.Doom x why) ∷ h) ≡ conn_high limits h
  doom_high = write_same limits (Noted (note.Doom x why)) h (doom_out)
