-- What each note does to the octets of its own stream.
use Rattle.h2_frames.specs.Head.{data_head}
use Rattle.flow_rules.specs.declared.causes.Cause.{Cause}
use Rattle.plain_laws.proofs.Flags.{send_same}
use Rattle.plain_laws.proofs.Greatest.{peak_kept}
use Rattle.plain_laws.proofs.Leaving.{Leaves}
use Rattle.plain_laws.proofs.Streams.{same_number}
use Rattle.std.proofs.Common.{refl}
use Rattle.std.proofs.lemmas.List.{append-nil}
use Rattle.std.specs.Prelude.{Bool, List, [], drop, take, ℕ, ◌++◌, ◌||◌, ◌∷◌, ◌≡◌}
use Rattle.plain_laws.specs.Words.{Past, conn_out, end_out, frame_of, move_of, recv_at, send_at, send_high}
use Rattle.tape_laws.specs.Flows.{request}
use Rattle.tape_laws.specs.History.{NoMark, Noted, Step}
use Rattle.tape_laws.specs.Plain.{plain_setup}
use Rattle.tape_laws.specs.Summary.{peak}
use Rattle.tape_laws.specs.declared.PlainLimits.{PlainLimits}
use Rattle.flow_rules.specs.declared.ids.BufferId.TheVariants as buffer
use Rattle.flow_notes.specs.declared.notes.Note.TheVariants as note

module _ (limits : PlainLimits) (x : ℕ) (octets : List ℕ) (h : Past) where
  pub recv_arrive : recv_at limits x (Noted (note.Arrive (request x) octets) ∷ h) ≡ recv_at limits x h ++ octets
  recv_arrive = rw (same_number x) refl

  pub send_arrive : send_at limits x (Noted (note.Arrive (request x) octets) ∷ h) ≡ send_at limits x h
  send_arrive = rw (same_number x) (append-nil (send_at limits x h))

module _ (limits : PlainLimits) (x n : ℕ) (h : Past) where
  pub recv_move : recv_at limits x (move_of x n ∷ h) ≡ drop n (recv_at limits x h)
  recv_move = rw (same_number x) refl

  pub send_move : send_at limits x (move_of x n ∷ h)
      ≡ send_at limits x h ++ take n (recv_at limits x h)
  send_move = rw (same_number x) refl

module _ (limits : PlainLimits) (x n : ℕ) (last : Bool) (h : Past) where
  pub recv_frame : recv_at limits x (frame_of x n last ∷ h) ≡ recv_at limits x h
  recv_frame = rw (same_number x) refl

  pub send_frame : send_at limits x (frame_of x n last ∷ h) ≡ drop n (send_at limits x h)
  send_frame = rw (same_number x) refl

  pub end_frame : end_out limits x (frame_of x n last ∷ h) ≡ (last || end_out limits x h)
  end_frame = rw (same_number x) refl

  pub out_frame : conn_out limits (frame_of x n last ∷ h)
      ≡ conn_out limits h ++ (data_head x n last ++ take n (send_at limits x h))
  out_frame = refl

pub send_doom : (limits : PlainLimits) (x : ℕ) (why : Cause) (h : Past) → send_at limits x (Noted (note.Doom x why) ∷ h) ≡ []
send_doom limits x why h = rw (same_number x) refl

-- ---- what is left of a stream that the step isn't about

module _ (limits : PlainLimits) (x : ℕ) (step : Step NoMark) (h : Past) where
  pub leaves_low : Leaves limits x step h
      → send_high limits x (step ∷ h) ≡ send_high limits x h
  leaves_low l = send_same limits (request x) step h l.send

  pub leaves_recv_peak : Leaves limits x step h
      → peak (plain_setup limits) (buffer.Recv (request x)) (step ∷ h) ≡ peak (plain_setup limits) (buffer.Recv (request x)) h
  leaves_recv_peak l = peak_kept limits (buffer.Recv (request x)) step h (cc) refl

  pub leaves_send_peak : Leaves limits x step h
      → peak (plain_setup limits) (buffer.Send (request x)) (step ∷ h) ≡ peak (plain_setup limits) (buffer.Send (request x)) h
  leaves_send_peak l = peak_kept limits (buffer.Send (request x)) step h (cc) refl
