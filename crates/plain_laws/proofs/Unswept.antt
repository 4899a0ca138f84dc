-- The notes of a step leave a history unswept: none of them is a gone note.
use Rattle.flow_rules.specs.declared.ids.BufferId.{BufferId}
use Rattle.flow_notes.specs.declared.notes.Note.{Note}
use Rattle.plain_laws.proofs.Ontos.{onto_append}
use Rattle.plain_laws.specs.Owing.{pause_notes}
use Rattle.plain_laws.specs.StepNotes.{drain_notes, rise_notes}
use Rattle.std.proofs.Common.{refl}
use Rattle.std.specs.Prelude.{Bool, List, [], false, if◌then◌else◌, map, true, ℕ, ◌∷◌, ◌≡◌}
use Rattle.plain_laws.specs.Words.{Past, conn_high, conn_rises, frame_of, move_of, past_begin, past_frame, past_move, send_drains, send_rises, turn_of}
use Rattle.tape_laws.specs.Dispatches.{live}
use Rattle.tape_laws.specs.Doomed.{is_swept}
use Rattle.tape_laws.specs.Flows.{request}
use Rattle.tape_laws.specs.History.{Noted, onto}
use Rattle.tape_laws.specs.Pauses.{Owed}
use Rattle.tape_laws.specs.declared.PlainLimits.{PlainLimits}
use Rattle.flow_rules.specs.declared.ids.BufferId.TheVariants as buffer
use Rattle.flow_notes.specs.declared.events.PlainEvent.TheVariants as plain
use Rattle.flow_notes.specs.declared.notes.Note.TheVariants as note

pub pauses_unswept : (due : List Owed) (h : Past) → is_swept h ≡ false → is_swept (onto (pause_notes due) h) ≡ false
pauses_unswept [] h e = e
pauses_unswept (o ∷ due) h e = pauses_unswept due (Noted (note.Pause o.flow o.buffer) ∷ h) refl

all_unswept : (b : BufferId) (xs : List ℕ) (h : Past) → is_swept h ≡ false → is_swept (onto (map (λ y. note.Pause (request y) b) xs) h) ≡ false
all_unswept b [] h e = e
all_unswept b (x ∷ xs) h e = all_unswept b xs (Noted (note.Pause (request x) b) ∷ h) refl

-- a note that may stand there
if_unswept : (b : Bool) (n : Note) (h : Past) → is_swept h ≡ false → is_swept (Noted n ∷ h) ≡ false → is_swept (onto (if b then n ∷ [] else []) h) ≡ false
if_unswept true n h e f = f
if_unswept false n h e f = e

pub begin_unswept : (limits : PlainLimits) (k x : ℕ) (h : Past) → is_swept (past_begin limits k x h) ≡ false
begin_unswept limits k x h =
    if_unswept (conn_high limits h) (note.Pause (request x) (buffer.Write 0))
    (Noted (note.Start x 0 x 0) ∷ turn_of k (plain.Begin x) ∷ h) refl refl

pub move_unswept : (limits : PlainLimits) (x n : ℕ) (h : Past) → is_swept (past_move limits x n h) ≡ false
move_unswept limits x n h =
    if_unswept (send_rises limits x (move_of x n) h) (note.Pause (request x) (buffer.Send (request x)))
    (move_of x n ∷ h) refl refl

module _ (limits : PlainLimits) (x n : ℕ) (last : Bool) (h : Past) where
  rise_unswept : (k : Past) → is_swept k ≡ false → is_swept (onto (rise_notes limits x n last h) k) ≡ false
  rise_unswept k e = pick (conn_rises limits (frame_of x n last) h)
    where
      pick : (b : Bool) → is_swept (onto (if b then map (λ y. note.Pause (request y) (buffer.Write 0)) (live h) else []) k) ≡ false
      pick true = all_unswept (buffer.Write 0) (live h) k e
      pick false = e

  pub frame_unswept : is_swept (past_frame limits x n last h) ≡ false
  frame_unswept =
      cc (
        onto_append (rise_notes limits x n last h) (drain_notes limits x n last h) (frame_of x n last ∷ h),
        if_unswept (send_drains limits x (frame_of x n last) h) (note.Resume (request x) (buffer.Send (request x)))
            (onto (rise_notes limits x n last h) (frame_of x n last ∷ h)) (rise_unswept (frame_of x n last ∷ h) refl) refl,
      )
