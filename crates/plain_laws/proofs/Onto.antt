-- What pauses leave as it was.
use Rattle.flow_rules.specs.declared.ids.BufferId.{BufferId}
use Rattle.flow_rules.specs.declared.ids.FlowId.{FlowId}
use Rattle.plain_laws.proofs.Flags.{send_same, write_same}
use Rattle.plain_laws.specs.Owing.{pause_notes}
use Rattle.std.proofs.Common.{refl, ◌∙◌}
use Rattle.std.specs.Prelude.{List, [], ℕ, ◌∷◌, ◌≡◌}
use Rattle.plain_laws.specs.Words.{Past, conn_high, conn_out}
use Rattle.tape_laws.specs.Dispatches.{events_back, live, started, turns}
use Rattle.tape_laws.specs.Doomed.{condemned}
use Rattle.tape_laws.specs.History.{Noted, onto}
use Rattle.tape_laws.specs.Pauses.{Owed, pending_lows}
use Rattle.tape_laws.specs.Plain.{plain_setup}
use Rattle.tape_laws.specs.Watermark.{above}
use Rattle.tape_laws.specs.World.{place}
use Rattle.tape_laws.specs.declared.PlainLimits.{PlainLimits}
use Rattle.flow_rules.specs.declared.ids.BufferId.TheVariants as buffer
use Rattle.flow_notes.specs.declared.notes.Note.TheVariants as note

-- what each pause leaves, all of them leave
pub pauses_leave : {A : Type 0} (F : Past → A) → ((f : FlowId) (b : BufferId) (h : Past) → F (Noted (note.Pause f b) ∷ h) ≡ F h)
    → (due : List Owed) (h : Past) → F (onto (pause_notes due) h) ≡ F h
pauses_leave F same [] h = refl
pauses_leave F same (o ∷ due) h = pauses_leave F same due (Noted (note.Pause o.flow o.buffer) ∷ h) ∙ same o.flow o.buffer h

module _ (limits : PlainLimits) where
  pub pauses_place : (f : FlowId) (p : ℕ) (due : List Owed) (h : Past) → place (plain_setup limits) f p (onto (pause_notes due) h) ≡ place (plain_setup limits) f p h
  pauses_place f p due h = pauses_leave (place (plain_setup limits) f p) (λ g b v. refl) due h

  pub pauses_out : (due : List Owed) (h : Past) → conn_out limits (onto (pause_notes due) h) ≡ conn_out limits h
  pauses_out due h = pauses_leave (conn_out limits) (λ g b v. refl) due h

  pub pauses_lows : (b : BufferId) (due : List Owed) (h : Past) → pending_lows (plain_setup limits) b (onto (pause_notes due) h) ≡ pending_lows (plain_setup limits) b h
  pauses_lows b due h = pauses_leave (pending_lows (plain_setup limits) b) (λ g c v. refl) due h

  pub pauses_send_above : (f : FlowId) (due : List Owed) (h : Past) → above (plain_setup limits) (buffer.Send f) (onto (pause_notes due) h) ≡ above (plain_setup limits) (buffer.Send f) h
  pauses_send_above f due h = pauses_leave (above (plain_setup limits) (buffer.Send f)) (λ g b v. send_same limits f (Noted (note.Pause g b)) v refl) due h

  pub pauses_write_above : (due : List Owed) (h : Past) → conn_high limits (onto (pause_notes due) h) ≡ conn_high limits h
  pauses_write_above due h =
      pauses_leave (conn_high limits) (λ g b v. write_same limits (Noted (note.Pause g b)) v refl) due h

module _ (due : List Owed) (h : Past) where
  pub pauses_live : live (onto (pause_notes due) h) ≡ live h
  pauses_live = pauses_leave live (λ g b v. refl) due h

  pub pauses_started : started (onto (pause_notes due) h) ≡ started h
  pauses_started = pauses_leave started (λ g b v. refl) due h

  pub pauses_condemned : condemned (onto (pause_notes due) h) ≡ condemned h
  pauses_condemned = pauses_leave condemned (λ g b v. refl) due h

  pub pauses_turns : turns (onto (pause_notes due) h) ≡ turns h
  pauses_turns = pauses_leave turns (λ g b v. refl) due h

  pub pauses_events : events_back (onto (pause_notes due) h) ≡ events_back h
  pauses_events = pauses_leave events_back (λ g b v. refl) due h
