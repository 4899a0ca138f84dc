-- Words that are those of a value.
use Rattle.std.specs.Prelude.{◌≡◌, ℕ, List, ◌∷◌, false}
use Rattle.flow_rules.specs.declared.ids.BufferId.{BufferId}
use Rattle.flow_rules.specs.declared.ids.FlowId.{FlowId}
use Rattle.flow_notes.specs.Buffer.{buffer_words}
use Rattle.flow_rules.specs.Pausing.{CanPause}
use Rattle.flow_notes.specs.Cause.{cause_words}
use Rattle.flow_notes.specs.Event.{event_words, plain_words, is_plain, IsEvent, IsPlainEvent}
use Rattle.flow_notes.specs.Fields.{FitsBuffer, FitsCause, FitsEvent, FitsFlow, FitsJob, FitsNote, FitsPlain}
use Rattle.flow_notes.specs.Flow.{flow_word}
use Rattle.flow_notes.specs.Job.{job_words, IsJob}
use Rattle.flow_notes.specs.Note.{note_words, IsNote}
use Rattle.flow_notes.specs.declared.events.Event.{Event}
use Rattle.flow_notes.specs.declared.events.Job.{Job}
use Rattle.flow_notes.specs.declared.events.PlainEvent.{PlainEvent}
use Rattle.flow_rules.specs.declared.causes.Cause.{Cause}
use Rattle.flow_notes.specs.declared.notes.Note.{Note}

-- the words are those of the event, which is in its ranges
abbrev pub SpellsEvent : List (List ℕ) → List (List ℕ) → Event → Type 0
SpellsEvent names words happens = (words ≡ event_words names happens) × IsEvent names happens × FitsEvent happens

-- the same of a wire session's event
abbrev pub SpellsWire : List (List ℕ) → List (List ℕ) → Event → Type 0
SpellsWire names words happens = (words ≡ event_words names happens) × IsEvent names happens × FitsEvent happens × (is_plain happens ≡ false)

abbrev pub SpellsPlain : List (List ℕ) → PlainEvent → Type 0
SpellsPlain words happens = (words ≡ plain_words happens) × IsPlainEvent happens × FitsPlain happens

abbrev pub SpellsJob : List (List ℕ) → Job → Type 0
SpellsJob words job = (words ≡ job_words job) × IsJob job × FitsJob job

abbrev pub SpellsCause : List (List ℕ) → Cause → Type 0
SpellsCause words cause = (words ≡ cause_words cause) × FitsCause cause

-- a buffer that pauses the flow
abbrev pub SpellsBuffer : FlowId → List (List ℕ) → BufferId → Type 0
SpellsBuffer flow words buffer = (words ≡ buffer_words buffer) × CanPause flow buffer × FitsBuffer buffer

-- a flow and a buffer that pauses it
abbrev pub SpellsCrossing : List (List ℕ) → FlowId × BufferId → Type 0
SpellsCrossing words crossing = (words ≡ flow_word crossing.0 ∷ buffer_words crossing.1) × CanPause crossing.0 crossing.1 × FitsFlow crossing.0 × FitsBuffer crossing.1

abbrev pub SpellsNote : List (List ℕ) → List (List ℕ) → Note → Type 0
SpellsNote names words note = (words ≡ note_words names note) × IsNote names note × FitsNote note
