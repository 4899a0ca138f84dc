-- What `replay` tells of a drill.
use Rattle.flow_notes.specs.declared.events.Event.{Event}
use Rattle.flow_notes.specs.declared.notes.Note.{Note}
use Rattle.replay_run.specs.DrillEvents.{drill, drill_limits}
use Rattle.replay_run.specs.Drill.{DrillIs}
use Rattle.replay_run.specs.GoingOn.{MayGoOn}
use Rattle.replay_run.specs.ShortSummary.{short_summary}
use Rattle.replay_run.specs.Tally.{TallyGoes, TallyIs}
use Rattle.replay_run.specs.declared.drill.Drill.{Drill}
use Rattle.session_run.specs.declared.status.Status.{Status}
use Rattle.replay_run.specs.declared.tally.Tally.{Tally}
use Rattle.std.specs.Io.KnownBytes.{Appends}
use Rattle.std.specs.Prelude.{List, Option, [], reverse, ℕ, ◌++◌, ◌≡◌}
use Rattle.tape_laws.specs.Dispatches.{events_back}
use Rattle.tape_laws.specs.Following.{MayFollowAll}
use Rattle.tape_laws.specs.Headline.{Headline}
use Rattle.tape_laws.specs.History.{History, NoMark}
use Rattle.tape_laws.specs.Plain.{plain_setup}
use Rattle.tape_laws.specs.PlainTape.{IsPlainWhole}
use Rattle.plain_core.specs.Runs.{Turns}
use Rattle.plain_core.specs.Stands.{Rests}
use Rattle.plain_core.specs.declared.plain.PlainCore.{PlainCore}
use Rattle.session_run.specs.declared.status.Status.TheVariants as status

-- a lawful tape of the drill of n streams, one whole dispatch for each of its events
pub record IsDrillTape (n : ℕ) (h : History NoMark) : Type 0 where
  pub whole : IsPlainWhole drill_limits h
  pub events : events_back h ≡ reverse (drill n)

pub record TalliesDrill (n : ℕ) (t : Tally) : Type 0 where
  pub history : History NoMark
  pub tape : IsDrillTape n history
  pub tally : TallyIs drill_limits t history

-- the text is the short summary of such a tape
pub record IsDrillSummary (n : ℕ) (text : List ℕ) : Type 0 where
  pub history : History NoMark
  pub tape : IsDrillTape n history
  pub headline : Headline (plain_setup drill_limits) history
  pub is : text ≡ short_summary drill_limits history

-- it was written
pub record WritesDrill (n : ℕ) (out_old out_new : Option (List ℕ)) : Type 0 where
  pub text : List ℕ
  pub summary : IsDrillSummary n text
  pub appends : Appends out_old out_new text

-- where the sink failed, a front of it was
pub record WritesFront (n : ℕ) (out_old out_new : Option (List ℕ)) : Type 0 where
  pub front : List ℕ
  pub rest : List ℕ
  pub summary : IsDrillSummary n (front ++ rest)
  pub appends : Appends out_old out_new front

-- by the status; after running out of memory nothing was written
abbrev pub DrillsAs : ℕ → (out_old out_new : Option (List ℕ)) → Status → Type 0
DrillsAs n out_old out_new status.Done = WritesDrill n out_old out_new
DrillsAs n out_old out_new status.WriteFault = WritesFront n out_old out_new
DrillsAs n out_old out_new status.Memory = Appends out_old out_new []
DrillsAs n out_old out_new status = ⊥

-- an event was dispatched, and its notes were counted
pub record CountsEvent (core : PlainCore) (t : Tally) (e : Event) (after : PlainCore) (counted : Tally) : Type 0 where
  pub notes : List Note
  pub turns : Turns core [] e after notes
  pub tally : TallyGoes t notes counted

-- what stands while a drill is run: the events so far were dispatched, and those that are left may come
pub record Drilled (n : ℕ) (core : PlainCore) (d : Drill) (t : Tally) : Type 0 where
  pub history : History NoMark
  pub later : List Event
  pub rests : Rests drill_limits core history
  pub left : DrillIs d later
  pub tally : TallyIs drill_limits t history
  pub split : reverse (events_back history) ++ later ≡ drill n
  pub before : MayFollowAll (events_back history)
  pub goes : MayGoOn (events_back history) later
