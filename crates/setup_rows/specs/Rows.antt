-- What the made-up kind of session shows of its steps: who is paused and told, and in which order.
use Rattle.flow_rules.specs.declared.ids.BufferId.{BufferId}
use Rattle.flow_rules.specs.declared.ids.FlowId.{FlowId}
use Rattle.flow_laws.specs.Made.{Asks, Came, Made, MadeMark, made_session, made_setup}
use Rattle.flow_laws.specs.Steps.{after}
use Rattle.flow_laws.specs.Suits.{IsSound}
use Rattle.flow_laws.specs.Tellings.{Crosses, KeepsOrder}
use Rattle.std.specs.List.{AllByRecursion}
use Rattle.std.specs.Prelude.{List, [], replicate, true, ℕ, ◌∷◌, ◌≡◌}
use Rattle.tape_laws.specs.Flows.{request}
use Rattle.tape_laws.specs.History.{Marked, Noted, Step}
use Rattle.tape_laws.specs.Pauses.{due_pauses}
use Rattle.tape_laws.specs.Sources.{is_live, source_buffers}
use Rattle.tape_laws.specs.Units.{WantsStart}
use Rattle.tape_laws.specs.Watermark.{rises_at}
use Rattle.flow_rules.specs.declared.ids.BufferId.TheVariants as buffer
use Rattle.flow_notes.specs.declared.events.Event.TheVariants as event
use Rattle.flow_notes.specs.declared.notes.Note.TheVariants as note

-- one octet more than the Meter's limit
abbrev pub many : List ℕ
many = replicate 1001 7

abbrev pub meter : BufferId
meter = buffer.Stage (request 1) 1

-- they came for exchange 1, and arrived
abbrev pub before_full : Made
before_full =
    Noted (note.Arrive (request 1) many)
    ∷ Marked (Came (request 1) many)
    ∷ Noted (note.Start 1 1 1 2)
    ∷ Marked (Asks (WantsStart 1 1 1 2 ∷ []))
    ∷ Noted (note.Turn 1 (event.Tick 0))
    ∷ []

-- and fill the Meter
abbrev pub fills : Step MadeMark
fills = Noted (note.Move (request 1) 0 1001)

-- both laws of steps apply to its tapes, and there is one on which a source rises
pub record StepsApply : Type 0 where
  pub crosses : (step : Step MadeMark) (past : Made) → IsSound made_session (step ∷ past)
      → (f : FlowId) → is_live made_setup f past ≡ true → is_live made_setup f (step ∷ past) ≡ true
      → AllByRecursion (Crosses made_setup step past) (source_buffers made_setup f past)
  pub ordered : (steps : List (Step MadeMark)) (past : Made) → IsSound made_session (after steps past) → KeepsOrder made_setup steps past
  pub full : IsSound made_session (fills ∷ before_full)
  pub rises : rises_at made_setup meter fills before_full ≡ true
  pub due : due_pauses made_setup (fills ∷ before_full) ≡ record { flow = request 1; buffer = meter } ∷ []
