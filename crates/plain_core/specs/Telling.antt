-- Which flows are told that the write buffer drained: those that are to be, up to the first that goes on.
use Rattle.flow_gate.specs.Board.{pending_on}
use Rattle.flow_rules.specs.declared.ids.FlowId.{FlowId}
use Rattle.flow_notes.specs.declared.notes.Note.{Note}
use Rattle.std.specs.List.{AllByRecursion}
use Rattle.std.specs.Prelude.{List, [], IfNone, false, length, option_to_list, ◌++◌, ◌≡◌}
use Rattle.plain_core.specs.Carries.{Wakes}
use Rattle.plain_core.specs.Noting.{resumes_of}
use Rattle.plain_core.specs.declared.flows.Flows.{Flows}
use Rattle.plain_core.specs.declared.telling.Told.{Told}
use Rattle.flow_rules.specs.declared.ids.BufferId.TheVariants as buffer

-- how many are told, and which of them goes on
pub record IsToldNext (flows : Flows) (told : Told) : Type 0 where
  pub still : List FlowId
  pub rest : List FlowId
  pub whole : pending_on flows.gates (buffer.Write 0) ≡ (still ++ option_to_list told.next) ++ rest
  pub number : told.n ≡ length (still ++ option_to_list told.next)
  pub stay : AllByRecursion (λ f. Wakes flows f.exchange false) still
  pub last : IfNone told.next (rest ≡ [])

-- and their resumes were written
pub record TellsUpTo (flows : Flows) (old : List Note) (told : Told) (new : List Note) : Type 0 where
  pub is : IsToldNext flows told
  pub notes : new ≡ old ++ resumes_of (buffer.Write 0) (is.still ++ option_to_list told.next)
