-- Which task is on top, of whichever connection.
use Rattle.std.specs.List.{slice_get}
use Rattle.std.specs.Prelude.{Some, ℕ, ◌≡◌}
use Rattle.plain_core.specs.Agenda.{Agenda}
use Rattle.plain_core.specs.declared.agenda.Task.TheVariants as task

-- a drain is on top
pub record IsDrainTop (agenda : Agenda) : Type 0 where
  pub conn : ℕ
  pub is : slice_get agenda 0 ≡ Some (task.Drain conn)

-- the telling of a write buffer's watchers is on top
pub record IsTellTop (agenda : Agenda) : Type 0 where
  pub conn : ℕ
  pub is : slice_get agenda 0 ≡ Some (task.Tell conn)
