-- The load over the course of the dispatches.
use Rattle.std.specs.Prelude.{ℕ, Bool, List, []}
use Rattle.overload_core.specs.Course.{Holding, Follow, all_set, IsResetNext}
use Rattle.wire_load.specs.Load.{Loading, reset_next}

-- the load once a dispatch is at its end: each touched exchange is settled with what it holds, by number, and none is touched
abbrev pub ended : Holding → Loading → Loading
ended held l = record l { accounts = record l.accounts { classes = all_set l.accounts.start held l.touched l.accounts.classes }; touched = [] }

-- the classes follow the course: each has the live exchanges that were of it at the newest end, in the order in which they came into it
abbrev pub Follows : List Holding → (ℕ → Bool) → Loading → Type 0
Follows ends live l = Follow l.accounts.start ends live l.accounts.classes

-- the next reset is the live exchange of the greatest class that the state clears, of these the one that came into it first
abbrev pub NextIsDue : List Holding → (ℕ → Bool) → Loading → Type 0
NextIsDue ends live l = IsResetNext l.accounts.start ends live l.actions.reset_streams (reset_next l)
