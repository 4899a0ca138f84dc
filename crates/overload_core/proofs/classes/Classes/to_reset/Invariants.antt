use Rattle.std.proofs.Common.{◌≡◌}
use Rattle.overload_core.specs.Accounts.{first_of, cleared}
use Rattle.overload_core.specs.Tied.{classes_of}
use Rattle.overload_core.proofs.Resets.{behind}
use Rattle.overload_core.proofs.classes.Classes.to_reset.Given as goal

-- the classes that were looked at are empty
abbrev pub invariant-loop-i : goal.invariant-loop-i
invariant-loop-i l = first_of (behind (cleared l.state) 0 (classes_of l.self-inside.lists.lists)) ≡ first_of (behind (cleared l.state) l.i (classes_of l.self-inside.lists.lists))
