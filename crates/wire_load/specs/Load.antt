-- The load of a worker: the states of the actions, the exchanges by memory class, and those that this dispatch touched.
use Rattle.std.specs.Prelude.{ℕ, Option, List, [], replicate}
use Rattle.std.specs.BTreeMap.{is_at}
use Rattle.std.specs.BTreeSet.{insert_key}
use Rattle.std.specs.Ordering.{nat_cmp}
use Rattle.std.specs.Set.{remove_key}
use Rattle.overload_core.specs.declared.actions.Actions.{Actions}
use Rattle.number_set.specs.NumberMap.{IsSorted}
use Rattle.overload_core.specs.ActionStates.{AreStates, all_off}
use Rattle.overload_core.specs.Accounts.{Accounts, in_class, without, next_reset}
use Rattle.overload_core.specs.Course.{class_number}
use Rattle.wire_load.specs.declared.load.Load.TheInside.{Inside}

-- the states of the six actions, the classes, and the numbers of the touched exchanges, which rise
pub record Loading : Type 0 where
  pub actions : Actions
  pub accounts : Accounts
  pub touched : List ℕ

-- the numbers of the touched exchanges stand in order
pub record IsKept (l : Inside) : Type 0 where
  pub states : AreStates l.actions
  pub order : IsSorted l.touched

-- before the first obeyed pressures: every action is off, and no exchange has a class
abbrev pub unloaded : ℕ → Loading
unloaded start = record { actions = all_off; accounts = record { start = start; classes = replicate 8 [] }; touched = [] }

-- the exchange is touched too, at its place by number
abbrev pub with_touched : ℕ → Loading → Loading
with_touched x l = record l { touched = insert_key nat_cmp l.touched x }

-- the exchange holds so many octets: where that changes its class it comes last in the new one, and else it keeps its place
abbrev pub settled : ℕ → ℕ → Loading → Loading
settled x octets l = record l { accounts = record l.accounts { classes = in_class (class_number l.accounts.start octets) x l.accounts.classes } }

-- the exchange is gone: it is in no class, and isn't touched
abbrev pub dropped : ℕ → Loading → Loading
dropped x l = record l { accounts = record l.accounts { classes = without x l.accounts.classes }; touched = remove_key (is_at (nat_cmp x)) l.touched }

-- the exchange that is reset next under the state of `reset_streams`
abbrev pub reset_next : Loading → Option ℕ
reset_next l = next_reset l.actions.reset_streams l.accounts.classes
