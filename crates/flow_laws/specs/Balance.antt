-- The balance of counts: how often a flow is paused, resumed and about to be either is how many of its sources are above.
use Rattle.flow_rules.specs.declared.ids.FlowId.{FlowId}
use Rattle.std.specs.Prelude.{IfSome, List, count_by, false, ℕ, ◌+◌, ◌≡◌}
use Rattle.tape_laws.specs.Connections.{was_closed}
use Rattle.tape_laws.specs.Doomed.{LeavesDoomed}
use Rattle.tape_laws.specs.Flows.{same_flow}
use Rattle.tape_laws.specs.History.{BeforeTurn, EachFollows, History}
use Rattle.tape_laws.specs.Pauses.{Owed, PausesInOrder, due_pauses, lows, pauses, resumes}
use Rattle.tape_laws.specs.Setup.{Setup}
use Rattle.tape_laws.specs.Sources.{EachLive, disabled}

-- how many of the pauses that are due are the flow's
abbrev pub owed_times : FlowId → List Owed → ℕ
owed_times f due = count_by (λ o. same_flow f o.flow) due

-- its pauses, with those that are due, are its resumes, its sources above and its pending lows
abbrev pub IsBalanced : {Mark : Type 0} → Setup Mark → FlowId → History Mark → Type 0
IsBalanced setup f past =
    pauses f past + owed_times f (due_pauses setup past) ≡ resumes f past + (disabled setup f past + lows setup f past)

-- no live flow goes to a connection that was closed
abbrev pub LeavesClosed : {Mark : Type 0} → Setup Mark → History Mark → Type 0
LeavesClosed setup past = EachLive setup (λ f. IfSome (setup.goes_to f past) (λ c. was_closed c past ≡ false)) past

-- what the balance needs of a history: pauses in their order, names of live exchanges, and at each turn no flow to a closed connection
pub record IsPaced {Mark : Type 0} (setup : Setup Mark) (h : History Mark) : Type 0 where
  pub paused : EachFollows (PausesInOrder setup) h
  pub doomed : EachFollows LeavesDoomed h
  pub closed : EachFollows (BeforeTurn (LeavesClosed setup)) h
