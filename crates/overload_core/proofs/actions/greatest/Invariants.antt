use Rattle.std.proofs.Common.{◌≡◌, ◌≤◌, drop}
use Rattle.std.specs.Prelude.{max}
use Rattle.overload_core.specs.ActionStates.{action_state}
use Rattle.overload_core.proofs.actions.greatest.Given as goal

abbrev pub invariant-loop-trigger : goal.invariant-loop-trigger
invariant-loop-trigger l = record {
  same : max l.most (action_state (drop l.trigger-index l.triggers) l.pressures l.action) ≡ action_state l.triggers l.pressures l.action;
  most : l.most ≤ 1000000;
}
