use Rattle.std.proofs.Common.{◌≡◌, ◌++◌, length}
use Rattle.flow_gate.specs.Board.{pending_on}
use Rattle.std.specs.List.{AllByRecursion}
use Rattle.std.specs.Prelude.{false}
use Rattle.plain_core.specs.Carries.{Wakes}
use Rattle.plain_core.specs.Gaps.{IsGap}
use Rattle.flow_rules.specs.declared.ids.BufferId.TheVariants as buffer
use Rattle.plain_core.proofs.telling.told_to_holder.Given as goal

abbrev pub invariant-loop-flow : goal.invariant-loop-flow
invariant-loop-flow l = record {
  all : l.yielded ++ l.flow-iterator ≡ pending_on l.fn.flows.gates (buffer.Write 0);
  number : l.n ≡ length l.yielded;
  stay : AllByRecursion (λ f. Wakes l.fn.flows f.exchange false) l.yielded;
  gap : IsGap l.fn.flows l.gap;
}
