use Rattle.std.specs.Prelude.{◌≤◌}
use Rattle.tape_plot.proofs.draw.ticks.step_of.Given as goal

abbrev pub invariant-loop : goal.invariant-loop
invariant-loop l = 1 ≤ l.ten
