use Rattle.std.proofs.Common.{◌≡◌, ◌++◌, length, map}
use Rattle.tape_laws.specs.Watermark.{kind_limit}
use Rattle.wire_run.specs.Rows.{stages_of}
use Rattle.wire_run.proofs.stages.limits_of.Given as goal

abbrev pub invariant-loop-filter : goal.invariant-loop-filter
invariant-loop-filter l = record {
  told : l.limits.items ++ map kind_limit (stages_of l.rest) ≡ map kind_limit (stages_of l.filters);
}

abbrev pub decreases-loop-filter : goal.decreases-loop-filter
decreases-loop-filter l = length l.rest
