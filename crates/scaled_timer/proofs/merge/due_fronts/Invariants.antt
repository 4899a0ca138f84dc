use Rattle.scaled_timer.specs.Merge.{HasFronts}
use Rattle.scaled_timer.proofs.merge.due_fronts.Given as goal

abbrev pub invariant-loop-kind : goal.invariant-loop-kind
invariant-loop-kind l = HasFronts l.kinds l.ppm l.now l.lists.lists l.kind l.queue.fronts
