use Rattle.std.proofs.Common.{◌≡◌, ◌+◌, []}
use Rattle.std.specs.Prelude.{replicate}
use Rattle.link_lists.proofs.lists.Lists.new.Given as goal

abbrev pub invariant-loop : goal.invariant-loop
invariant-loop g l = l.rings ≡ replicate (l.counter + 1) []
