use Rattle.proxy_wire.specs.Leading.{ArePosters}
use Rattle.proxy_wire.proofs.leading.post_all.Given as goal

abbrev pub invariant-loop-place : goal.invariant-loop-place
invariant-loop-place g l = ArePosters l.boxes l.posters
