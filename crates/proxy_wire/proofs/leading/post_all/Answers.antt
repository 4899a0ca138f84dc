-- One box after the other.
use Rattle.proxy_wire.proofs.Posting.{posters_set}
use Rattle.std.proofs.Common.{arith}
use Rattle.proxy_wire.proofs.leading.post_all.Goals as goal

pub loop-place-preserved : goal.loop-place-preserved
loop-place-preserved g c =
    let there = c.loop-place-test.true in
    posters_set c.args.boxes.now c.loop-place.posters c.loop-place.place c.index-boxes-place.result c.post.new.pass (omega (arith, there)) c.index-boxes-place.is c.post.ensures.pass.0 c.loop-place.invariant
