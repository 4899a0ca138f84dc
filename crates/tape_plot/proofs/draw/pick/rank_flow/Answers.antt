-- Place after place is put.
use Rattle.std.proofs.Common.{arith, refl}
use Rattle.tape_plot.proofs.Putting.{place_put, places_put}
use Rattle.tape_plot.proofs.draw.pick.rank_flow.Goals as goal

pub loop-i-init : goal.loop-i-init
loop-i-init c = record { put = refl; within = omega arith }

pub loop-i-preserved : goal.loop-i-preserved
loop-i-preserved c = record {
  put =
      place_put c.args.limits.now c.args.id c.args.flow.now.places.items c.loop-i.i c.in_ok-count.count c.index-place.result.now c.of_place.result _ _ _ (omega arith) c.in_ok-count.ensures c.index-place.ensures
      c.of_place.ensures c.in_ok-rank.ensures c.loop-i.invariant.put;
  within = omega arith;
}

pub returns : goal.returns
returns c = places_put c.args.limits.now c.args.id c.args.flow.now.places.items c.loop-i.i c.in_ok-count.count _ _ c.in_ok-count.ensures (omega arith) c.loop-i.invariant.put
