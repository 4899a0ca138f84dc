-- Place after place is drawn.
use Rattle.std.proofs.Common.{arith}
use Rattle.tape_plot.proofs.Drawing.{grows_more, grows_self, place_next, places_done, places_none}
use Rattle.tape_plot.proofs.draw.rows.Rows.put_places.Goals as goal

pub loop-i-init : goal.loop-i-init
loop-i-init c = record { grows = grows_self _; drawn = places_none c.args.self.now.sheet c.args.limits.now c.args.pick.now c.args.id c.args.flow.now.places.items; within = omega arith }

pub loop-i-preserved : goal.loop-i-preserved
loop-i-preserved c = record {
  grows = grows_more _ _ _ c.loop-i.invariant.grows c.in_ok-put_place.ensures.grows;
  drawn =
      place_next c.loop-i.self.sheet _ c.args.limits.now c.args.pick.now c.args.id c.args.flow.now.places.items c.loop-i.i c.in_ok-end.end c.index.result.now c.of_place-limit.result c.takes-is_picked.result
      (omega arith) c.in_ok-end.ensures c.in_ok-put_place.ensures.grows c.loop-i.invariant.drawn c.takes-is_picked.ensures c.of_place-limit.ensures c.index.ensures c.in_ok-put_place.ensures.drawn;
  within = omega arith;
}

pub returns : goal.returns
returns c = record {
  grows = c.loop-i.invariant.grows;
  drawn = places_done _ c.args.limits.now c.args.pick.now c.args.id c.args.flow.now.places.items c.loop-i.i c.in_ok-end.end c.in_ok-end.ensures (omega arith) c.loop-i.invariant.drawn;
}
