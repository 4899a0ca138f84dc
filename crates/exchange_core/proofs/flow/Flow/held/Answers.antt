use Rattle.std.proofs.Common.{◌≡◌, ◌+◌, ◌<◌, length, arith}
use Rattle.exchange_core.proofs.Held.{held_in_first, held_next}
use Rattle.exchange_core.proofs.flow.Flow.held.Goals as goal
use Rattle.exchange_core.specs.Flow.{last_place}
use Rattle.exchange_core.specs.Kept.{flow_of}

pub loop-index-preserved : goal.loop-index-preserved
loop-index-preserved c =
    let so_far : c.loop-index.held ≡ length c.self.inside.recv.octets + held_in_first c.loop-index.index c.self.inside.chain.places = rw (← c.self.view_is) at c.loop-index.invariant.sum in
    let last : c.loop-index.index < last_place (flow_of c.self.inside) = omega arith in
    record {
      within = omega arith;
      last = c.loop-index.invariant.last;
      few = c.loop-index.invariant.few;
      sum = rw (← c.self.view_is) (omega (arith, so_far, held_next (flow_of c.self.inside) c.loop-index.index last));
      bound = omega (arith, c.len-in-loop-index.type_inv, c.loop-index.invariant.bound, c.from-held-in-loop-index.ensures);
    }
