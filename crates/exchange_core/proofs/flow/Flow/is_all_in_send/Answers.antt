use Rattle.std.proofs.Common.{◌≡◌, ◌<◌, ◌∙◌, ◌==◌, length, sym, arith}
use Rattle.exchange_core.proofs.Before.{before_more, filled_before}
use Rattle.exchange_core.proofs.flow.Flow.is_all_in_send.Goals as goal
use Rattle.exchange_core.specs.Flow.{last_place}
use Rattle.exchange_core.specs.Kept.{flow_of}
use Rattle.exchange_core.specs.Units.{empty_before}
use Rattle.filter_chain.specs.Chain.{octets_at}

pub returns-then-len-gt0 : goal.returns-then-len-gt0
returns-then-len-gt0 c =
    let last : c.loop-place.place < last_place (flow_of c.self.inside) = omega arith in
    let some : 0 < length (octets_at c.self.inside.chain c.loop-place.place) = omega arith in
    rw (← c.self.view_is) (sym (filled_before (flow_of c.self.inside) c.loop-place.place (last_place (flow_of c.self.inside)) c.loop-place.invariant.first last some))

pub loop-place-preserved : goal.loop-place-preserved
loop-place-preserved c =
    let so_far : empty_before (flow_of c.self.inside) c.loop-place.place ≡ (length c.self.inside.recv.octets == 0) = rw (← c.self.view_is) at c.loop-place.invariant.before in
    let none : length (octets_at c.self.inside.chain c.loop-place.place) ≡ 0 = omega arith in
    record {
      first = omega arith;
      within = omega arith;
      last = c.loop-place.invariant.last;
      before = rw (← c.self.view_is) (before_more (flow_of c.self.inside) c.loop-place.place c.loop-place.invariant.first none ∙ so_far);
    }
