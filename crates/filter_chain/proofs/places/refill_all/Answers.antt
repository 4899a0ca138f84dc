use Rattle.std.proofs.Common.{arith}
use Rattle.filter_chain.proofs.Ready.{ready_stored}
use Rattle.filter_chain.proofs.Refills.{refill_step}
use Rattle.filter_chain.specs.Place.{refilled}
use Rattle.filter_chain.proofs.places.refill_all.Goals as goal

pub loop-stage-preserved : goal.loop-stage-preserved
loop-stage-preserved c = record {
  places = refill_step (refilled c.args.steps) c.args.stages.now c.loop-stage.stages c.loop-stage.stage-index c.stage-item.result c.refill.new.self
      (omega arith) (omega arith) c.loop-stage.invariant.places c.refill.ensures.place;
  ready = λ quantum all. ready_stored quantum c.loop-stage.stages c.loop-stage.stage-index c.stage-item.result c.refill.new.self
      (omega arith) c.refill.ensures.room (c.loop-stage.invariant.ready quantum all);
}
