use Rattle.std.proofs.Common.{◌≡◌}
use Rattle.filter_chain.proofs.Refills.{partly}
use Rattle.filter_chain.specs.Place.{refilled}
use Rattle.filter_chain.specs.Stage.{KeepsReady, places_of}
use Rattle.filter_chain.proofs.places.refill_all.Given as goal

abbrev pub invariant-loop-stage : goal.invariant-loop-stage
invariant-loop-stage l = record {
  places : places_of l.stages ≡ partly (refilled l.steps) l.stage-index (places_of l.fn.stages);
  ready : KeepsReady l.fn.stages l.stages;
}
