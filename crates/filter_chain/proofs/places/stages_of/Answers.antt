use Rattle.std.proofs.Common.{◌∙◌, arith}
use Rattle.std.proofs.lemmas.List.Elements.{All-push}
use Rattle.std.proofs.lemmas.Option.{slice_get-get_or}
use Rattle.filter_chain.proofs.Made.{stages_more}
use Rattle.filter_chain.specs.Stage.{IsReady, places_of}
use Rattle.filter_chain.proofs.places.stages_of.Goals as goal

pub loop-filter-preserved : goal.loop-filter-preserved
loop-filter-preserved c = record {
  places = c.in_ok-push_stage.ensures.places
      ∙ stages_more c.args.filters.now (places_of c.loop-filter.made.items) c.loop-filter.filter-index _ (omega arith) (slice_get-get_or c.args.filters.now c.loop-filter.filter-index _ (omega arith)) c.loop-filter.invariant.places;
  ready = c.in_ok-push_stage.ensures.ready c.loop-filter.invariant.ready;
}

pub returns-clause-ready : goal.returns-clause-ready
returns-clause-ready c =
    rw c.in_ok-push.ensures.items (All-push (IsReady c.args.quantum) _ _ c.loop-filter.invariant.ready c.in_ok-new.ensures.ready)
