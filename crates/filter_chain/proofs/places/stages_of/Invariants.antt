use Rattle.std.proofs.Common.{◌≡◌, All, take}
use Rattle.filter_chain.specs.Chain.{stages}
use Rattle.filter_chain.specs.Stage.{IsReady, places_of}
use Rattle.filter_chain.proofs.places.stages_of.Given as goal

abbrev pub invariant-loop-filter : goal.invariant-loop-filter
invariant-loop-filter l = record {
  places : places_of l.made.items ≡ stages (take l.filter-index l.filters);
  ready : All (IsReady l.quantum) l.made.items;
}
