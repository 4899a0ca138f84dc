use Rattle.std.proofs.Common.{◌≡◌, ◌+◌, drop}
use Rattle.filter_chain.specs.Release.{head_may_go, holds_filled}
use Rattle.filter_chain.specs.Stage.{places_of}
use Rattle.filter_chain.proofs.chain.Chain.head_may_go.Given as goal

abbrev pub invariant-loop-index : goal.invariant-loop-index
invariant-loop-index l = record {
  seen : places_of l.stage-items ≡ l.self.places;
  rest : holds_filled l.self (l.index + 1) (drop l.index l.self.places) ≡ head_may_go l.self;
}
