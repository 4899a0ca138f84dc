use Rattle.filter_chain.proofs.Changes.{place_at-changed_other, place_at-changed_same}
use Rattle.filter_chain.proofs.Moves.{length-changed, place_at-map}
use Rattle.filter_chain.proofs.laws.one_place_changes.Goals as goal

pub returns-clause-place : goal.returns-clause-place
returns-clause-place c = place_at-changed_same

pub returns-clause-others : goal.returns-clause-others
returns-clause-others c = place_at-changed_other

pub returns-clause-each : goal.returns-clause-each
returns-clause-each c = place_at-map

pub returns-clause-count : goal.returns-clause-count
returns-clause-count c = length-changed
