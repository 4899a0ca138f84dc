use Rattle.filter_chain.proofs.Moves.{framed_octets, offered_octets, released_octets, ticked_octets}
use Rattle.filter_chain.proofs.laws.moves_leave_the_rest.Goals as goal

pub returns-clause-offered : goal.returns-clause-offered
returns-clause-offered c = offered_octets

pub returns-clause-released : goal.returns-clause-released
returns-clause-released c = released_octets

pub returns-clause-framed : goal.returns-clause-framed
returns-clause-framed c = framed_octets

pub returns-clause-ticked : goal.returns-clause-ticked
returns-clause-ticked c = ticked_octets
