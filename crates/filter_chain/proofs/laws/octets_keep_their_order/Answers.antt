use Rattle.filter_chain.proofs.Order.{framed_way, offered_way, released_way}
use Rattle.filter_chain.proofs.laws.octets_keep_their_order.Goals as goal

pub returns-clause-offered : goal.returns-clause-offered
returns-clause-offered c = offered_way

pub returns-clause-released : goal.returns-clause-released
returns-clause-released c = released_way

pub returns-clause-framed : goal.returns-clause-framed
returns-clause-framed c = framed_way
