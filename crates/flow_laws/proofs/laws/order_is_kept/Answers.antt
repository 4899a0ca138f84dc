use Rattle.flow_laws.proofs.Orders.{order_is_kept}
use Rattle.flow_laws.proofs.laws.order_is_kept.Goals as goal

pub returns : goal.returns
returns c = λ start setup ss h p. order_is_kept setup ss h p
