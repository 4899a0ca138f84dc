use Rattle.std.proofs.Common.{ap, ◌∙◌}
use Rattle.std.specs.FinMap.{remove}
use Rattle.wire_windows.proofs.Maps.{one_gone}
use Rattle.wire_windows.proofs.by_exchange.ByExchange.remove.Goals as goal

pub returns : goal.returns
returns g c = one_gone c.self.inside.map.entries c.remove.new.self.entries c.args.x c.remove.ensures.updates.0 ∙ ap (λ m. remove m c.args.x) c.self.view_is
