use Rattle.std.proofs.Common.{ap, sym, ◌∙◌}
use Rattle.std.specs.FinMap.{get}
use Rattle.wire_windows.proofs.Maps.{found}
use Rattle.wire_windows.proofs.by_exchange.ByExchange.get.Goals as goal

pub returns : goal.returns
returns g c = c.copied.ensures ∙ (c.get.ensures.value ∙ (sym (found c.self.inside.map.entries c.args.x) ∙ ap (λ m. get m c.args.x) c.self.view_is))
