use Rattle.std.proofs.Common.{ap, ◌∙◌}
use Rattle.std.specs.FinMap.{insert}
use Rattle.wire_windows.proofs.Maps.{one_put}
use Rattle.wire_windows.proofs.by_exchange.ByExchange.put.Goals as goal

pub returns-clause-ok : goal.returns-clause-ok
returns-clause-ok g c = one_put c.self.inside.map.entries c.insert.new.self.entries c.args.x c.args.value c.in_ok-insert.ensures.updates.0 ∙ ap (λ m. insert m c.args.x c.args.value) c.self.view_is
