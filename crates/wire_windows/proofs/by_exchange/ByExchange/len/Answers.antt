use Rattle.std.proofs.Common.{ap, sym, ◌∙◌}
use Rattle.std.specs.FinMap.{len}
use Rattle.wire_windows.proofs.Maps.{count_of}
use Rattle.wire_windows.proofs.by_exchange.ByExchange.len.Goals as goal

pub returns-clause-len : goal.returns-clause-len
returns-clause-len g c = c.len.ensures.len ∙ (sym (count_of c.self.inside.map.entries c.len.ensures.ordered) ∙ ap len c.self.view_is)
