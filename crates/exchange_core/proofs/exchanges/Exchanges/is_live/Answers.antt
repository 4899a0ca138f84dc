use Rattle.exchange_core.proofs.Finding.{live_found}
use Rattle.exchange_core.proofs.exchanges.Exchanges.is_live.Goals as goal
use Rattle.std.proofs.Common.{refl, sym, ◌∙◌}

pub returns : goal.returns
returns c = rw (← c.self.view_is) (c.contains_key.ensures ∙ sym (live_found c.self.inside c.args.exchange _ refl))
