use Rattle.std.proofs.Common.{ap, sym, ◌∙◌}
use Rattle.std.proofs.lemmas.Bool.{false≢true}
use Rattle.std.specs.FinMap.{insert}
use Rattle.std.specs.Option.{is_some, option_copied_mut}
use Rattle.wire_windows.proofs.Maps.{found, one_put}
use Rattle.wire_windows.proofs.by_exchange.ByExchange.set.Goals as goal

pub unreachable-requires : goal.unreachable-requires
unreachable-requires g c =
    false≢true (sym (ap is_some (found c.self.inside.map.entries c.args.x ∙ (sym c.get_mut.ensures.value ∙ ap option_copied_mut c.in_default.is))) ∙ (rw (← c.self.view_is) at c.requires))

pub returns : goal.returns
returns g c =
    one_put c.self.inside.map.entries (c.get_mut.follows.lender c.args.value).entries c.args.x c.args.value ((c.get_mut.follows.holds c.args.value).3 (ap is_some (sym c.in-Some.ensures.value))).0
    ∙ ap (λ m. insert m c.args.x c.args.value) c.self.view_is
