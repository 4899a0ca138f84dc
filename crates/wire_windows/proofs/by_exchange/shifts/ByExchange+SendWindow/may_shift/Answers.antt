use Rattle.paged_map.specs.PagedMap.{value_at}
use Rattle.std.proofs.Common.{ap, subst, sym, ◌∙◌}
use Rattle.std.specs.FinMap.{get}
use Rattle.std.specs.Option.{option_map_or}
use Rattle.std.specs.Prelude.{IfSome, Option, true, ◌≡◌}
use Rattle.h2_windows.specs.SendWindow.{Sending}
use Rattle.wire_windows.proofs.Maps.{found}
use Rattle.wire_windows.proofs.Walking.{if_some, refused}
use Rattle.wire_windows.proofs.by_exchange.shifts.ByExchange+SendWindow.may_shift.Goals as goal
use Rattle.wire_windows.specs.Shifts.{may_move}

pub returns-clause-all : goal.returns-clause-all
returns-clause-all c = λ is x.
    subst (λ (o : Option Sending). IfSome o (λ s. may_move c.args.to s ≡ true)) (sym (found c.self.inside.map.entries x) ∙ ap (λ m. get m x) c.self.view_is)
    (if_some (may_move c.args.to) (value_at x c.self.inside.map) (c.all_may_move.ensures.all is x))

pub returns-clause-some : goal.returns-clause-some
returns-clause-some c = λ is.
    let one = c.all_may_move.ensures.some is in
    let there = refused (may_move c.args.to) (value_at one.0 c.self.inside.map) one.1 in
    record { exchange = one.0; window = there.0; found = ap (λ m. get m one.0) (sym c.self.view_is) ∙ (found c.self.inside.map.entries one.0 ∙ there.1); refused = there.2 }
