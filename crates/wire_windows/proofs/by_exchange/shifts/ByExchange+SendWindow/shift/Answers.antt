use Rattle.std.proofs.Common.{ap, sym, ◌∙◌}
use Rattle.std.specs.FinMap.{get}
use Rattle.std.specs.Prelude.{option_map}
use Rattle.wire_windows.proofs.Maps.{found}
use Rattle.wire_windows.proofs.by_exchange.shifts.ByExchange+SendWindow.shift.Goals as goal
use Rattle.wire_windows.specs.Shifts.{moved_by}

pub returns : goal.returns
returns c = λ x.
    found c.move_all.new.map.entries x ∙ (c.move_all.ensures x ∙ (ap (option_map (moved_by c.args.to)) (sym (found c.self.inside.map.entries x))
    ∙ ap (λ m. option_map (moved_by c.args.to) (get m x)) c.self.view_is))
