-- The first of all goes on.
use Rattle.std.proofs.Common.{[], refl, sym, ◌∙◌}
use Rattle.plain_core.proofs.Resumes.{next_wakes}
use Rattle.plain_core.proofs.telling.first_told.Goals as goal

pub returns-in-Some : goal.returns-in-Some
returns-in-Some c = next_wakes c.args.flows.now [] c.in-Some.flow c.next.new.self 0 (sym c.in-Some.ensures.steps ∙ c.lows.ensures) tt refl
