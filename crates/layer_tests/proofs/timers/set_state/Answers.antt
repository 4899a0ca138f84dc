use Rattle.std.proofs.Common.{sym, subst}
use Rattle.scaled_timer.specs.Timing.{IsHeld}
use Rattle.scaled_timer.proofs.Held.{all-still}
use Rattle.layer_tests.proofs.timers.set_state.Goals as goal

pub returns-clause-held : goal.returns-clause-held
returns-clause-held c = all-still c.args.timers.now c.set_state.new.self c.args.held.now.items (λ q h. subst (IsHeld q) (sym c.set_state.ensures) h) c.requires.held
