use Rattle.std.proofs.Common.{sym, subst}
use Rattle.scaled_timer.specs.Timing.{AreHeld}
use Rattle.scaled_timer.proofs.Held.{held-turn, all-still, by_outcome}
use Rattle.layer_tests.proofs.timers.turn.Goals as goal

pub returns-clause-held : goal.returns-clause-held
returns-clause-held c =
    by_outcome c.turn.result c.turn.ensures.left c.turn.ensures.err
    (λ e. all-still c.args.timers.now c.turn.new.self c.args.held.now.items (λ q h. held-turn q c.args.timers.now c.turn.new.self c.args.now e h) c.requires.held)
    (λ e. subst (AreHeld c.args.held.now.items) (sym e) c.requires.held)
