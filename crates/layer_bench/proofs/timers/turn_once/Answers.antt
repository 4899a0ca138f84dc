use Rattle.std.proofs.Common.{sym, subst}
use Rattle.scaled_timer.specs.Timing.{AreHeld}
use Rattle.scaled_timer.proofs.Held.{held-turn, all-still}
use Rattle.layer_bench.proofs.timers.turn_once.Goals as goal

pub returns-in-Ok-clause-held : goal.returns-in-Ok-clause-held
returns-in-Ok-clause-held c = all-still c.args.timers.now c.turn.new.self c.args.held.now.items (λ q h. held-turn q c.args.timers.now c.turn.new.self c.args.now c.in-Ok.ensures.left h) c.requires.held

pub returns-in-Err-clause-held : goal.returns-in-Err-clause-held
returns-in-Err-clause-held c = subst (AreHeld c.args.held.now.items) (sym c.in-Err.ensures.err) c.requires.held
