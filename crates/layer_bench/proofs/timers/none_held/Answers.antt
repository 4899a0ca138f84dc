use Rattle.std.proofs.Common.{sym, subst}
use Rattle.scaled_timer.specs.Timing.{AreHeld}
use Rattle.scaled_timer.proofs.Held.{none-held}
use Rattle.layer_bench.proofs.timers.none_held.Goals as goal

pub returns : goal.returns
returns c = subst (λ l. AreHeld l c.args.timers.now) (sym c.new.ensures.items) (none-held c.args.timers.now)
