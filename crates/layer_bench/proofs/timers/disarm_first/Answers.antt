use Rattle.std.proofs.Common.{subst}
use Rattle.scaled_timer.specs.Timing.{AreHeld}
use Rattle.scaled_timer.proofs.Held.{held-disarm, disarm-same, first_held, all-behind}
use Rattle.layer_bench.proofs.timers.disarm_first.Goals as goal

pub returns-in-Some-clause-held : goal.returns-in-Some-clause-held
returns-in-Some-clause-held g c = let h = subst (λ l. AreHeld l c.args.timers.now) c.in-Some.ensures.items c.requires in let at = first_held c.args.timers.now c.in-Some.timer c.pop_front.new.self.items h in
    all-behind c.args.timers.now c.disarm.new.self c.in-Some.timer c.pop_front.new.self.items (λ q n k. held-disarm q c.in-Some.timer c.args.timers.now c.disarm.new.self at c.disarm.ensures.armed c.disarm.ensures.fired n k) h

pub returns-in-Some-clause-kinds : goal.returns-in-Some-clause-kinds
returns-in-Some-clause-kinds g c = let h = subst (λ l. AreHeld l c.args.timers.now) c.in-Some.ensures.items c.requires in let at = first_held c.args.timers.now c.in-Some.timer c.pop_front.new.self.items h in (disarm-same c.in-Some.timer c.args.timers.now c.disarm.new.self at c.disarm.ensures.armed c.disarm.ensures.fired).0

pub returns-in-Some-clause-latest : goal.returns-in-Some-clause-latest
returns-in-Some-clause-latest g c = let h = subst (λ l. AreHeld l c.args.timers.now) c.in-Some.ensures.items c.requires in let at = first_held c.args.timers.now c.in-Some.timer c.pop_front.new.self.items h in (disarm-same c.in-Some.timer c.args.timers.now c.disarm.new.self at c.disarm.ensures.armed c.disarm.ensures.fired).1
