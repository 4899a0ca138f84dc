use Rattle.std.proofs.Common.{◌≡◌, false, sym, ap, ◌∙◌, subst, arith}
use Rattle.link_lists.specs.Places.{same_ptr}
use Rattle.scaled_timer.specs.Due.{Armed}
use Rattle.scaled_timer.specs.Timing.{IsHeld, AreHeld}
use Rattle.scaled_timer.proofs.Held.{held-arm, held-new, held_differs, held-disarm, disarm-same, all-still, all-more}
use Rattle.layer_bench.proofs.timers.arm_one.Goals as goal

pub disarm-requires : goal.disarm-requires
disarm-requires g c = let a : Armed = record { timer = c.in-Ok.timer; kind = 0; id = c.args.now; at = c.args.now } in
    subst (λ p. IsHeld p c.arm.new.self) (sym c.in-Err.ensures.value_returned) (held-new c.args.timers.now c.arm.new.self c.args.now a c.in-Ok.ensures.ok)

pub returns-in-Ok-push_back-clause-held : goal.returns-in-Ok-push_back-clause-held
returns-in-Ok-push_back-clause-held g c = let a : Armed = record { timer = c.in-Ok.timer; kind = 0; id = c.args.now; at = c.args.now } in
    subst (λ l. AreHeld l c.arm.new.self) (sym c.in-Ok-push_back.ensures.items)
    (all-more c.args.timers.now c.arm.new.self c.in-Ok.timer c.args.held.now.items (λ q h. held-arm q c.args.timers.now h c.arm.new.self c.args.now a c.in-Ok.ensures.ok)
    (λ q h. held_differs q c.args.timers.now h c.in-Ok.timer c.in-Ok.ensures.fresh.0 c.in-Ok.ensures.fresh.1) (held-new c.args.timers.now c.arm.new.self c.args.now a c.in-Ok.ensures.ok) c.requires.held)

pub returns-in-Err-clause-held : goal.returns-in-Err-clause-held
returns-in-Err-clause-held g c = let a : Armed = record { timer = c.in-Ok.timer; kind = 0; id = c.args.now; at = c.args.now } in
    let at = subst (λ p. IsHeld p c.arm.new.self) (sym c.in-Err.ensures.value_returned) (held-new c.args.timers.now c.arm.new.self c.args.now a c.in-Ok.ensures.ok) in
    subst (λ l. AreHeld l c.disarm.new.self) (sym c.in-Err.ensures.items)
    (all-still c.args.timers.now c.disarm.new.self c.args.held.now.items (λ q h. held-disarm q c.in-Err.failed.value c.arm.new.self c.disarm.new.self at c.disarm.ensures.armed c.disarm.ensures.fired
    (subst (λ p. same_ptr q p ≡ false) (sym c.in-Err.ensures.value_returned) (held_differs q c.args.timers.now h c.in-Ok.timer c.in-Ok.ensures.fresh.0 c.in-Ok.ensures.fresh.1))
    (held-arm q c.args.timers.now h c.arm.new.self c.args.now a c.in-Ok.ensures.ok)) c.requires.held)

pub returns-in-Err-clause-kinds : goal.returns-in-Err-clause-kinds
returns-in-Err-clause-kinds g c = let a : Armed = record { timer = c.in-Ok.timer; kind = 0; id = c.args.now; at = c.args.now } in
    let at = subst (λ p. IsHeld p c.arm.new.self) (sym c.in-Err.ensures.value_returned) (held-new c.args.timers.now c.arm.new.self c.args.now a c.in-Ok.ensures.ok) in
    (disarm-same c.in-Err.failed.value c.arm.new.self c.disarm.new.self at c.disarm.ensures.armed c.disarm.ensures.fired).0 ∙ ap (λ t. t.kinds) c.in-Ok.ensures.ok

pub returns-in-Err-clause-latest : goal.returns-in-Err-clause-latest
returns-in-Err-clause-latest g c = let a : Armed = record { timer = c.in-Ok.timer; kind = 0; id = c.args.now; at = c.args.now } in
    let at = subst (λ p. IsHeld p c.arm.new.self) (sym c.in-Err.ensures.value_returned) (held-new c.args.timers.now c.arm.new.self c.args.now a c.in-Ok.ensures.ok) in
    let e = (disarm-same c.in-Err.failed.value c.arm.new.self c.disarm.new.self at c.disarm.ensures.armed c.disarm.ensures.fired).1 in let f = ap (λ t. t.latest) c.in-Ok.ensures.ok in omega (arith, e, f)
