use Rattle.std.proofs.Common.{◌≡◌, ℕ, true, sym, ap, ◌∙◌, subst, arith}
use Rattle.std.specs.Prelude.{◌==◌}
use Rattle.wire_timers.specs.Kinds.{longest_at}
use Rattle.wire_timers.specs.Armed.{armed_anew}
use Rattle.wire_timers.specs.Held.{find_in}
use Rattle.wire_timers.proofs.Arming.{sees-first, holds-first, still-there, sees-again, holds-again}
use Rattle.wire_timers.proofs.Longest.{is-on, is-off}
use Rattle.wire_timers.proofs.Changing.{held_by, held-same, seen-off}
use Rattle.wire_timers.proofs.timers.WireTimers.arm.Goals as goal

pub returns-then-self-number-eq0-clause-ok : goal.returns-then-self-number-eq0-clause-ok
returns-then-self-number-eq0-clause-ok c =
    let own = c.self.inside.kinds in
    let off = subst (λ (m : ℕ). (longest_at own m == 0) ≡ true) c.number-number.ensures.number (is-off own c.number-number.result c.index-self-number.result (omega arith) c.if-self-number-eq0.true) in
    sym c.self.view_is ∙ seen-off own (find_in c.self.inside.tokens) c.self.inside.timers c.self.invariant c.args.kind c.args.id c.args.now off ∙ ap (armed_anew c.args.kind c.args.id c.args.now) c.self.view_is

pub invariant_of-self-in_err-timer : goal.invariant_of-self-in_err-timer
invariant_of-self-in_err-timer c =
    held-same c.self.inside.kinds (find_in c.self.inside.tokens) (find_in c.reserve.new.self) c.self.inside.timers c.arm.new.self c.self.invariant c.reserve.ensures.same c.in_err-timer.ensures.err

pub invariant_of-self-in_default : goal.invariant_of-self-in_default
invariant_of-self-in_default c =
    let find = find_in c.self.inside.tokens in
    let mid = find_in c.reserve.new.self in
    let own = c.self.inside.kinds in
    let n = c.number-number.result in
    let on = is-on own n c.index-self-number.result (omega arith) c.if-self-number-eq0.false in
    holds-first own find mid c.reserve.ensures.same c.self.inside.timers c.arm.new.self c.self.invariant c.args.kind n c.number-number.ensures.number c.args.id c.args.now c.in_ok-timer.timer on c.in_ok-timer.ensures.fresh.0 c.in_ok-timer.ensures.ok (c.in_default.ensures.old) (find_in c.put.new.self) c.in_default.ensures.new

pub give_back-requires : goal.give_back-requires
give_back-requires c =
    let find = find_in c.self.inside.tokens in
    let mid = find_in c.reserve.new.self in
    let own = c.self.inside.kinds in
    let n = c.number-number.result in
    let on = is-on own n c.index-self-number.result (omega arith) c.if-self-number-eq0.false in
    held_by c.in-Some.before c.arm.new.self (still-there own find mid c.reserve.ensures.same c.self.inside.timers c.arm.new.self c.self.invariant c.args.kind n c.number-number.ensures.number c.args.id c.args.now c.in_ok-timer.timer on c.in_ok-timer.ensures.fresh.0 c.in_ok-timer.ensures.ok c.in-Some.before (c.in-Some.ensures.old))

pub invariant_of-self-in-Some : goal.invariant_of-self-in-Some
invariant_of-self-in-Some c =
    let find = find_in c.self.inside.tokens in
    let mid = find_in c.reserve.new.self in
    let own = c.self.inside.kinds in
    let n = c.number-number.result in
    let on = is-on own n c.index-self-number.result (omega arith) c.if-self-number-eq0.false in
    let back = c.give_back.ensures.armed (still-there own find mid c.reserve.ensures.same c.self.inside.timers c.arm.new.self c.self.invariant c.args.kind n c.number-number.ensures.number c.args.id c.args.now c.in_ok-timer.timer on c.in_ok-timer.ensures.fresh.0 c.in_ok-timer.ensures.ok c.in-Some.before (c.in-Some.ensures.old)) in
    holds-again own find mid c.reserve.ensures.same c.self.inside.timers c.arm.new.self c.self.invariant c.args.kind n c.number-number.ensures.number c.args.id c.args.now c.in_ok-timer.timer on c.in_ok-timer.ensures.fresh.0 c.in_ok-timer.ensures.ok c.in-Some.before (c.in-Some.ensures.old) c.give_back.new.timers back (find_in c.put.new.self) c.in-Some.ensures.new

pub returns-in_default-clause-ok : goal.returns-in_default-clause-ok
returns-in_default-clause-ok c =
    let find = find_in c.self.inside.tokens in
    let mid = find_in c.reserve.new.self in
    let own = c.self.inside.kinds in
    let n = c.number-number.result in
    let on = is-on own n c.index-self-number.result (omega arith) c.if-self-number-eq0.false in
    sees-first own find mid c.reserve.ensures.same c.self.inside.timers c.arm.new.self c.self.invariant c.args.kind n c.number-number.ensures.number c.args.id c.args.now c.in_ok-timer.timer on c.in_ok-timer.ensures.fresh.0 c.in_ok-timer.ensures.ok (c.in_default.ensures.old) ∙ ap (armed_anew c.args.kind c.args.id c.args.now) c.self.view_is

pub returns-in-Some-clause-ok : goal.returns-in-Some-clause-ok
returns-in-Some-clause-ok c =
    let find = find_in c.self.inside.tokens in
    let mid = find_in c.reserve.new.self in
    let own = c.self.inside.kinds in
    let n = c.number-number.result in
    let on = is-on own n c.index-self-number.result (omega arith) c.if-self-number-eq0.false in
    let back = c.give_back.ensures.armed (still-there own find mid c.reserve.ensures.same c.self.inside.timers c.arm.new.self c.self.invariant c.args.kind n c.number-number.ensures.number c.args.id c.args.now c.in_ok-timer.timer on c.in_ok-timer.ensures.fresh.0 c.in_ok-timer.ensures.ok c.in-Some.before (c.in-Some.ensures.old)) in
    sees-again own find mid c.reserve.ensures.same c.self.inside.timers c.arm.new.self c.self.invariant c.args.kind n c.number-number.ensures.number c.args.id c.args.now c.in_ok-timer.timer on c.in_ok-timer.ensures.fresh.0 c.in_ok-timer.ensures.ok c.in-Some.before (c.in-Some.ensures.old) c.give_back.new.timers back ∙ ap (armed_anew c.args.kind c.args.id c.args.now) c.self.view_is
