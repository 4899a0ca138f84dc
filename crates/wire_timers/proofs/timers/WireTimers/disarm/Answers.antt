use Rattle.std.proofs.Common.{ℕ, sym, ap, ◌∙◌, subst}
use Rattle.wire_timers.specs.Kinds.{number_of}
use Rattle.wire_timers.specs.Armed.{disarmed}
use Rattle.wire_timers.specs.Held.{find_in}
use Rattle.wire_timers.proofs.Holding.{TakesOut, held-there}
use Rattle.wire_timers.proofs.Changing.{held_by, seen-disarmed, held-disarmed, seen-none}
use Rattle.wire_timers.proofs.timers.WireTimers.disarm.Goals as goal

pub give_back-requires : goal.give_back-requires
give_back-requires c =
    let find = find_in c.self.inside.tokens in
    let e = sym (ap (λ (m : ℕ). find (m, c.args.id)) c.number.ensures.number) ∙ sym c.in-Some.ensures.old in
    held_by c.in-Some.timer c.self.inside.timers (held-there (number_of c.args.kind, c.args.id) c.in-Some.timer find c.self.inside.timers.armed c.self.invariant.found e)

pub invariant_of-self : goal.invariant_of-self
invariant_of-self c =
    let find = find_in c.self.inside.tokens in
    let new = find_in c.take.new.self in
    let t = c.self.inside.timers in
    let p = c.in-Some.timer in
    let e = sym (ap (λ (m : ℕ). find (m, c.args.id)) c.number.ensures.number) ∙ sym c.in-Some.ensures.old in
    held-disarmed c.self.inside.kinds find t c.self.invariant c.args.kind c.args.id p c.give_back.new.timers new e
    (c.give_back.ensures.armed (held-there (number_of c.args.kind, c.args.id) p find t.armed c.self.invariant.found e))
    (subst (λ (m : ℕ). TakesOut (m, c.args.id) find new) c.number.ensures.number c.in-Some.ensures.new)

pub returns-in-Some : goal.returns-in-Some
returns-in-Some c =
    let find = find_in c.self.inside.tokens in
    let t = c.self.inside.timers in
    let p = c.in-Some.timer in
    let e = sym (ap (λ (m : ℕ). find (m, c.args.id)) c.number.ensures.number) ∙ sym c.in-Some.ensures.old in
    seen-disarmed c.self.inside.kinds find t c.self.invariant c.args.kind c.args.id p c.give_back.new.timers e
    (c.give_back.ensures.armed (held-there (number_of c.args.kind, c.args.id) p find t.armed c.self.invariant.found e))
    ∙ ap (disarmed c.args.kind c.args.id) c.self.view_is

pub returns-in_default : goal.returns-in_default
returns-in_default c =
    let find = find_in c.self.inside.tokens in
    let e = sym (ap (λ (m : ℕ). find (m, c.args.id)) c.number.ensures.number) ∙ sym c.in_default.ensures.old in
    seen-none c.self.inside.kinds find c.self.inside.timers c.self.invariant c.args.kind c.args.id e ∙ ap (disarmed c.args.kind c.args.id) c.self.view_is
