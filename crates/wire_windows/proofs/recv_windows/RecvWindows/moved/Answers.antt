use Rattle.std.proofs.Common.{ap, arith, refl, subst, sym, ◌∙◌}
use Rattle.wire_windows.proofs.Due.{Marks, room_left}
use Rattle.wire_windows.proofs.Keeping.{held_of, held_within, kept_owed}
use Rattle.wire_windows.proofs.recv_windows.RecvWindows.moved.Goals as goal
use Rattle.wire_windows.specs.Kept.{windows_of}

pub moved-requires-2 : goal.moved-requires-2
moved-requires-2 c = omega (arith, held_within (windows_of c.self.inside) c.self.invariant.sound c.args.x c.in-Some.stream (sym c.in-Some.ensures), held_of c.self.inside.streams c.args.x c.in-Some.stream c.in-Some.ensures c.args.n (rw (← c.self.view_is) at c.requires))

pub mark-requires : goal.mark-requires
mark-requires c = λ there unmarked. room_left c.self.inside.streams c.self.inside.due c.self.invariant.due c.args.x c.in-Some.stream (sym c.in-Some.ensures) c.self.invariant.ready unmarked

pub invariant_of-self : goal.invariant_of-self
invariant_of-self c = kept_owed c.self.inside c.self.invariant c.args.x c.in-Some.stream (sym c.in-Some.ensures) c.args.n c.moved.new.self c.moved-2.new.self c.set.new.self c.mark.new.self
    (held_of c.self.inside.streams c.args.x c.in-Some.stream c.in-Some.ensures c.args.n (rw (← c.self.view_is) at c.requires))
    c.moved.ensures.owes c.moved.ensures.whole c.moved-2.ensures.owes c.moved-2.ensures.whole c.set.ensures
    (subst (λ b. Marks c.args.x b c.self.inside.due c.mark.new.self) c.is_due.ensures (record { items = c.mark.ensures.members; len = c.mark.ensures.len }))
    c.mark.ensures.room

pub returns-clause-sound : goal.returns-clause-sound
returns-clause-sound c = (invariant_of-self c).sound
