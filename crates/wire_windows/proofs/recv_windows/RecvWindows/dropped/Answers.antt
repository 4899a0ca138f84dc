use Rattle.std.proofs.Common.{ap, arith, sym, ◌∙◌}
use Rattle.std.specs.FinMap.{get}
use Rattle.std.specs.Prelude.{◌+◌, ◌-◌}
use Rattle.wire_windows.proofs.Keeping.{drops_nothing, held_of, held_within, kept_gone}
use Rattle.wire_windows.proofs.recv_windows.RecvWindows.dropped.Goals as goal
use Rattle.wire_windows.specs.Kept.{windows_of}
use Rattle.wire_windows.specs.RecvWindows.{RecvWindows}

pub returns-in_default-clause-drops : goal.returns-in_default-clause-drops
returns-in_default-clause-drops c = drops_nothing c.args.self.now c.args.x c.args.buffered (ap (λ (w : RecvWindows). get w.streams c.args.x) (sym c.self.view_is) ∙ (sym c.get.ensures ∙ c.in_default.is)) c.requires

pub discarded-requires : goal.discarded-requires
discarded-requires c = omega (arith, held_within (windows_of c.self.inside) c.self.invariant.sound c.args.x c.in-Some.stream (sym c.in-Some.ensures), held_of c.self.inside.streams c.args.x c.in-Some.stream c.in-Some.ensures c.args.buffered (rw (← c.self.view_is) at c.requires))

pub overflow_add-self : goal.overflow_add-self
overflow_add-self c =
    let within = held_within (windows_of c.self.inside) c.self.invariant.sound c.args.x c.in-Some.stream (sym c.in-Some.ensures) in
    let less = held_of c.self.inside.streams c.args.x c.in-Some.stream c.in-Some.ensures c.args.buffered (rw (← c.self.view_is) at c.requires) in
    omega (arith, within, less, c.held.ensures.held, c.discarded.ensures.whole, c.self.invariant.sound.conn)

pub invariant_of-self : goal.invariant_of-self
invariant_of-self c = kept_gone c.self.inside c.self.invariant c.args.x c.in-Some.stream (sym c.in-Some.ensures) c.args.buffered c.discarded.new.self _ c.remove.new.self c.remove-2.new.self
    (held_of c.self.inside.streams c.args.x c.in-Some.stream c.in-Some.ensures c.args.buffered (rw (← c.self.view_is) at c.requires))
    c.discarded.ensures.owes c.discarded.ensures.whole (ap (λ n. c.self.inside.stray + (n - c.args.buffered)) c.held.ensures.held) c.remove.ensures
    (record { items = c.remove-2.ensures.members; len = omega (arith, c.remove-2.ensures.len) }) c.remove-2.ensures.room

pub returns-clause-sound : goal.returns-clause-sound
returns-clause-sound c = (invariant_of-self c).sound
