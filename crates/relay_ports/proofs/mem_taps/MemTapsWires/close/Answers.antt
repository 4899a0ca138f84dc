use Rattle.relay_ports.proofs.mem_taps.MemTapsWires.close.Goals as goal
use Rattle.relay_ports.proofs.Gives.{closed_live, closed_none, ended_live, ended_none}
use Rattle.relay_ports.specs.Memory.{memory_of}
use Rattle.std.proofs.Common.{ap, arith, length, sym, ◌∙◌}

pub invariant_of-self : goal.invariant_of-self
invariant_of-self c =
    let len = rw c.if-remove.true at c.remove.ensures.len in
    let others = ap (λ s. s.others) c.closed.ensures in
    record {
      closes = omega (arith, len, others, c.self.invariant.closes);
      rises = c.remove.ensures.rises;
      below = c.remove.ensures.below c.self.inside.greatest c.self.invariant.below;
    }

pub invariant_of-self-else-remove : goal.invariant_of-self-else-remove
invariant_of-self-else-remove c =
    let same = ap length (c.remove.ensures.same c.if-remove.false) in
    record {
      closes = omega (arith, same, c.self.invariant.closes);
      rises = c.remove.ensures.rises;
      below = c.remove.ensures.below c.self.inside.greatest c.self.invariant.below;
    }

pub returns-then-remove-clause-closes : goal.returns-then-remove-clause-closes
returns-then-remove-clause-closes c =
    rw (← c.self.view_is)
    (closed_live c.args.conn (memory_of c.self.inside) c.remove.new.taps.entries c.closed.new.self _ (sym c.remove.ensures.was ∙ c.if-remove.true) c.remove.ensures.taps c.closed.ensures)

pub returns-then-remove-clause-ended : goal.returns-then-remove-clause-ended
returns-then-remove-clause-ended c =
    rw (← c.self.view_is)
    (ended_live c.args.conn (memory_of c.self.inside) c.remove.new.taps.entries c.closed.new.self _ (sym c.remove.ensures.was ∙ c.if-remove.true) c.remove.ensures.taps c.closed.ensures)

pub returns-else-remove-clause-closes : goal.returns-else-remove-clause-closes
returns-else-remove-clause-closes c =
    rw (← c.self.view_is)
    (closed_none c.args.conn (memory_of c.self.inside) c.remove.new.taps.entries (sym c.remove.ensures.was ∙ c.if-remove.false) (c.remove.ensures.same c.if-remove.false))

pub returns-else-remove-clause-ended : goal.returns-else-remove-clause-ended
returns-else-remove-clause-ended c =
    rw (← c.self.view_is)
    (ended_none c.args.conn (memory_of c.self.inside) c.remove.new.taps.entries (sym c.remove.ensures.was ∙ c.if-remove.false) (c.remove.ensures.same c.if-remove.false))
