use Rattle.mem_ports.proofs.Closing.{closed_none, ended_none}
use Rattle.mem_ports.proofs.wires.MemWiresWires.close.Goals as goal
use Rattle.mem_ports.specs.Memory.{memory_of, seen_of}
use Rattle.std.proofs.Common.{ap, arith, length, suc, sym, ◌∙◌}

pub invariant_of-self : goal.invariant_of-self
invariant_of-self c =
    let len = rw c.if-remove.true at c.remove.ensures.len in
    let others = ap (λ s. s.others) c.closed.ensures in
    record {
      closes = omega (arith, len, others, c.self.invariant.closes);
      below = c.remove.ensures.below (suc c.self.inside.greatest) c.self.invariant.below;
    }

pub invariant_of-self-else-remove : goal.invariant_of-self-else-remove
invariant_of-self-else-remove c =
    let same = ap length (c.remove.ensures.same c.if-remove.false) in
    record {
      closes = omega (arith, same, c.self.invariant.closes);
      below = c.remove.ensures.below (suc c.self.inside.greatest) c.self.invariant.below;
    }

pub returns-else-remove-clause-closes : goal.returns-else-remove-clause-closes
returns-else-remove-clause-closes c =
    rw (← c.self.view_is)
    (closed_none c.args.conn (seen_of (memory_of c.self.inside)) c.remove.new.live.keys (sym c.remove.ensures.was ∙ c.if-remove.false) (c.remove.ensures.same c.if-remove.false))

pub returns-else-remove-clause-ended : goal.returns-else-remove-clause-ended
returns-else-remove-clause-ended c =
    rw (← c.self.view_is)
    (ended_none c.args.conn (memory_of c.self.inside) c.remove.new.live.keys (sym c.remove.ensures.was ∙ c.if-remove.false) (c.remove.ensures.same c.if-remove.false))
