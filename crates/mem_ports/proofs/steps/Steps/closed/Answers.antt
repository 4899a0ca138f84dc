use Rattle.mem_ports.proofs.Recording.{closed_behind, octets_behind}
use Rattle.mem_ports.proofs.steps.Steps.closed.Goals as goal
use Rattle.mem_ports.specs.Steps.{octets_in, steps_in}
use Rattle.mem_ports.specs.declared.steps.Kept.TheVariants as kept
use Rattle.std.proofs.Common.{ap, arith, ◌-◌, ◌∙◌}

pub invariant_of-self : goal.invariant_of-self
invariant_of-self c =
    let i = c.self.inside in
    let items = c.push_reserved.ensures.items in
    let room = rw (← c.self.view_is) at c.requires in
    let octets = octets_behind i.kept.items (kept.Closed c.args.conn) in
    record {
      pieces = omega (arith, ap octets_in items, octets, c.self.invariant.pieces);
      steps = omega (arith, c.self.invariant.steps, c.push_reserved.ensures.len, c.push_reserved.ensures.capacity, room);
      octets = c.self.invariant.octets;
    }

pub returns : goal.returns
returns c =
    let i = c.self.inside in
    rw (← c.self.view_is)
    (ap (λ steps. record { steps = steps; offers = i.room.offers; octets = i.room.octets; others = i.others - 1 })
    (ap (λ ks. steps_in ks i.pieces.items) c.push_reserved.ensures.items ∙ closed_behind i.kept.items i.pieces.items _))
