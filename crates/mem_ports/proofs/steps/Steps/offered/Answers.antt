use Rattle.mem_ports.proofs.Recording.{octets_behind, offered_behind}
use Rattle.mem_ports.proofs.steps.Steps.offered.Goals as goal
use Rattle.mem_ports.specs.Steps.{octets_in, steps_in}
use Rattle.mem_ports.specs.declared.steps.Kept.TheVariants as kept
use Rattle.std.proofs.Common.{[], ap, arith, length, ◌++◌, ◌∙◌, ◌∷◌}

pub invariant_of-self : goal.invariant_of-self
invariant_of-self c =
    let i = c.self.inside in
    let offer = octets_behind i.kept.items (kept.Offered c.args.conn (length c.args.piece.now) c.args.taken) in
    let octets = ap octets_in c.push_reserved.ensures.items in
    let room = rw (← c.self.view_is) at c.requires in
    record {
      pieces = omega (arith, octets, offer, c.self.invariant.pieces, c.in-Ok.ensures.len);
      steps = omega (arith, c.self.invariant.steps, c.push_reserved.ensures.len, c.push_reserved.ensures.capacity, room.0);
      octets = omega (arith, c.self.invariant.octets, c.in-Ok.ensures.len, c.extend_from_slice.ensures.capacity, room.1);
    }

pub returns-clause-steps : goal.returns-clause-steps
returns-clause-steps c =
    let i = c.self.inside in
    rw (← c.self.view_is)
    (ap (λ ks. steps_in ks c.extend_from_slice.new.self.items) c.push_reserved.ensures.items
    ∙ ap (λ ps. steps_in (i.kept.items ++ kept.Offered c.args.conn (length c.args.piece.now) c.args.taken ∷ []) ps) c.in-Ok.ensures.items
    ∙ offered_behind i.kept.items i.pieces.items c.args.piece.now c.args.conn c.args.taken c.self.invariant.pieces)
