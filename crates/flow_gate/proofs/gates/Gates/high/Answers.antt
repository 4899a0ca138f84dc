use Rattle.flow_gate.proofs.Calls.{buffer_rose}
use Rattle.flow_gate.proofs.Reading.{known_found}
use Rattle.flow_gate.proofs.gates.Gates.high.Goals as goal
use Rattle.flow_gate.proofs.gates.Gates.high.Goals.{After-self-2-1}
use Rattle.flow_gate.specs.Changes.{Rises}
use Rattle.flow_gate.specs.Parts.{AreGates, board_of}
use Rattle.std.proofs.Common.{ap, rules, sym, ◌∙◌}
use Rattle.std.proofs.lemmas.Bool.{false≢true}
use Rattle.std.specs.Option.{is_some, option_copied_mut}

pub unreachable-requires : goal.unreachable-requires
unreachable-requires c = false≢true
    (known_found c.self.inside.flows c.self.inside.buffers c.args.buffer _ (ap is_some (ap option_copied_mut (sym c.in_default.is) ∙ c.get_mut.ensures.value))
    ∙ (rw (← c.self.view_is) at c.requires.known))

done : (c : After-self-2-1) →
    Rises c.args.buffer (board_of c.self.inside.flows c.self.inside.buffers) (board_of c.self.inside.flows (c.get_mut.follows.lender c.rise.new.self))
    × AreGates c.self.inside.flows (c.get_mut.follows.lender c.rise.new.self)
done c = buffer_rose c.args.buffer c.in-Some.gate.now c.rise.new.self c.self.inside.flows c.self.inside.buffers _ c.in-Some.ensures.value c.rise.ensures
    ((c.get_mut.follows.holds c.rise.new.self).1 (search rules)) (rw (← c.self.view_is) at c.requires.low) c.self.invariant

pub invariant_of-self : goal.invariant_of-self
invariant_of-self c = (done c).1

pub returns-clause-rises : goal.returns-clause-rises
returns-clause-rises c = rw (← c.self.view_is) (done c).0

pub returns-clause-sound : goal.returns-clause-sound
returns-clause-sound c = (done c).1.sound
