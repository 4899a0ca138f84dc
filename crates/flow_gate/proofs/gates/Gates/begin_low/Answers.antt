use Rattle.flow_gate.proofs.Calls.{buffer_drained}
use Rattle.flow_gate.proofs.Reading.{marked_found}
use Rattle.flow_gate.proofs.gates.Gates.begin_low.Goals as goal
use Rattle.flow_gate.proofs.gates.Gates.begin_low.Goals.{After-self-2-1}
use Rattle.flow_gate.specs.Changes.{Drains}
use Rattle.flow_gate.specs.Parts.{AreGates, board_of}
use Rattle.std.proofs.Common.{ap, rules, sym, ◌∙◌}
use Rattle.std.proofs.lemmas.Bool.{false≢true}
use Rattle.std.specs.Option.{option_copied_mut}
use Rattle.std.specs.Prelude.{None}

pub unreachable-requires : goal.unreachable-requires
unreachable-requires c = false≢true
    (marked_found c.self.inside.flows c.self.inside.buffers c.args.buffer None (ap option_copied_mut (sym c.in_default.is) ∙ c.get_mut.ensures.value) ∙ (rw (← c.self.view_is) at c.requires.high))

done : (c : After-self-2-1) →
    Drains c.args.buffer (board_of c.self.inside.flows c.self.inside.buffers) (board_of c.self.inside.flows (c.get_mut.follows.lender c.drain.new.self)) × AreGates c.self.inside.flows (c.get_mut.follows.lender c.drain.new.self)
done c = buffer_drained c.args.buffer c.in-Some.gate.now c.drain.new.self c.self.inside.flows c.self.inside.buffers _ c.in-Some.ensures.value c.drain.ensures
    ((c.get_mut.follows.holds c.drain.new.self).1 (search rules)) (rw (← c.self.view_is) at c.requires.high) (rw (← c.self.view_is) at c.requires.told) c.self.invariant

pub invariant_of-self : goal.invariant_of-self
invariant_of-self c = (done c).1

pub returns-clause-drains : goal.returns-clause-drains
returns-clause-drains c = rw (← c.self.view_is) (done c).0

pub returns-clause-sound : goal.returns-clause-sound
returns-clause-sound c = (done c).1.sound
