use Rattle.flow_gate.proofs.Calls.{low_taken, taken_none}
use Rattle.flow_gate.proofs.Reading.{pending_found}
use Rattle.flow_gate.proofs.gates.Gates.next_low.Goals as goal
use Rattle.std.proofs.Common.{ap, rules, sym}
use Rattle.std.specs.Option.{is_some}
use Rattle.std.specs.Prelude.{None}

-- the buffer isn't known
pub returns-in_err-get_mut-clause-none : goal.returns-in_err-get_mut-clause-none
returns-in_err-get_mut-clause-none c =
    rw (← c.self.view_is) (λ h. sym (pending_found c.self.inside.flows c.self.inside.buffers c.args.buffer None c.in_err-get_mut.ensures.value), λ h. ap is_some c.from_residual.ensures)

-- what its gate answers
pub invariant_of-self-2 : goal.invariant_of-self-2
invariant_of-self-2 c = (low_taken c.args.buffer c.in_ok-get_mut.field-0.now c.tell.new.self c.tell.result c.self.inside.flows c.self.inside.buffers _ c.in_ok-get_mut.ensures.value c.tell.ensures.first c.tell.ensures.rest
    ((c.get_mut.follows.holds c.tell.new.self).1 (search rules)) c.self.invariant).1

pub returns-clause-none : goal.returns-clause-none
returns-clause-none c = rw (← c.self.view_is) (taken_none c.args.buffer c.in_ok-get_mut.field-0.now c.tell.result c.self.inside.flows c.self.inside.buffers c.in_ok-get_mut.ensures.value c.tell.ensures.first)

pub returns-clause-tells : goal.returns-clause-tells
returns-clause-tells c = rw (← c.self.view_is) (low_taken c.args.buffer c.in_ok-get_mut.field-0.now c.tell.new.self c.tell.result c.self.inside.flows c.self.inside.buffers _ c.in_ok-get_mut.ensures.value c.tell.ensures.first c.tell.ensures.rest
    ((c.get_mut.follows.holds c.tell.new.self).1 (search rules)) c.self.invariant).0

pub returns-clause-sound : goal.returns-clause-sound
returns-clause-sound c = (low_taken c.args.buffer c.in_ok-get_mut.field-0.now c.tell.new.self c.tell.result c.self.inside.flows c.self.inside.buffers _ c.in_ok-get_mut.ensures.value c.tell.ensures.first c.tell.ensures.rest
    ((c.get_mut.follows.holds c.tell.new.self).1 (search rules)) c.self.invariant).1.sound
