use Rattle.flow_gate.proofs.Reading.{pending_found, values-nil}
use Rattle.flow_gate.proofs.gates.Gates.has_pending.Goals as goal
use Rattle.std.proofs.Common.{ap, refl, sym, ◌∙◌}
use Rattle.std.specs.Prelude.{None, Some}
use Rattle.std.specs.Map.{values_of}

pub returns-in-Some : goal.returns-in-Some
returns-in-Some c = rw (← c.self.view_is) (
    let same = pending_found c.self.inside.flows c.self.inside.buffers c.args.buffer (Some c.in-Some.gate.now) c.in-Some.ensures.value in
    (λ h. sym same ∙ ap values_of (c.has_pending.ensures.0 h), λ h. c.has_pending.ensures.1 (values-nil c.in-Some.gate.now.pending (same ∙ h))))

pub returns-in-None : goal.returns-in-None
returns-in-None c = rw (← c.self.view_is) (λ h. sym (pending_found c.self.inside.flows c.self.inside.buffers c.args.buffer None c.in-None.ensures.value), λ h. refl)
