use Rattle.flow_gate.proofs.CallsEnds.{are_watches, flow_forgotten, forget_writes}
use Rattle.flow_gate.proofs.Reading.{open_found}
use Rattle.flow_gate.proofs.gates.Gates.forget.Goals as goal
use Rattle.flow_gate.specs.Parts.{AreWatches}
use Rattle.std.proofs.Common.{ap, subst, sym, ◌∙◌}
use Rattle.std.proofs.lemmas.Bool.{false≢true}
use Rattle.std.specs.Option.{is_some, option_copied}

pub unreachable-requires : goal.unreachable-requires
unreachable-requires c = false≢true
    (open_found c.self.inside.flows c.self.inside.buffers c.args.flow _ (ap is_some (ap option_copied (sym c.in_default.is) ∙ c.get.ensures.value)) ∙ (rw (← c.self.view_is) at c.requires))

pub invariant_of-self : goal.invariant_of-self
invariant_of-self c = (flow_forgotten c.args.flow c.self.inside.flows _ c.self.inside.buffers _ c.discard.ensures
    (forget_writes c.args.flow c.self.inside.buffers _ _ _ _
    (c.leave_each.ensures c.args.flow (subst (λ ws. AreWatches c.args.flow ws c.self.inside.buffers) (sym c.watches.ensures)
    (are_watches c.args.flow c.in-Some.watcher.now c.self.inside.flows c.self.inside.buffers c.in-Some.ensures.value c.self.invariant)))
    c.close_recv.ensures c.close_stages.ensures c.close_send.ensures) c.self.invariant).1

pub returns-clause-forgets : goal.returns-clause-forgets
returns-clause-forgets c = rw (← c.self.view_is) (flow_forgotten c.args.flow c.self.inside.flows _ c.self.inside.buffers _ c.discard.ensures
    (forget_writes c.args.flow c.self.inside.buffers _ _ _ _
    (c.leave_each.ensures c.args.flow (subst (λ ws. AreWatches c.args.flow ws c.self.inside.buffers) (sym c.watches.ensures)
    (are_watches c.args.flow c.in-Some.watcher.now c.self.inside.flows c.self.inside.buffers c.in-Some.ensures.value c.self.invariant)))
    c.close_recv.ensures c.close_stages.ensures c.close_send.ensures) c.self.invariant).0

pub returns-clause-sound : goal.returns-clause-sound
returns-clause-sound c = (flow_forgotten c.args.flow c.self.inside.flows _ c.self.inside.buffers _ c.discard.ensures
    (forget_writes c.args.flow c.self.inside.buffers _ _ _ _
    (c.leave_each.ensures c.args.flow (subst (λ ws. AreWatches c.args.flow ws c.self.inside.buffers) (sym c.watches.ensures)
    (are_watches c.args.flow c.in-Some.watcher.now c.self.inside.flows c.self.inside.buffers c.in-Some.ensures.value c.self.invariant)))
    c.close_recv.ensures c.close_stages.ensures c.close_send.ensures) c.self.invariant).1.sound
