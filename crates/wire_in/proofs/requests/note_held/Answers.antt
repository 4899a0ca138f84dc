use Rattle.flow_rules.specs.declared.ids.FlowId.{FlowId}
use Rattle.std.proofs.Common.{subst}
use Rattle.std.specs.Prelude.{Some, ◌++◌}
use Rattle.tape_laws.specs.Flows.{response}
use Rattle.wire_in.proofs.requests.note_held.Goals as goal
use Rattle.wire_state.proofs.Idle.{both_paid}
use Rattle.wire_state.specs.Noting.{hold_of}
use Rattle.wire_state.specs.Worlds.{Pays}

pub returns-clause-paid : goal.returns-clause-paid
returns-clause-paid c =
    let s = c.args.started in
    let to = c.args.to in
    let client = Some c.args.number in
    let both = both_paid {b = c.in_ok-note_hold.field-0} c.note_hold-2.result (hold_of c.request.result s.request_held to) (hold_of c.response.result s.response_held client) c.args.notes.now c.note_hold.new.notes c.note_hold-2.new.notes c.in_ok-note_hold.ensures.paid c.note_hold-2.ensures.paid in
    subst (λ (f : FlowId). Pays c.note_hold-2.result (hold_of f s.request_held to ++ hold_of (response s.exchange) s.response_held client) c.args.notes.now c.note_hold-2.new.notes) c.request.ensures
    (subst (λ (f : FlowId). Pays c.note_hold-2.result (hold_of c.request.result s.request_held to ++ hold_of f s.response_held client) c.args.notes.now c.note_hold-2.new.notes) c.response.ensures both)
