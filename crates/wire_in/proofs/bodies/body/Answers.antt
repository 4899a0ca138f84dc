-- What comes behind the head enters a flow that goes on.
use Rattle.exchange_core.specs.Message.{head_came}
use Rattle.std.proofs.Common.{ap, ◌∙◌}
use Rattle.std.specs.Option.{option_map_or}
use Rattle.std.specs.Prelude.{false, not}
use Rattle.wire_flows.specs.Flows.{flow_in}
use Rattle.wire_state.specs.declared.wire_core.WireCore.{WireCore}
use Rattle.wire_in.proofs.bodies.body.Goals as goal

pub enter-requires-clause-goes_on : goal.enter-requires-clause-goes_on
enter-requires-clause-goes_on c =
    let going = λ (w : WireCore). option_map_or (λ f. not f.message.ended) (flow_in w.flows c.in-Some.course.flow) false in
    ap going c.fault_in.ensures.rest ∙ (ap going c.in_ok-ask_run.ensures.rest ∙ (ap going c.count-came.ensures.rest ∙ (c.awaits-awaited.ensures.body c.in_default-fault_in.ensures.behind).0))

pub enter-requires-clause-headed : goal.enter-requires-clause-headed
enter-requires-clause-headed c =
    let headed = λ (w : WireCore). option_map_or (λ f. head_came f.message) (flow_in w.flows c.in-Some.course.flow) false in
    ap headed c.fault_in.ensures.rest ∙ (ap headed c.in_ok-ask_run.ensures.rest ∙ (ap headed c.count-came.ensures.rest ∙ (c.awaits-awaited.ensures.body c.in_default-fault_in.ensures.behind).1))

pub returns-in-Some-fault_in-clause-octets : goal.returns-in-Some-fault_in-clause-octets
returns-in-Some-fault_in-clause-octets c = record {
  goes = λ h g start t.
      let asked = c.in_ok-ask_run.ensures.octets.goes h g start _ (c.count-came.ensures.octets.goes h g start c.args.notes.now t) in
      c.end.ensures.octets.goes h g start (c.fault_in.ensures.octets.goes h g start _ asked);
}

pub returns-clause-octets : goal.returns-clause-octets
returns-clause-octets c = record {
  goes = λ h g start t.
      let asked = c.in_ok-ask_run.ensures.octets.goes h g start _ (c.count-came.ensures.octets.goes h g start c.args.notes.now t) in
      let entered = c.in_ok-enter.ensures.octets.goes h g start (c.fault_in.ensures.octets.goes h g start _ asked) in
      let ended = c.in_ok-end_where.ensures.octets.goes h g start _ (c.in_ok-finish_where.ensures.octets.goes h g start _ entered) in
      c.refresh_where.ensures.octets.goes h g start _ ended;
}
