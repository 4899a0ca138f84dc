use Rattle.exchange_core.specs.Exchange.{filters_of, flow_id, side_filters}
use Rattle.flow_gate.specs.Changes.{Forgets}
use Rattle.flow_rules.specs.declared.ids.FlowId.{FlowId}
use Rattle.std.proofs.Common.{ap, subst, sym, ◌∙◌}
use Rattle.std.specs.Prelude.{Some, false, true}
use Rattle.wire_flows.proofs.Opening.{both_begin, request_back, response_fresh}
use Rattle.wire_flows.proofs.starting.begin_both.Goals as goal
use Rattle.wire_flows.specs.Begins.{BeginsFlow, IsFresh, watches_from}

pub begin-requires-2-clause-fresh : goal.begin-requires-2-clause-fresh
begin-requires-2-clause-fresh c = let one : BeginsFlow (flow_id c.args.exchange false) (watches_from (flow_id c.args.exchange false) (filters_of (side_filters false) c.args.spec.now.row c.args.config.now) c.args.spec.now.to_conn) c.args.spec.now.to_conn c.args.gates.now c.begin.new.gates =
    subst (λ fs. BeginsFlow (flow_id c.args.exchange false) (watches_from (flow_id c.args.exchange false) fs c.args.spec.now.to_conn) c.args.spec.now.to_conn c.args.gates.now c.begin.new.gates) (c.filters_of-filters.ensures.filters ∙ ap (λ (f : FlowId). filters_of (side_filters f.back) c.args.spec.now.row c.args.config.now) c.request-request.ensures)
    (subst (λ f. BeginsFlow f (watches_from f c.filters_of-filters.result.now c.args.spec.now.to_conn) c.args.spec.now.to_conn c.args.gates.now c.begin.new.gates) c.request-request.ensures (c.in_ok-request_held.ensures {u = tt}).ok) in
    subst (λ f. IsFresh f c.begin.new.gates) (sym c.response-response.ensures) (response_fresh c.args.exchange (watches_from (flow_id c.args.exchange false) (filters_of (side_filters false) c.args.spec.now.row c.args.config.now) c.args.spec.now.to_conn) c.args.spec.now.to_conn c.args.gates.now c.begin.new.gates one (c.requires.fresh true))

pub returns-in-Ok-clause-ok : goal.returns-in-Ok-clause-ok
returns-in-Ok-clause-ok c = let one : BeginsFlow (flow_id c.args.exchange false) (watches_from (flow_id c.args.exchange false) (filters_of (side_filters false) c.args.spec.now.row c.args.config.now) c.args.spec.now.to_conn) c.args.spec.now.to_conn c.args.gates.now c.begin.new.gates =
    subst (λ fs. BeginsFlow (flow_id c.args.exchange false) (watches_from (flow_id c.args.exchange false) fs c.args.spec.now.to_conn) c.args.spec.now.to_conn c.args.gates.now c.begin.new.gates) (c.filters_of-filters.ensures.filters ∙ ap (λ (f : FlowId). filters_of (side_filters f.back) c.args.spec.now.row c.args.config.now) c.request-request.ensures)
    (subst (λ f. BeginsFlow f (watches_from f c.filters_of-filters.result.now c.args.spec.now.to_conn) c.args.spec.now.to_conn c.args.gates.now c.begin.new.gates) c.request-request.ensures (c.in_ok-request_held.ensures {u = tt}).ok) in
    let two : BeginsFlow (flow_id c.args.exchange true) (watches_from (flow_id c.args.exchange true) (filters_of (side_filters true) c.args.spec.now.row c.args.config.now) (Some c.args.spec.now.from_conn)) (Some c.args.spec.now.from_conn) c.begin.new.gates c.begin-2.new.gates =
    subst (λ fs. BeginsFlow (flow_id c.args.exchange true) (watches_from (flow_id c.args.exchange true) fs (Some c.args.spec.now.from_conn)) (Some c.args.spec.now.from_conn) c.begin.new.gates c.begin-2.new.gates) (c.filters_of-filters-2.ensures.filters ∙ ap (λ (f : FlowId). filters_of (side_filters f.back) c.args.spec.now.row c.args.config.now) c.response-response.ensures)
    (subst (λ f. BeginsFlow f (watches_from f c.filters_of-filters-2.result.now (Some c.args.spec.now.from_conn)) (Some c.args.spec.now.from_conn) c.begin.new.gates c.begin-2.new.gates) c.response-response.ensures (c.in-Ok.ensures {u = tt}).ok) in
    both_begin c.args.exchange (watches_from (flow_id c.args.exchange false) (filters_of (side_filters false) c.args.spec.now.row c.args.config.now) c.args.spec.now.to_conn) c.args.spec.now.to_conn c.args.gates.now c.begin.new.gates one _ c.args.spec.now.from_conn c.begin-2.new.gates c.begin.ensures.sound two

pub returns-in-Err-clause-err : goal.returns-in-Err-clause-err
returns-in-Err-clause-err c = let one : BeginsFlow (flow_id c.args.exchange false) (watches_from (flow_id c.args.exchange false) (filters_of (side_filters false) c.args.spec.now.row c.args.config.now) c.args.spec.now.to_conn) c.args.spec.now.to_conn c.args.gates.now c.begin.new.gates =
    subst (λ fs. BeginsFlow (flow_id c.args.exchange false) (watches_from (flow_id c.args.exchange false) fs c.args.spec.now.to_conn) c.args.spec.now.to_conn c.args.gates.now c.begin.new.gates) (c.filters_of-filters.ensures.filters ∙ ap (λ (f : FlowId). filters_of (side_filters f.back) c.args.spec.now.row c.args.config.now) c.request-request.ensures)
    (subst (λ f. BeginsFlow f (watches_from f c.filters_of-filters.result.now c.args.spec.now.to_conn) c.args.spec.now.to_conn c.args.gates.now c.begin.new.gates) c.request-request.ensures (c.in_ok-request_held.ensures {u = tt}).ok) in
    request_back c.args.exchange (watches_from (flow_id c.args.exchange false) (filters_of (side_filters false) c.args.spec.now.row c.args.config.now) c.args.spec.now.to_conn) c.args.spec.now.to_conn c.args.gates.now c.begin.new.gates one c.begin-2.new.gates c.forget.new.self (c.in-Err.ensures {u = tt}).err
    (subst (λ f. Forgets f c.begin-2.new.gates c.forget.new.self) c.request-request.ensures c.forget.ensures.forgets) (c.requires.new false) (c.requires.fresh false) c.requires.sound
