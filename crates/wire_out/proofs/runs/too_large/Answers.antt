use Rattle.std.proofs.Common.{ap, arith, ◌∙◌}
use Rattle.wire_flows.specs.Flows.{is_live_in}
use Rattle.wire_state.proofs.Results.{ok_map}
use Rattle.wire_state.specs.declared.wire_core.WireCore.{WireCore}
use Rattle.wire_out.proofs.runs.too_large.Goals as goal

pub returns-clause-go : goal.returns-clause-go
returns-clause-go c =
    let asked = ap (λ (w : WireCore). is_live_in w.flows c.args.course.flow.exchange) c.in_ok-ask_drain.ensures.rest in
    let began = ap (λ (w : WireCore). is_live_in w.flows c.args.course.flow.exchange) c.in_ok-go_on.ensures.rest in
    ok_map c.doom.result (λ l. omega (arith, c.in_ok-go_on.ensures.go, c.in_ok-ask_drain.ensures.go, c.requires.top, l)) (c.doom.ensures.less (asked ∙ (began ∙ c.requires.live)))
