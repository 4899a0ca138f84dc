use Rattle.exchange_core.proofs.Advancing.{absent_flow}
use Rattle.exchange_core.specs.Moves.{next_step, stepped}
use Rattle.std.proofs.Common.{ap, refl, sym, ◌∙◌}
use Rattle.std.specs.Option.{option_map_or}
use Rattle.std.specs.Prelude.{is_some}
use Rattle.wire_flows.proofs.Finishing.{absent, after_is, answer_is, err_of, may_step, same_leaves, step_is, step_leaves}
use Rattle.wire_flows.proofs.flows.WireFlows.step.Goals as goal
use Rattle.wire_flows.specs.Flows.{flow_in, flows_of, goes_to}
use Rattle.wire_flows.specs.Moves.{outcome_of}
use Rattle.wire_flows.specs.declared.moving.Outcome.TheVariants as outcome

-- ---- the flow isn't live
pub returns-then-not-has_flow-clause-outcome : goal.returns-then-not-has_flow-clause-outcome
returns-then-not-has_flow-clause-outcome c = rw (← c.self.view_is) (sym (ap (λ o. option_map_or (λ f. outcome_of c.args.flow f (next_step c.self.inside.gates (goes_to (flows_of c.self.inside) c.args.flow) f)) o outcome.Still) (absent (flow_in (flows_of c.self.inside) c.args.flow) c.has_flow.result c.if-not-has_flow.true c.has_flow.ensures.1)))

pub returns-then-not-has_flow-clause-flow : goal.returns-then-not-has_flow-clause-flow
returns-then-not-has_flow-clause-flow c = rw (← c.self.view_is) (absent_flow c.args.flow (stepped c.self.inside.gates (goes_to (flows_of c.self.inside) c.args.flow)) c.self.inside.exchanges c.self.inside.exchanges (absent (flow_in (flows_of c.self.inside) c.args.flow) c.has_flow.result c.if-not-has_flow.true c.has_flow.ensures.1) refl)

pub returns-then-not-has_flow-clause-live : goal.returns-then-not-has_flow-clause-live
returns-then-not-has_flow-clause-live c = rw (← c.self.view_is) (same_leaves c.args.flow (flows_of c.self.inside) c.self.inside.exchanges c.self.invariant refl).live

pub returns-then-not-has_flow-clause-left : goal.returns-then-not-has_flow-clause-left
returns-then-not-has_flow-clause-left c = rw (← c.self.view_is) (same_leaves c.args.flow (flows_of c.self.inside) c.self.inside.exchanges c.self.invariant refl).left

pub returns-then-not-has_flow-clause-enough : goal.returns-then-not-has_flow-clause-enough
returns-then-not-has_flow-clause-enough c = rw (← c.self.view_is) (same_leaves c.args.flow (flows_of c.self.inside) c.self.inside.exchanges c.self.invariant refl).enough

pub returns-then-not-has_flow-clause-time : goal.returns-then-not-has_flow-clause-time
returns-then-not-has_flow-clause-time c = rw (← c.self.view_is) (same_leaves c.args.flow (flows_of c.self.inside) c.self.inside.exchanges c.self.invariant refl).time

pub returns-then-not-has_flow-clause-writes : goal.returns-then-not-has_flow-clause-writes
returns-then-not-has_flow-clause-writes c = rw (← c.self.view_is) (same_leaves c.args.flow (flows_of c.self.inside) c.self.inside.exchanges c.self.invariant refl).writes

pub returns-then-not-has_flow-clause-lows : goal.returns-then-not-has_flow-clause-lows
returns-then-not-has_flow-clause-lows c = rw (← c.self.view_is) (same_leaves c.args.flow (flows_of c.self.inside) c.self.inside.exchanges c.self.invariant refl).lows

pub returns-then-not-has_flow-clause-less : goal.returns-then-not-has_flow-clause-less
returns-then-not-has_flow-clause-less c = rw (← c.self.view_is) (same_leaves c.args.flow (flows_of c.self.inside) c.self.inside.exchanges c.self.invariant refl).less

pub returns-then-not-has_flow-clause-sound : goal.returns-then-not-has_flow-clause-sound
returns-then-not-has_flow-clause-sound c = rw (← c.self.view_is) c.self.invariant

-- ---- out of memory
pub invariant_of-self : goal.invariant_of-self
invariant_of-self c = (same_leaves c.args.flow (flows_of c.self.inside) c.step.new.self c.self.invariant (c.in_err-step.ensures {u = tt}).err).sound

pub returns-in_err-step-clause-live : goal.returns-in_err-step-clause-live
returns-in_err-step-clause-live c = rw (← c.self.view_is) (same_leaves c.args.flow (flows_of c.self.inside) c.step.new.self c.self.invariant (c.in_err-step.ensures {u = tt}).err).live

pub returns-in_err-step-clause-time : goal.returns-in_err-step-clause-time
returns-in_err-step-clause-time c = rw (← c.self.view_is) (same_leaves c.args.flow (flows_of c.self.inside) c.step.new.self c.self.invariant (c.in_err-step.ensures {u = tt}).err).time

pub returns-in_err-step-clause-writes : goal.returns-in_err-step-clause-writes
returns-in_err-step-clause-writes c = rw (← c.self.view_is) (same_leaves c.args.flow (flows_of c.self.inside) c.step.new.self c.self.invariant (c.in_err-step.ensures {u = tt}).err).writes

pub returns-in_err-step-clause-sound : goal.returns-in_err-step-clause-sound
returns-in_err-step-clause-sound c = (same_leaves c.args.flow (flows_of c.self.inside) c.step.new.self c.self.invariant (c.in_err-step.ensures {u = tt}).err).sound

pub returns-in_err-step-clause-err : goal.returns-in_err-step-clause-err
returns-in_err-step-clause-err c = rw (← c.self.view_is) (err_of (flows_of c.self.inside) c.step.new.self c.from_residual.result (c.in_err-step.ensures {u = tt}).err)

-- ---- a step
pub step-requires-clause-live : goal.step-requires-clause-live
step-requires-clause-live c = c.has_flow.ensures.0 c.if-not-has_flow.false

pub step-requires-clause-open : goal.step-requires-clause-open
step-requires-clause-open c = c.self.invariant.there c.args.flow ∙ c.has_flow.ensures.0 c.if-not-has_flow.false

pub mark_step-requires-clause-sound : goal.mark_step-requires-clause-sound
mark_step-requires-clause-sound c = c.self.invariant.gates

pub mark_step-requires-clause-kept : goal.mark_step-requires-clause-kept
mark_step-requires-clause-kept c = c.step.ensures.sound

pub mark_step-requires-clause-live : goal.mark_step-requires-clause-live
mark_step-requires-clause-live c = let t = step_is (next_step c.self.inside.gates (goes_to (flows_of c.self.inside) c.args.flow)) c.in_ok-step.step (flow_in (flows_of c.self.inside) c.args.flow) (c.in_ok-step.ensures {u = tt}).step in
    ap is_some (after_is c.args.flow (flows_of c.self.inside) c.step.new.self c.self.invariant t.flow t.found c.step.ensures.sound (c.in_ok-step.ensures {u = tt}).flow)

pub mark_step-requires-clause-may : goal.mark_step-requires-clause-may
mark_step-requires-clause-may c = let t = step_is (next_step c.self.inside.gates (goes_to (flows_of c.self.inside) c.args.flow)) c.in_ok-step.step (flow_in (flows_of c.self.inside) c.args.flow) (c.in_ok-step.ensures {u = tt}).step in
    may_step c.args.flow (flows_of c.self.inside) c.step.new.self c.self.invariant t.flow t.found c.step.ensures.sound (c.in_ok-step.ensures {u = tt}).flow c.in_ok-step.step t.is

pub invariant_of-self-2 : goal.invariant_of-self-2
invariant_of-self-2 c = let t = step_is (next_step c.self.inside.gates (goes_to (flows_of c.self.inside) c.args.flow)) c.in_ok-step.step (flow_in (flows_of c.self.inside) c.args.flow) (c.in_ok-step.ensures {u = tt}).step in
    (step_leaves c.args.flow (flows_of c.self.inside) c.step.new.self c.self.invariant t.flow t.found c.step.ensures.sound (c.in_ok-step.ensures {u = tt}).flow c.in_ok-step.step c.mark_step.result c.mark_step.new.gates c.mark_step.ensures.sound t.is c.mark_step.ensures.answer c.mark_step.ensures.crosses).sound

pub returns-clause-outcome : goal.returns-clause-outcome
returns-clause-outcome c = let t = step_is (next_step c.self.inside.gates (goes_to (flows_of c.self.inside) c.args.flow)) c.in_ok-step.step (flow_in (flows_of c.self.inside) c.args.flow) (c.in_ok-step.ensures {u = tt}).step in
    rw (← c.self.view_is) (answer_is c.args.flow (flows_of c.self.inside) c.step.new.self c.self.invariant t.flow t.found c.step.ensures.sound (c.in_ok-step.ensures {u = tt}).flow c.in_ok-step.step c.mark_step.result t.is c.mark_step.ensures.answer
    ∙ (ap (outcome_of c.args.flow t.flow) (sym t.is)
    ∙ sym (ap (λ o. option_map_or (λ f. outcome_of c.args.flow f (next_step c.self.inside.gates (goes_to (flows_of c.self.inside) c.args.flow) f)) o outcome.Still) t.found)))

pub returns-clause-flow : goal.returns-clause-flow
returns-clause-flow c = rw (← c.self.view_is) (c.in_ok-step.ensures {u = tt}).flow

pub returns-clause-moves : goal.returns-clause-moves
returns-clause-moves c = let t = step_is (next_step c.self.inside.gates (goes_to (flows_of c.self.inside) c.args.flow)) c.in_ok-step.step (flow_in (flows_of c.self.inside) c.args.flow) (c.in_ok-step.ensures {u = tt}).step in
    (step_leaves c.args.flow (flows_of c.self.inside) c.step.new.self c.self.invariant t.flow t.found c.step.ensures.sound (c.in_ok-step.ensures {u = tt}).flow c.in_ok-step.step c.mark_step.result c.mark_step.new.gates c.mark_step.ensures.sound t.is c.mark_step.ensures.answer c.mark_step.ensures.crosses).moves

pub returns-clause-live : goal.returns-clause-live
returns-clause-live c = let t = step_is (next_step c.self.inside.gates (goes_to (flows_of c.self.inside) c.args.flow)) c.in_ok-step.step (flow_in (flows_of c.self.inside) c.args.flow) (c.in_ok-step.ensures {u = tt}).step in
    rw (← c.self.view_is) (step_leaves c.args.flow (flows_of c.self.inside) c.step.new.self c.self.invariant t.flow t.found c.step.ensures.sound (c.in_ok-step.ensures {u = tt}).flow c.in_ok-step.step c.mark_step.result c.mark_step.new.gates c.mark_step.ensures.sound t.is c.mark_step.ensures.answer c.mark_step.ensures.crosses).live

pub returns-clause-left : goal.returns-clause-left
returns-clause-left c = let t = step_is (next_step c.self.inside.gates (goes_to (flows_of c.self.inside) c.args.flow)) c.in_ok-step.step (flow_in (flows_of c.self.inside) c.args.flow) (c.in_ok-step.ensures {u = tt}).step in
    rw (← c.self.view_is) (step_leaves c.args.flow (flows_of c.self.inside) c.step.new.self c.self.invariant t.flow t.found c.step.ensures.sound (c.in_ok-step.ensures {u = tt}).flow c.in_ok-step.step c.mark_step.result c.mark_step.new.gates c.mark_step.ensures.sound t.is c.mark_step.ensures.answer c.mark_step.ensures.crosses).left

pub returns-clause-enough : goal.returns-clause-enough
returns-clause-enough c = let t = step_is (next_step c.self.inside.gates (goes_to (flows_of c.self.inside) c.args.flow)) c.in_ok-step.step (flow_in (flows_of c.self.inside) c.args.flow) (c.in_ok-step.ensures {u = tt}).step in
    rw (← c.self.view_is) (step_leaves c.args.flow (flows_of c.self.inside) c.step.new.self c.self.invariant t.flow t.found c.step.ensures.sound (c.in_ok-step.ensures {u = tt}).flow c.in_ok-step.step c.mark_step.result c.mark_step.new.gates c.mark_step.ensures.sound t.is c.mark_step.ensures.answer c.mark_step.ensures.crosses).enough

pub returns-clause-time : goal.returns-clause-time
returns-clause-time c = let t = step_is (next_step c.self.inside.gates (goes_to (flows_of c.self.inside) c.args.flow)) c.in_ok-step.step (flow_in (flows_of c.self.inside) c.args.flow) (c.in_ok-step.ensures {u = tt}).step in
    rw (← c.self.view_is) (step_leaves c.args.flow (flows_of c.self.inside) c.step.new.self c.self.invariant t.flow t.found c.step.ensures.sound (c.in_ok-step.ensures {u = tt}).flow c.in_ok-step.step c.mark_step.result c.mark_step.new.gates c.mark_step.ensures.sound t.is c.mark_step.ensures.answer c.mark_step.ensures.crosses).time

pub returns-clause-writes : goal.returns-clause-writes
returns-clause-writes c = let t = step_is (next_step c.self.inside.gates (goes_to (flows_of c.self.inside) c.args.flow)) c.in_ok-step.step (flow_in (flows_of c.self.inside) c.args.flow) (c.in_ok-step.ensures {u = tt}).step in
    rw (← c.self.view_is) (step_leaves c.args.flow (flows_of c.self.inside) c.step.new.self c.self.invariant t.flow t.found c.step.ensures.sound (c.in_ok-step.ensures {u = tt}).flow c.in_ok-step.step c.mark_step.result c.mark_step.new.gates c.mark_step.ensures.sound t.is c.mark_step.ensures.answer c.mark_step.ensures.crosses).writes

pub returns-clause-lows : goal.returns-clause-lows
returns-clause-lows c = let t = step_is (next_step c.self.inside.gates (goes_to (flows_of c.self.inside) c.args.flow)) c.in_ok-step.step (flow_in (flows_of c.self.inside) c.args.flow) (c.in_ok-step.ensures {u = tt}).step in
    rw (← c.self.view_is) (step_leaves c.args.flow (flows_of c.self.inside) c.step.new.self c.self.invariant t.flow t.found c.step.ensures.sound (c.in_ok-step.ensures {u = tt}).flow c.in_ok-step.step c.mark_step.result c.mark_step.new.gates c.mark_step.ensures.sound t.is c.mark_step.ensures.answer c.mark_step.ensures.crosses).lows

pub returns-clause-less : goal.returns-clause-less
returns-clause-less c = let t = step_is (next_step c.self.inside.gates (goes_to (flows_of c.self.inside) c.args.flow)) c.in_ok-step.step (flow_in (flows_of c.self.inside) c.args.flow) (c.in_ok-step.ensures {u = tt}).step in
    rw (← c.self.view_is) (step_leaves c.args.flow (flows_of c.self.inside) c.step.new.self c.self.invariant t.flow t.found c.step.ensures.sound (c.in_ok-step.ensures {u = tt}).flow c.in_ok-step.step c.mark_step.result c.mark_step.new.gates c.mark_step.ensures.sound t.is c.mark_step.ensures.answer c.mark_step.ensures.crosses).less

pub returns-clause-sound : goal.returns-clause-sound
returns-clause-sound c = let t = step_is (next_step c.self.inside.gates (goes_to (flows_of c.self.inside) c.args.flow)) c.in_ok-step.step (flow_in (flows_of c.self.inside) c.args.flow) (c.in_ok-step.ensures {u = tt}).step in
    (step_leaves c.args.flow (flows_of c.self.inside) c.step.new.self c.self.invariant t.flow t.found c.step.ensures.sound (c.in_ok-step.ensures {u = tt}).flow c.in_ok-step.step c.mark_step.result c.mark_step.new.gates c.mark_step.ensures.sound t.is c.mark_step.ensures.answer c.mark_step.ensures.crosses).sound
