use Rattle.exchange_core.proofs.Outcomes.{if_ok}
use Rattle.exchange_core.specs.Changes.{Starts}
use Rattle.flow_gate.specs.Board.{is_open as is_there, times, watchers_of}
use Rattle.std.proofs.Common.{ap, subst, ◌∙◌}
use Rattle.tape_laws.specs.Flows.{request}
use Rattle.flow_rules.specs.declared.ids.BufferId.TheVariants as buffer
use Rattle.plain_core.proofs.FlowBegins.{begins, shut, unwatched}
use Rattle.plain_core.proofs.flows.Flows.begin.Goals as goal
use Rattle.exchange_core.specs.Changes.{number_for}

pub open_flow-requires : goal.open_flow-requires
open_flow-requires c =
    let number = (c.in_ok-exchange.ensures {u = tt}).number ∙ ap (λ s. number_for s c.args.self.now.exchanges) c.spec-spec.ensures in
    let flow = c.request-flow.ensures ∙ ap request number in
    ap (is_there c.args.self.now.gates) flow ∙ shut c.args.stream c.args.self.now c.requires.settled c.requires.rises

pub watch-requires-2-clause-apart : goal.watch-requires-2-clause-apart
watch-requires-2-clause-apart c =
    let number = (c.in_ok-exchange.ensures {u = tt}).number ∙ ap (λ s. number_for s c.args.self.now.exchanges) c.spec-spec.ensures in
    let flow = c.request-flow.ensures ∙ ap request number in
    let old = c.args.self.now in
    ap (λ f. times f (watchers_of c.watch.new.self (buffer.Write 0))) flow
    ∙ unwatched c.args.stream old c.open_flow.new.self c.open_buffer.new.self c.watch.new.self c.requires.settled c.requires.rises
    (rw (← flow) (c.in_ok-open_flow.ensures {u = tt}).ok)
    (rw (← flow) (c.in_ok-open_buffer.ensures {u = tt}).ok)
    (rw (← flow) (c.in_ok-_low.ensures {u = tt}).ok)

pub returns : goal.returns
returns c =
    let number = (c.in_ok-exchange.ensures {u = tt}).number ∙ ap (λ s. number_for s c.args.self.now.exchanges) c.spec-spec.ensures in
    let flow = c.request-flow.ensures ∙ ap request number in
    let old = c.args.self.now in
    let starts = subst (λ s. Starts c.args.stream s c.args.config.now old.exchanges c.start.new.self) c.spec-spec.ensures
    (rw (← number) (c.in_ok-exchange.ensures {u = tt}).starts) in
    if_ok _ _ _ c.watch-2.result c.watch-2.ensures.ok c.watch-2.ensures.answer (λ held watches is.
    begins c.args.stream held old c.args.config.now c.start.new.self c.open_flow.new.self c.open_buffer.new.self c.watch.new.self c.watch-2.new.self c.requires.rises c.ranges.stream.fits
    starts c.start.ensures.sound
    (rw (← flow) (c.in_ok-open_flow.ensures {u = tt}).ok)
    (rw (← flow) (c.in_ok-open_buffer.ensures {u = tt}).ok)
    (rw (← flow) (c.in_ok-_low.ensures {u = tt}).ok)
    (rw (← flow) watches) c.watch-2.ensures.sound is)
