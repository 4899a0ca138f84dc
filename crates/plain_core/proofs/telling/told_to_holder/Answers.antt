-- The flows that are to be told, up to the first whose receive buffer holds octets.
use Rattle.flow_rules.specs.declared.ids.FlowId.{FlowId}
use Rattle.std.proofs.Common.{ap, append_assoc, arith, sym, ◌∙◌}
use Rattle.std.proofs.lemmas.List.{length-append}
use Rattle.std.specs.Prelude.{List, [], false, ◌++◌, ◌∷◌}
use Rattle.plain_core.proofs.FlowTells.{wakes_unheld}
use Rattle.plain_core.proofs.Resumes.{all_more, next_wakes}
use Rattle.plain_core.specs.Carries.{Wakes}
use Rattle.plain_core.proofs.telling.told_to_holder.Goals as goal

pub returns-then-holds_past : goal.returns-then-holds_past
returns-then-holds_past c =
    next_wakes c.args.flows.now c.loop-flow.yielded c.in-Some.flow c.next.new.self c.loop-flow.n
    (ap (λ (fs : List FlowId). c.loop-flow.yielded ++ fs) (sym c.in-Some.ensures.steps) ∙ c.loop-flow.invariant.all) c.loop-flow.invariant.stay c.loop-flow.invariant.number

pub loop-flow-preserved : goal.loop-flow-preserved
loop-flow-preserved c =
    let fs = c.loop-flow.yielded in
    let f = c.in-Some.flow in
    let is = c.loop-flow.invariant.number in
    let l = length-append fs (f ∷ []) in
    record {
      all = append_assoc fs (f ∷ []) c.next.new.self ∙ (ap (λ (gs : List FlowId). fs ++ gs) (sym c.in-Some.ensures.steps) ∙ c.loop-flow.invariant.all);
      number = omega (arith, is, l);
      stay = all_more (λ g. Wakes c.args.flows.now g.exchange false) fs f c.loop-flow.invariant.stay (wakes_unheld c.args.flows.now f.exchange (rw (← c.if-holds_past.false) c.holds_past.ensures.holds));
      gap = c.holds_past.ensures.gap;
    }
