use Rattle.std.proofs.Common.{ap, ◌∙◌, arith}
use Rattle.std.specs.Prelude.{max}
use Rattle.overload_core.specs.States.{state_of}
use Rattle.overload_core.proofs.Greatest.{after_own, after_foreign, at_end}
use Rattle.overload_core.proofs.actions.greatest.Goals as goal
use Rattle.overload_core.proofs.actions.greatest.Goals.{then-trigger-action, else-trigger-action}

pub loop-trigger-preserved : goal.loop-trigger-preserved
loop-trigger-preserved c =
    let ts = c.args.triggers.now in let ps = c.args.pressures.now in let a = c.args.action in let i = c.loop-trigger.trigger-index in let most = c.loop-trigger.most in
    let inv = c.loop-trigger.invariant in let few = inv.most in
    elim c.if-trigger-action.branch [
      | then-trigger-action w ↦
          let is = w.most-is ∙ w.max-most.ensures in let state = w.trigger_state.ensures.most in
          record {
            same = after_own ps a ts i most _ c.loop-trigger-test.true inv.same c.if-trigger-action.most w.if-trigger-action.true
                (is ∙ ap (max most) (w.trigger_state.ensures.state ∙ ap (state_of _) w.pressure_of.ensures));
            most = omega (arith, is, state, few);
          }
      | else-trigger-action w ↦
          let is = w.most-is in
          record {
            same = after_foreign ps a ts i most _ c.loop-trigger-test.true inv.same c.if-trigger-action.most w.if-trigger-action.false is;
            most = omega (arith, is, few);
          }
    ]

pub returns-clause-state : goal.returns-clause-state
returns-clause-state c = at_end c.args.pressures.now c.args.action c.args.triggers.now c.loop-trigger.trigger-index c.loop-trigger.most c.loop-trigger-test.false c.loop-trigger.invariant.same
