use Rattle.std.proofs.Common.{ap, ◌∙◌, sym, subst, refl, arith}
use Rattle.post_queue.specs.declared.hand.Hand.{Hand}
use Rattle.post_queue.specs.Posts.{AreNumbered}
use Rattle.post_queue.proofs.Steps.{pops, learns, counts}
use Rattle.post_queue.proofs.post_box.PostBox.take_up_to.Goals as goal

pub pop_as-requires-clause-rule : goal.pop_as-requires-clause-rule
pop_as-requires-clause-rule g c = (pops _ _ c.loop.invariant.pass.1, learns _ _ c.loop.invariant.pass.1)

pub another-requires-clause-rule : goal.another-requires-clause-rule
another-requires-clause-rule g c = counts _ _ _ refl refl refl refl refl refl refl refl refl

pub another-requires-2-clause-rule : goal.another-requires-2-clause-rule
another-requires-2-clause-rule g c = counts _ _ _ refl refl refl refl refl refl refl refl refl

pub returns-in-None-clause-in_order : goal.returns-in-None-clause-in_order
returns-in-None-clause-in_order g c =
    let same = ap (λ (v : Hand). v.ran) c.another.ensures.rule.0 ∙ ap (λ (v : Hand). v.ran) c.in-None.ensures.rule.0 in
    subst AreNumbered (sym same) c.in-None.ensures.rule.1.1

pub returns-clause-in_order : goal.returns-clause-in_order
returns-clause-in_order g c =
    let same = ap (λ (v : Hand). v.ran) c.another-2.ensures.rule.0 in
    subst AreNumbered (sym same) (c.loop.invariant.in_order (omega (arith, c.loop-test.false)))
