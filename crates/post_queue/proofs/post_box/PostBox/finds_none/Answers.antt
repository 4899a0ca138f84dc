use Rattle.std.proofs.Common.{◌+◌, ap, ◌∙◌, sym, subst, refl}
use Rattle.post_queue.specs.Posts.{AreNumbered}
use Rattle.post_queue.specs.declared.hand.Hand.{Hand}
use Rattle.post_queue.proofs.Steps.{learns, counts}
use Rattle.post_queue.proofs.post_box.PostBox.finds_none.Goals as goal

pub is_empty_as-requires-clause-rule : goal.is_empty_as-requires-clause-rule
is_empty_as-requires-clause-rule c = learns _ _ c.requires.pass.1

pub another-requires-clause-rule : goal.another-requires-clause-rule
another-requires-clause-rule c = counts _ _ _ refl refl refl refl refl refl refl refl refl

pub returns-then-is_empty_as-clause-in_order : goal.returns-then-is_empty_as-clause-in_order
returns-then-is_empty_as-clause-in_order c = λ _.
    let same = ap (λ (v : Hand). v.ran) c.another.ensures.rule.0 ∙ ap (λ (v : Hand). v.ran) c.is_empty_as.ensures.queue.2 in
    subst AreNumbered (sym same) (c.is_empty_as.ensures.rule c.if-is_empty_as.true).1

pub returns-then-is_empty_as-clause-pops : goal.returns-then-is_empty_as-clause-pops
returns-then-is_empty_as-clause-pops c = λ _. ap (λ (v : Hand). v.pops) c.another.ensures.rule.0 ∙ ap (λ (v : Hand). v.pops + 1) c.is_empty_as.ensures.queue.2

pub returns-then-is_empty_as-clause-drains : goal.returns-then-is_empty_as-clause-drains
returns-then-is_empty_as-clause-drains c = λ _. ap (λ (v : Hand). v.drains) c.another.ensures.rule.0 ∙ ap (λ (v : Hand). v.drains + 1) c.is_empty_as.ensures.queue.2
