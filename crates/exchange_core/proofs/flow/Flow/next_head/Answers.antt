use Rattle.std.proofs.Common.{◌∙◌, ap, sym}
use Rattle.std.specs.Prelude.{if◌then◌else◌}
use Rattle.exchange_core.proofs.Ruled.{head_is}
use Rattle.exchange_core.proofs.flow.Flow.next_head.Goals as goal
use Rattle.exchange_core.specs.Kept.{flow_of}
use Rattle.flow_rules.specs.declared.unit.Unit.TheVariants.{Head, Nothing}

pub returns-then-head_may_go : goal.returns-then-head_may_go
returns-then-head_may_go c = rw (← c.self.view_is) (sym (ap (λ b. if b then Head (flow_of c.self.inside).message.head_ends else Nothing) (head_is (flow_of c.self.inside) c.self.invariant.sound ∙ (sym c.head_may_go.ensures ∙ c.if-head_may_go.true))))

pub returns-else-head_may_go : goal.returns-else-head_may_go
returns-else-head_may_go c = rw (← c.self.view_is) (sym (ap (λ b. if b then Head (flow_of c.self.inside).message.head_ends else Nothing) (head_is (flow_of c.self.inside) c.self.invariant.sound ∙ (sym c.head_may_go.ensures ∙ c.if-head_may_go.false))))
