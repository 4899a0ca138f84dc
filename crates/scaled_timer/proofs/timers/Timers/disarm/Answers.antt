use Rattle.std.proofs.Common.{◌-◌, true≢false, sym, ap, ◌∙◌, subst, arith}
use Rattle.std.specs.Prelude.{◌||◌}
use Rattle.link_lists.specs.Lists.{contains_id, NodeLists}
use Rattle.scaled_timer.specs.declared.timers.Entry.{Entry}
use Rattle.scaled_timer.specs.Timing.{Timing, has_timer, without_timer}
use Rattle.scaled_timer.specs.Entries.{armed_of, Kept}
use Rattle.scaled_timer.proofs.Listed.{armed-pull, has-armed, held_some, Kept-pulled}
use Rattle.scaled_timer.proofs.timers.Timers.disarm.Goals as goal

pub is_in-requires : goal.is_in-requires
is_in-requires g c = let i = c.self.inside in let p = c.timer.inside.node in
    (λ j. sym (has-armed p i.lists.lists) j || contains_id p i.lists.retired) ∙ (λ j. has_timer (c.timer.view_is j) (c.self.view_is j).armed || contains_id (c.timer.view_is j) (c.self.view_is j).fired) ∙ c.requires

pub overflow_sub-self : goal.overflow_sub-self
overflow_sub-self g c = let i = c.self.inside in let some = held_some i.kinds.len i.state i.latest i.ages i.count i.lists.lists c.self.invariant c.timer.inside.node (sym c.is_in.ensures.listed ∙ c.if-is_in.true) in omega (arith, some)

pub invariant_of-self : goal.invariant_of-self
invariant_of-self g c = let i = c.self.inside in
    subst (λ (s : NodeLists Entry). Kept i.kinds.len i.state i.latest i.ages (i.count - 1) s.lists) (sym c.remove.ensures.left) (Kept-pulled i.kinds.len i.state i.latest i.ages i.count i.lists.lists c.self.invariant c.timer.inside.node (sym c.is_in.ensures.listed ∙ c.if-is_in.true))

pub returns-then-is_in-clause-armed : goal.returns-then-is_in-clause-armed
returns-then-is_in-clause-armed g c = λ _. let i = c.self.inside in let p = c.timer.inside.node in
    let kinds = ap (λ (t : Timing). t.kinds) c.self.view_is in let state = ap (λ (t : Timing). t.state) c.self.view_is in let latest = ap (λ (t : Timing). t.latest) c.self.view_is in
    let armed = ap (λ (s : NodeLists Entry). armed_of s.lists) c.remove.ensures.left ∙ armed-pull p i.lists.lists (sym c.is_in.ensures.listed ∙ c.if-is_in.true) c.self.invariant.named ∙ (λ j. without_timer (c.timer.view_is j) (c.self.view_is j).armed) in
    let fired = ap (λ (s : NodeLists Entry). s.retired) c.remove.ensures.left ∙ ap (λ (t : Timing). t.fired) c.self.view_is in
    λ j. record { kinds = kinds j; state = state j; latest = latest j; armed = armed j; fired = fired j }

pub returns-else-is_in-clause-armed : goal.returns-else-is_in-clause-armed
returns-else-is_in-clause-armed g c = λ t. let i = c.self.inside in let p = c.timer.inside.node in
    absurd (true≢false (sym t ∙ sym (λ j. has_timer (c.timer.view_is j) (c.self.view_is j).armed) ∙ has-armed p i.lists.lists ∙ sym c.is_in.ensures.listed ∙ c.if-is_in.false))
