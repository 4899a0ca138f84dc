use Rattle.std.proofs.Common.{◌<◌, ◌≤◌, ◌+◌, ◌++◌, [], ◌∷◌, length, sym, ap, ◌∙◌, subst, arith}
use Rattle.link_lists.specs.Lists.{contains_id, NodeLists}
use Rattle.scaled_timer.specs.declared.timers.Entry.{Entry}
use Rattle.scaled_timer.specs.Due.{Armed}
use Rattle.scaled_timer.specs.Timing.{Timing, has_timer}
use Rattle.scaled_timer.specs.Entries.{armed_of, Kept}
use Rattle.scaled_timer.proofs.Listed.{armed-push, has-armed, younger, Kept-armed}
use Rattle.scaled_timer.proofs.timers.Timers.arm_as.Goals as goal

pub invariant_of-self : goal.invariant_of-self
invariant_of-self g c = let i = c.self.inside in
    let m = i.kinds.ok.0 in let same = c.self.invariant.same in let asked = subst (λ (t : Timing). c.args.kind < length t.kinds) (sym c.self.view_is) c.requires.kind in
    let low : c.args.kind < length i.lists.lists = omega (arith, m, same, asked) in
    let after = subst (λ (t : Timing). t.latest ≤ c.args.now) (sym c.self.view_is) c.requires.later in let ages = c.self.invariant.ages in
    subst (λ (s : NodeLists Entry). Kept i.kinds.len i.state c.args.now (i.ages + 1) (i.count + 1) s.lists) (sym c.in-Ok.ensures.ok)
    (Kept-armed i.kinds.len i.state i.latest i.ages i.count i.lists.lists c.self.invariant c.args.kind c.in-Ok.node c.args.id c.args.now low after c.requires.now (omega (arith, ages)) c.in-Ok.ensures.fresh.0)

pub returns-in-Ok-clause-ok : goal.returns-in-Ok-clause-ok
returns-in-Ok-clause-ok g c = let i = c.self.inside in
    let m = i.kinds.ok.0 in let same = c.self.invariant.same in let asked = subst (λ (t : Timing). c.args.kind < length t.kinds) (sym c.self.view_is) c.requires.kind in
    let low : c.args.kind < length i.lists.lists = omega (arith, m, same, asked) in
    let kinds = ap (λ (t : Timing). t.kinds) c.self.view_is in let state = ap (λ (t : Timing). t.state) c.self.view_is in
    let last : Armed = record { timer = c.in-Ok.node; kind = c.args.kind; id = c.args.id; at = c.args.now } in
    let armed = ap (λ (s : NodeLists Entry). armed_of s.lists) c.in-Ok.ensures.ok ∙ armed-push c.args.kind (c.in-Ok.node, record { id = c.args.id; at = c.args.now; age = i.ages }) i.lists.lists low (younger i.kinds.len i.state i.latest i.ages i.count i.lists.lists c.self.invariant)
    ∙ ap (λ (t : Timing). t.armed ++ last ∷ []) c.self.view_is in
    let fired = ap (λ (s : NodeLists Entry). s.retired) c.in-Ok.ensures.ok ∙ ap (λ (t : Timing). t.fired) c.self.view_is in
    λ j. record { kinds = kinds j; state = state j; latest = c.args.now; armed = armed j; fired = fired j }

pub returns-in-Ok-clause-fresh : goal.returns-in-Ok-clause-fresh
returns-in-Ok-clause-fresh g c = let i = c.self.inside in let p = c.in-Ok.node in (
  ap (λ (t : Timing). has_timer p t.armed) (sym c.self.view_is) ∙ has-armed p i.lists.lists ∙ c.in-Ok.ensures.fresh.0,
  ap (λ (t : Timing). contains_id p t.fired) (sym c.self.view_is) ∙ c.in-Ok.ensures.fresh.1,
)
