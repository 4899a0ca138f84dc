use Rattle.std.proofs.Common.{◌-◌, inl, inr, List, length, vec_len, sym, ap, ◌∙◌, subst, arith}
use Rattle.scaled_timer.specs.declared.timers.TimerKind.{TimerKind}
use Rattle.scaled_timer.specs.Timing.{Timing}
use Rattle.scaled_timer.specs.Entries.{Kept}
use Rattle.scaled_timer.specs.Merge.{HasFronts}
use Rattle.scaled_timer.proofs.Listed.{fronts-early, Kept-later, length-armed}
use Rattle.scaled_timer.proofs.Firing.{nothing}
use Rattle.scaled_timer.proofs.timers.Timers.turn.Goals as goal

pub due_fronts-requires-clause-early : goal.due_fronts-requires-clause-early
due_fronts-requires-clause-early c = let i = c.self.inside in fronts-early i.kinds.len i.state i.latest i.ages i.count i.lists.lists c.self.invariant

pub fire_all-fired-requires-clause-room : goal.fire_all-fired-requires-clause-room
fire_all-fired-requires-clause-room c =
    let i = c.self.inside in let kinds = c.deref-2.result.now in let fs = c.in_ok-queue.queue.fronts in
    let kept = subst (λ n. Kept n i.state i.latest i.ages i.count i.lists.lists) (sym c.deref-2.ensures.len) c.self.invariant in
    let has = subst (λ (ks : List TimerKind). HasFronts ks i.state c.args.now i.lists.lists (length ks) fs) (c.deref.ensures.value ∙ sym c.deref-2.ensures.value) c.in_ok-queue.ensures in
    let seen = ap (λ (t : Timing). length t.armed) c.self.view_is in
    elim c.in_ok-room.ensures.room [
      | inl e ↦ inl (nothing kinds i.state c.args.now i.lists.lists fs (record { latest = i.latest; drawn = i.ages; held = i.count; kept = kept }) has e)
      | inr l ↦ inr (omega (arith, l, seen))
    ]

pub overflow_sub-self : goal.overflow_sub-self
overflow_sub-self c =
    let i = c.self.inside in let all = length-armed i.lists.lists in let count = c.self.invariant.count in
    omega (arith, all, count, c.fire_all-fired.ensures.left, c.len.ensures)

pub invariant_of-self : goal.invariant_of-self
invariant_of-self c =
    let i = c.self.inside in
    let kept = subst (λ n. Kept n i.state i.latest i.ages i.count i.lists.lists) (sym c.deref-2.ensures.len) c.self.invariant in
    let left = subst (λ n. Kept n i.state i.latest i.ages (i.count - vec_len c.fire_all-fired.result) c.fire_all-fired.new.lists.lists) c.deref-2.ensures.len (c.fire_all-fired.ensures.kept.kept i.latest i.ages i.count kept) in
    let was = ap (λ (t : Timing). t.latest) c.self.view_is in let later = c.requires.later in
    subst (λ n. Kept i.kinds.len i.state c.args.now i.ages (i.count - n) c.fire_all-fired.new.lists.lists) (sym c.len.ensures)
    (Kept-later i.kinds.len i.state i.latest i.ages (i.count - vec_len c.fire_all-fired.result) c.fire_all-fired.new.lists.lists left c.args.now (omega (arith, was, later)) c.requires.now)
