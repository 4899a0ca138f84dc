use Rattle.std.proofs.Common.{◌+◌, sym, subst}
use Rattle.scaled_timer.specs.Queue.{Queued}
use Rattle.scaled_timer.specs.Merge.{HasFronts}
use Rattle.scaled_timer.proofs.Merging.{none_more, one_more}
use Rattle.scaled_timer.proofs.merge.due_fronts.Goals as goal
use Rattle.scaled_timer.proofs.merge.due_fronts.Goals.{in-Some+in_ok-insert, in_default}

pub loop-kind-preserved : goal.loop-kind-preserved
loop-kind-preserved c =
    let kinds = c.args.kinds.now in let ppm = c.args.ppm in let now = c.args.now in let ls = c.args.lists.now.lists in let n = c.loop-kind.kind in
    elim c.match-front_at.branch [
      | in-Some+in_ok-insert w ↦ subst (λ (q : Queued). HasFronts kinds ppm now ls (n + 1) q.fronts) (sym w.queue-is)
          (one_more kinds ppm now ls n c.loop-kind.queue.fronts c.loop-kind.invariant w.in-Some.front w.insert.new.self.fronts (sym w.in-Some.ensures) w.in_ok-insert.ensures.ok)
      | in_default w ↦ subst (λ (q : Queued). HasFronts kinds ppm now ls (n + 1) q.fronts) (sym w.queue-is) (none_more kinds ppm now ls n c.loop-kind.queue.fronts c.loop-kind.invariant (sym w.in_default.ensures))
    ]
