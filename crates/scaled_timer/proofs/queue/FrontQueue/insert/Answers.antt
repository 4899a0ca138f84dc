use Rattle.std.proofs.Common.{◌∷◌, List, map, ap, subst}
use Rattle.std.specs.List.Sorted.{IsPermutation}
use Rattle.std.specs.declared.cmp.Reverse.{Reverse}
use Rattle.std.specs.BinaryHeap.{heap_items}
use Rattle.std.proofs.lemmas.List.Sorted.{IsPermutation-map}
use Rattle.scaled_timer.specs.declared.fronts.Front.{Front}
use Rattle.scaled_timer.specs.Queue.{Queued}
use Rattle.scaled_timer.proofs.queue.FrontQueue.insert.Goals as goal

pub returns-clause-ok : goal.returns-clause-ok
returns-clause-ok c =
    subst (λ (fs : List Front). IsPermutation (c.args.front ∷ fs) (map (λ (r : Reverse Front). r.0) (heap_items c.push.new.self))) (ap (λ (q : Queued). q.fronts) c.self.view_is)
    (IsPermutation-map (λ (r : Reverse Front). r.0) _ _ c.in_ok-push.ensures.permutation)
