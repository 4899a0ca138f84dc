use Rattle.std.proofs.Common.{◌≡◌, ◌∷◌, List, map, ap, subst, arith}
use Rattle.std.specs.Prelude.{Some}
use Rattle.std.specs.List.{AllByRecursion}
use Rattle.std.specs.List.Sorted.{IsPermutation}
use Rattle.std.specs.declared.cmp.Reverse.{Reverse}
use Rattle.std.specs.BinaryHeap.{heap_items}
use Rattle.std.proofs.lemmas.List.Sorted.{IsPermutation-map}
use Rattle.scaled_timer.specs.declared.fronts.Front.{Front}
use Rattle.scaled_timer.specs.Fronts.{NoLater}
use Rattle.scaled_timer.specs.Queue.{Queued}
use Rattle.scaled_timer.proofs.Queueing.{all_later}
use Rattle.scaled_timer.proofs.queue.FrontQueue.pop.Goals as goal

pub returns-clause-some : goal.returns-clause-some
returns-clause-some c =
    let f = c.in_ok-front.front in
    let was : map (λ (r : Reverse Front). r.0) (heap_items c.self.inside.heap) ≡ c.args.self.now.fronts = ap (λ (q : Queued). q.fronts) c.self.view_is in
    let order = c.in_ok-front.ensures.heap_order c.self.invariant in
    record {
      taken = subst (λ (fs : List Front). IsPermutation fs (c.in_ok-front.field-0.0 ∷ map (λ (r : Reverse Front). r.0) (heap_items c.pop.new.self))) was (IsPermutation-map (λ (r : Reverse Front). r.0) _ _ c.in_ok-front.ensures.permutation);
      first = subst (AllByRecursion (λ (g : Front). NoLater (Some c.in_ok-front.field-0.0) (Some g))) was (all_later c.in_ok-front.field-0 _ order.1);
      room = let len = c.in_ok-front.ensures.len in let cap = c.in_ok-front.ensures.capacity in let fits = c.self.inside.heap.data.ok.1 in omega (arith, len, cap, fits);
    }
