use Rattle.number_set.proofs.Entries.{keys_removed, sorted_removed}
use Rattle.std.proofs.Common.{ap, ◌∙◌}
use Rattle.std.specs.BTreeMap.{is_at}
use Rattle.std.specs.Map.{keys_of}
use Rattle.std.specs.Ordering.{nat_cmp}
use Rattle.wire_load.proofs.Rising.{rising}
use Rattle.wire_load.proofs.load.Load.drop_one.Goals as goal
use Rattle.wire_load.specs.Load.{Loading, dropped}

pub invariant_of-self : goal.invariant_of-self
invariant_of-self c = record { states = c.self.invariant.states; order = sorted_removed c.args.exchange c.self.inside.touched c.remove.new.self c.self.invariant.order c.remove.ensures.removed }

pub returns-clause-dropped : goal.returns-clause-dropped
returns-clause-dropped c =
    let keys = ap keys_of c.remove.ensures.removed ∙ keys_removed (is_at (nat_cmp c.args.exchange)) c.self.inside.touched in
    (λ i. let l : Loading = record { actions = c.self.inside.actions; accounts = c.drop_one.ensures i; touched = keys i } in l) ∙ ap (dropped c.args.exchange) c.self.view_is

pub returns-clause-rising : goal.returns-clause-rising
returns-clause-rising c = rising (keys_of c.remove.new.self) (sorted_removed c.args.exchange c.self.inside.touched c.remove.new.self c.self.invariant.order c.remove.ensures.removed)
