use Rattle.number_set.proofs.Entries.{keys_inserted, sorted_inserted}
use Rattle.number_set.specs.NumberMap.{IsSorted}
use Rattle.std.proofs.Common.{ap, subst, sym, ◌∙◌}
use Rattle.std.specs.Map.{keys_of}
use Rattle.std.specs.Prelude.{List, ℕ}
use Rattle.wire_load.proofs.Rising.{rising}
use Rattle.wire_load.proofs.load.Load.touch.Goals as goal
use Rattle.wire_load.specs.Load.{Loading, with_touched}

pub invariant_of-self : goal.invariant_of-self
invariant_of-self c = record { states = c.self.invariant.states; order = subst IsSorted (sym c.in_err-insert.ensures.err) c.self.invariant.order }

pub invariant_of-self-2 : goal.invariant_of-self-2
invariant_of-self-2 c = record { states = c.self.invariant.states; order = sorted_inserted c.args.exchange _ c.self.inside.touched c.insert.new.self c.self.invariant.order c.in_ok-insert.ensures.ok }

pub returns-clause-ok : goal.returns-clause-ok
returns-clause-ok c =
    ap (λ (ks : List ℕ). let l : Loading = record { actions = c.self.inside.actions; accounts = c.self.inside.classes; touched = ks } in l)
    (ap keys_of c.in_ok-insert.ensures.ok ∙ keys_inserted c.args.exchange _ c.self.inside.touched)
    ∙ ap (with_touched c.args.exchange) c.self.view_is

pub returns-in_err-insert-clause-rising : goal.returns-in_err-insert-clause-rising
returns-in_err-insert-clause-rising c = rising (keys_of c.insert.new.self) (subst IsSorted (sym c.in_err-insert.ensures.err) c.self.invariant.order)

pub returns-clause-rising : goal.returns-clause-rising
returns-clause-rising c = rising (keys_of c.insert.new.self) (sorted_inserted c.args.exchange _ c.self.inside.touched c.insert.new.self c.self.invariant.order c.in_ok-insert.ensures.ok)
