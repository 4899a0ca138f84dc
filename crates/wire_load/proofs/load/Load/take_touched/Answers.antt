use Rattle.number_set.proofs.Entries.{sorted_rest}
use Rattle.std.proofs.Common.{ap, subst, sym, ◌∙◌}
use Rattle.std.specs.Map.{keys_of}
use Rattle.std.specs.Prelude.{List, ℕ, ◌∷◌}
use Rattle.wire_load.proofs.Rising.{rising}
use Rattle.wire_load.proofs.load.Load.take_touched.Goals as goal
use Rattle.wire_load.specs.Load.{Loading}

pub invariant_of-self : goal.invariant_of-self
invariant_of-self c = record { states = c.self.invariant.states; order = sorted_rest c.self.inside.touched c.pop_first.new.self c.self.invariant.order c.pop_first.ensures.rest }

pub invariant_of-self-2 : goal.invariant_of-self-2
invariant_of-self-2 c = record { states = c.self.invariant.states; order = sorted_rest c.self.inside.touched c.pop_first.new.self c.self.invariant.order c.pop_first.ensures.rest }

pub returns-clause-rising : goal.returns-clause-rising
returns-clause-rising c = rising (keys_of c.pop_first.new.self) (sorted_rest c.self.inside.touched c.pop_first.new.self c.self.invariant.order c.pop_first.ensures.rest)
