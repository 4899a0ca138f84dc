use Rattle.std.specs.Map.Iter.{deref_pair}
use Rattle.std.specs.Prelude.{map, ◌≡◌}
use Rattle.tape_plot.specs.Filled.{of_exchanges}
use Rattle.tape_plot.specs.Ranking.{kept_of, ranked_in}
use Rattle.tape_plot.proofs.draw.pick.rank_exchanges.Given as goal

abbrev pub invariant-loop-number : goal.invariant-loop-number
invariant-loop-number l = record { put : ranked_in l.highest ≡ kept_of (of_exchanges l.limits (map deref_pair l.yielded)) (ranked_in l.fn.highest) }
