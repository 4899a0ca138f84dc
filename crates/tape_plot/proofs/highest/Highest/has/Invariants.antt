use Rattle.std.specs.List.{Contains}
use Rattle.std.specs.Prelude.{length, map}
use Rattle.tape_plot.specs.Ranking.{ranked_in}
use Rattle.tape_plot.proofs.highest.Highest.has.Given as goal

abbrev pub invariant-loop-ranked : goal.invariant-loop-ranked
invariant-loop-ranked l = Contains (map (λ r. r.buffer) (ranked_in l.self)) l.buffer → Contains (map (λ r. r.buffer) l.rest) l.buffer

abbrev pub decreases-loop-ranked : goal.decreases-loop-ranked
decreases-loop-ranked l = length l.rest
