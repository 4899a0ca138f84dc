use Rattle.std.specs.List.{concat}
use Rattle.std.specs.Prelude.{length, ◌++◌, ◌≡◌}
use Rattle.tape_plot.proofs.draw.sheet.Sheet.put_onto.Given as goal

abbrev pub invariant-loop-piece : goal.invariant-loop-piece
invariant-loop-piece l = record { same : l.into ++ concat l.rest ≡ l.fn.into ++ concat l.self.pieces.items }

abbrev pub decreases-loop-piece : goal.decreases-loop-piece
decreases-loop-piece l = length l.rest
