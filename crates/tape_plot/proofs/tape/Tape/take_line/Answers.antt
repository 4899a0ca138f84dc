-- The line that is taken up is the first of what is held.
use Rattle.std.proofs.Common.{List, arith, subst, take, ℕ}
use Rattle.tape_plot.proofs.Sayings.{line_on}
use Rattle.tape_plot.specs.Reads.{Follows}
use Rattle.tape_plot.proofs.tape.Tape.take_line.Goals as goal

pub returns-clause-takes : goal.returns-clause-takes
returns-clause-takes c =
    line_on c.args.self.now _ c.args.n c.requires
    (subst (λ (v : List ℕ). Follows (take c.args.n v) c.args.self.now.plot c.take_text.new.plot c.args.self.now.part c.in_ok-self.field-0) c.held.ensures.held c.in_ok-self.ensures.follows)
    c.skip.ensures (omega arith) (omega arith)
