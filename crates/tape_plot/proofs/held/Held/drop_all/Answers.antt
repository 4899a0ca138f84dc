-- Each place is filled with 0.
use Rattle.std.proofs.Common.{arith}
use Rattle.tape_plot.proofs.Keeping.{all_zeros}
use Rattle.tape_plot.proofs.held.Held.drop_all.Goals as goal

pub returns : goal.returns
returns c = all_zeros _ c.args.self.now.levels.items _ (omega arith) (c.fill.ensures.items (λ y e. e))
