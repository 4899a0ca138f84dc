-- The exchanges and then the connections.
use Rattle.tape_plot.proofs.Drawing.{all_drawn}
use Rattle.tape_plot.proofs.Passing.{both_ok}
use Rattle.tape_plot.proofs.draw.rows.Rows.put_levels.Goals as goal

pub returns : goal.returns
returns c =
    both_ok _ _ _ c.put_connections.result
    (λ g d. all_drawn c.args.self.now.sheet c.put_exchanges.new.self.sheet _ c.args.limits.now c.args.pick.now c.args.levels.now c.in_ok-put_exchanges.ensures.grows g c.in_ok-put_exchanges.ensures.drawn d) c.put_connections.ensures.grows
    c.put_connections.ensures.drawn
