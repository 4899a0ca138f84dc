-- The one flow and then the other.
use Rattle.tape_plot.proofs.Drawing.{both_drawn, grows_more}
use Rattle.tape_plot.proofs.Passing.{both_ok, when_ok}
use Rattle.tape_plot.proofs.draw.rows.Rows.put_exchange.Goals as goal

pub returns-clause-grows : goal.returns-clause-grows
returns-clause-grows c = when_ok _ _ c.put_flow-2.result (λ g. grows_more _ _ _ c.in_ok-put_flow.ensures.grows g) c.put_flow-2.ensures.grows

pub returns-clause-drawn : goal.returns-clause-drawn
returns-clause-drawn c =
    both_ok _ _ _ c.put_flow-2.result (λ g d. both_drawn c.put_flow.new.self.sheet _ c.args.limits.now c.args.pick.now c.args.number c.args.exchange.now g c.in_ok-put_flow.ensures.drawn d) c.put_flow-2.ensures.grows c.put_flow-2.ensures.drawn
