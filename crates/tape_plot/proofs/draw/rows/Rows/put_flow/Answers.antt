-- The places of a flow, and perhaps its bar.
use Rattle.tape_plot.proofs.Drawing.{flow_drawn, grows_self}
use Rattle.tape_plot.proofs.Passing.{when_ok}
use Rattle.tape_plot.proofs.draw.rows.Rows.put_flow.Goals as goal

pub returns-then-self-before-clause-drawn : goal.returns-then-self-before-clause-drawn
returns-then-self-before-clause-drawn c =
    when_ok _ _ c.put_count.result
    (λ g. flow_drawn c.put_places.new.self.sheet _ c.args.limits.now c.args.pick.now c.args.id c.args.exchange.now c.flow-flow.result.now c.flow-flow.ensures c.in_ok-put_places.ensures.drawn g)
    c.put_count.ensures

pub returns-clause-drawn : goal.returns-clause-drawn
returns-clause-drawn c =
    flow_drawn c.put_places.new.self.sheet _ c.args.limits.now c.args.pick.now c.args.id c.args.exchange.now c.flow-flow.result.now c.flow-flow.ensures c.in_ok-put_places.ensures.drawn (grows_self _)
