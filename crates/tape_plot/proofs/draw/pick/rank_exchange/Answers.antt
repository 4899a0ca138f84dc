-- The request and then the response.
use Rattle.std.specs.Prelude.{false, true}
use Rattle.tape_plot.proofs.Passing.{when_ok}
use Rattle.tape_plot.proofs.Putting.{kept_both}
use Rattle.tape_plot.specs.Filled.{of_flow}
use Rattle.tape_plot.specs.Ranking.{ranked_in}
use Rattle.tape_plot.specs.Subjects.{flow_id}
use Rattle.tape_plot.proofs.draw.pick.rank_exchange.Goals as goal

pub returns : goal.returns
returns c =
    let request = of_flow c.args.limits.now (flow_id c.args.number false) c.args.exchange.now.request in
    let response = of_flow c.args.limits.now (flow_id c.args.number true) c.args.exchange.now.response in
    when_ok _ _ c.rank_flow-2.result
    (λ e. kept_both request response (ranked_in c.args.highest.now) (ranked_in c.rank_flow.new.highest) (ranked_in c.rank_flow-2.new.highest) c.in_ok-rank_flow.ensures e) c.rank_flow-2.ensures
