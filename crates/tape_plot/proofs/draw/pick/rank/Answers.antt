-- One that never held an octet isn't put.
use Rattle.tape_plot.proofs.Passing.{when_ok}
use Rattle.tape_plot.proofs.Putting.{none_kept, one_kept}
use Rattle.tape_plot.specs.Ranking.{ranked_in}
use Rattle.tape_plot.proofs.draw.pick.rank.Goals as goal

pub returns-then-most-eq0 : goal.returns-then-most-eq0
returns-then-most-eq0 c = none_kept c.args.buffer c.args.limit c.args.place.now c.most-most.result _ c.most-most.ensures c.if-most-eq0.true

pub returns : goal.returns
returns c =
    when_ok _ _ c.put.result
    (λ e. one_kept c.args.buffer c.args.limit c.args.place.now c.most-most.result c.known.result c.new-height.result (ranked_in c.args.highest.now) _ c.most-most.ensures c.if-most-eq0.false c.known.ensures c.new-height.ensures e)
    c.put.ensures
