-- The highest of all that is kept.
use Rattle.std.proofs.Common.{refl}
use Rattle.tape_plot.proofs.Putting.{all_ranked}
use Rattle.tape_plot.specs.Ranking.{ranked_in}
use Rattle.tape_plot.specs.declared.draw.pick.Pick.{Pick}
use Rattle.tape_plot.proofs.draw.pick.Pick.new.Goals as goal

pub returns : goal.returns
returns c =
    let pick : Pick = record { lanes = c.args.lanes; highest = c.rank_connections.new.highest } in record {
      lanes = refl;
      ranked =
          all_ranked c.args.levels.now c.args.limits.now pick (ranked_in c.new-highest.result) (ranked_in c.rank_exchanges.new.highest) c.in_ok-rank_exchanges.ensures.read c.in_ok-rank_connections.ensures.read
          c.new-highest.ensures c.in_ok-rank_exchanges.ensures.put c.in_ok-rank_connections.ensures.put;
    }
