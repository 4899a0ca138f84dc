-- One after the other is put.
use Rattle.std.proofs.Common.{List, ap, map, refl, rules, ℕ, ◌∙◌, ◌≡◌}
use Rattle.std.proofs.lemmas.Map.Iter.{iter_end}
use Rattle.std.specs.Map.Iter.{deref_pair}
use Rattle.tape_plot.proofs.Putting.{connection_put}
use Rattle.tape_plot.specs.Filled.{of_connections}
use Rattle.tape_plot.specs.Ranking.{kept_of, ranked_in}
use Rattle.tape_plot.specs.declared.connection.Connection.{Connection}
use Rattle.tape_plot.proofs.draw.pick.rank_connections.Goals as goal

pub loop-conn-init : goal.loop-conn-init
loop-conn-init c = record { put = refl }

pub loop-conn-preserved : goal.loop-conn-preserved
loop-conn-preserved c = record {
  put = connection_put c.args.limits.now c.loop-conn.yielded (c.in-Some.conn, c.in-Some.connection) c.of_write-limit.result (ranked_in c.args.highest.now) (ranked_in c.loop-conn.highest) (ranked_in c.rank.new.highest) c.loop-conn.invariant.put c.of_write-limit.ensures c.in_ok-rank.ensures;
}

pub returns : goal.returns
returns c =
    let e : map deref_pair c.loop-conn.yielded ≡ c.args.connections.now.items.entries = search (rules, iter_end) in record {
      put = c.loop-conn.invariant.put ∙ ap (λ (v : List (ℕ × Connection)). kept_of (of_connections c.args.limits.now v) (ranked_in c.args.highest.now)) e;
      read = (c.iter-conn-items.ensures.ordered, c.iter-conn-items.ensures.found);
    }
