-- One after the other is drawn.
use Rattle.std.proofs.Common.{map, rules, subst, ◌≡◌}
use Rattle.std.proofs.lemmas.List.Elements.{All-map, All-nil}
use Rattle.std.proofs.lemmas.Map.Iter.{iter_end}
use Rattle.std.specs.Map.Iter.{deref_pair}
use Rattle.std.specs.Prelude.{All}
use Rattle.tape_plot.proofs.Drawing.{write_next, grows_more, grows_self}
use Rattle.tape_plot.specs.Sheets.{WriteDrawn}
use Rattle.tape_plot.proofs.draw.rows.Rows.put_connections.Goals as goal

pub loop-conn-init : goal.loop-conn-init
loop-conn-init c = record { grows = grows_self _; drawn = All-nil _ }

pub loop-conn-preserved : goal.loop-conn-preserved
loop-conn-preserved c = record {
  grows = grows_more _ _ _ c.loop-conn.invariant.grows c.in_ok-put_write.ensures.grows;
  drawn = write_next _ _ _ _ _ _ c.in_ok-put_write.ensures.grows c.loop-conn.invariant.drawn (record { lane = c.in_ok-put_write.ensures.drawn });
}

pub returns : goal.returns
returns c =
    let e : map deref_pair c.loop-conn.yielded ≡ c.args.connections.now.items.entries = search (rules, iter_end) in
    let all = All-map (λ v. WriteDrawn c.loop-conn.self.sheet c.args.limits.now c.args.pick.now v.0 v.1) deref_pair c.loop-conn.yielded c.loop-conn.invariant.drawn in record {
      grows = c.loop-conn.invariant.grows;
      drawn = subst (All (λ v. WriteDrawn c.loop-conn.self.sheet c.args.limits.now c.args.pick.now v.0 v.1)) e all;
    }
