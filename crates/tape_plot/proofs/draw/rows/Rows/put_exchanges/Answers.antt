-- One after the other is drawn.
use Rattle.std.proofs.Common.{map, rules, subst, ◌≡◌}
use Rattle.std.proofs.lemmas.List.Elements.{All-map, All-nil}
use Rattle.std.proofs.lemmas.Map.Iter.{iter_end}
use Rattle.std.specs.Map.Iter.{deref_pair}
use Rattle.std.specs.Prelude.{All}
use Rattle.tape_plot.proofs.Drawing.{exchange_next, grows_more, grows_self}
use Rattle.tape_plot.specs.Sheets.{ExchangeDrawn}
use Rattle.tape_plot.proofs.draw.rows.Rows.put_exchanges.Goals as goal

pub loop-number-init : goal.loop-number-init
loop-number-init c = record { grows = grows_self _; drawn = All-nil _ }

pub loop-number-preserved : goal.loop-number-preserved
loop-number-preserved c = record {
  grows = grows_more _ _ _ c.loop-number.invariant.grows c.in_ok-put_exchange.ensures.grows;
  drawn = exchange_next _ _ _ _ _ _ c.in_ok-put_exchange.ensures.grows c.loop-number.invariant.drawn c.in_ok-put_exchange.ensures.drawn;
}

pub returns : goal.returns
returns c =
    let e : map deref_pair c.loop-number.yielded ≡ c.args.exchanges.now.items.entries = search (rules, iter_end) in
    let all = All-map (λ v. ExchangeDrawn c.loop-number.self.sheet c.args.limits.now c.args.pick.now v.0 v.1) deref_pair c.loop-number.yielded c.loop-number.invariant.drawn in record {
      grows = c.loop-number.invariant.grows;
      drawn = subst (All (λ v. ExchangeDrawn c.loop-number.self.sheet c.args.limits.now c.args.pick.now v.0 v.1)) e all;
    }
