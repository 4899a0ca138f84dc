-- One after the other is put.
use Rattle.std.proofs.Common.{List, ap, map, refl, rules, ℕ, ◌∙◌, ◌≡◌}
use Rattle.std.proofs.lemmas.Map.Iter.{iter_end}
use Rattle.std.specs.Map.Iter.{deref_pair}
use Rattle.tape_plot.proofs.Putting.{exchange_put}
use Rattle.tape_plot.specs.Filled.{of_exchanges}
use Rattle.tape_plot.specs.Ranking.{kept_of, ranked_in}
use Rattle.tape_plot.specs.declared.exchange.Exchange.{Exchange}
use Rattle.tape_plot.proofs.draw.pick.rank_exchanges.Goals as goal

pub loop-number-init : goal.loop-number-init
loop-number-init c = record { put = refl }

pub loop-number-preserved : goal.loop-number-preserved
loop-number-preserved c = record { put = exchange_put c.args.limits.now c.loop-number.yielded (c.in-Some.number, c.in-Some.exchange) (ranked_in c.args.highest.now) (ranked_in c.loop-number.highest) (ranked_in c.rank_exchange.new.highest) c.loop-number.invariant.put c.in_ok-rank_exchange.ensures }

pub returns : goal.returns
returns c =
    let e : map deref_pair c.loop-number.yielded ≡ c.args.exchanges.now.items.entries = search (rules, iter_end) in record {
      put = c.loop-number.invariant.put ∙ ap (λ (v : List (ℕ × Exchange)). kept_of (of_exchanges c.args.limits.now v) (ranked_in c.args.highest.now)) e;
      read = (c.iter-number-items.ensures.ordered, c.iter-number-items.ensures.found);
    }
