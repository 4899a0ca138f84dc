-- One worker after the other goes back.
use Rattle.proxy_wire.proofs.Returning.{count_step, paid_front, paid_last, returned_end, returned_step}
use Rattle.std.proofs.Common.{arith, sym, ◌∙◌}
use Rattle.proxy_wire.proofs.giving_back.give_back_all.Goals as goal

pub give_back-requires : goal.give_back-requires
give_back-requires g c = record { paid = paid_last c.args.permits.now c.loop-worker.workers.items c.pop.new.self.items c.in-Some.worker c.in-Some.ensures.items c.loop-worker.invariant.paid }

pub loop-worker-preserved : goal.loop-worker-preserved
loop-worker-preserved g c =
    let i = c.loop-worker.invariant in
    record {
      few = omega (arith, c.in-Some.ensures.len, i.few);
      paid = paid_front c.args.permits.now c.loop-worker.workers.items c.pop.new.self.items c.in-Some.worker c.in-Some.ensures.items i.paid;
      wired = λ end r. i.wired end (returned_step g.M.Meter.bare _ _ end c.loop-worker.workers.items c.pop.new.self.items c.in-Some.worker _ c.in-Some.ensures.items (omega (arith, c.pop.new.self.ok.0)) c.give_back.ensures.wired r);
      told = c.give_back.ensures.told ∙ i.told;
      count = λ f. count_step _ _ _ _ c.loop-worker.workers.items c.pop.new.self.items c.in-Some.worker _ c.in-Some.ensures.items i.no_fall c.give_back.ensures.no_fall c.give_back.ensures.count i.count f;
      no_fall = omega (arith, i.no_fall, c.give_back.ensures.no_fall);
    }

pub returns-clause-wired : goal.returns-clause-wired
returns-clause-wired g c = c.loop-worker.invariant.wired _ (returned_end g.M.Meter.bare _ c.loop-worker.workers.items (sym c.loop-worker.workers.ok.0 ∙ c.in_default.ensures.cases.0))
