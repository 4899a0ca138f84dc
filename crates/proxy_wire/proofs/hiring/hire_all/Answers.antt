-- One worker after the other is hired.
use Rattle.proxy_wire.proofs.Pooling.{all_some, so_all, so_more, so_none, so_some}
use Rattle.shared_state.specs.PermitSeats.{IsSeatOf, seats_in}
use Rattle.shared_state.specs.declared.permits.Permits.{Permits}
use Rattle.std.proofs.Common.{All, arith, refl, subst, sym, ◌∙◌}
use Rattle.proxy_wire.proofs.hiring.hire_all.Goals as goal

pub loop-place-init : goal.loop-place-init
loop-place-init g c = record {
  so = so_none g.M.Meter.bare _ c.args.task.now.config.now _ c.args.pool.now c.requires.shares (sym c.args.pool.now.workers.ok.0 ∙ c.requires.none.0) (sym c.args.pool.now.shared.posts.ok.0 ∙ c.requires.none.1);
  room = c.requires.room;
  seats = c.requires.seats;
  leads = c.requires.leads;
  told = refl;
  no_fall = omega arith;
}

pub returns-in_err-hire_next-clause-some : goal.returns-in_err-hire_next-clause-some
returns-in_err-hire_next-clause-some g c =
    so_some g.M.Meter.bare _ c.args.task.now.config.now c.loop-place.place _ _ _ _ c.loop-place.pool _ c.loop-place-test.true c.hire_next.ensures.permits c.loop-place.invariant.so c.in_err-hire_next.ensures.none

pub loop-place-preserved : goal.loop-place-preserved
loop-place-preserved g c =
    let i = c.loop-place.invariant in
    let e = c.in_ok-hire_next.ensures in
    let room = i.room in
    let kept = e.room in
    let no_fall = i.no_fall in
    let later = e.no_fall in
    record {
      so = so_more g.M.Meter.bare _ c.args.task.now.config.now c.loop-place.place _ _ _ c.loop-place.pool _ i.so e.one e.shares;
      room = omega (arith, room, kept);
      seats = subst (λ (p : Permits). All (IsSeatOf p) (seats_in c.hire_next.new.supply.seats)) (sym e.permits) e.seats;
      leads = e.leads;
      told = e.told ∙ i.told;
      no_fall = omega (arith, no_fall, later);
    }

pub returns-clause-some : goal.returns-clause-some
returns-clause-some g c =
    let over = c.loop-place-test.false in
    let most = c.loop-place.auto.place-end in
    all_some g.M.Meter.bare _ c.args.task.now.config.now c.loop-place.pool _ _ (so_all g.M.Meter.bare _ c.args.task.now.config.now c.loop-place.place _ _ c.loop-place.pool (omega (arith, over, most)) c.loop-place.invariant.so)
