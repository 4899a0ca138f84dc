-- The next worker is hired, or it isn't.
use Rattle.post_queue.specs.Clauses.{IsRunnerOf}
use Rattle.post_queue.specs.declared.passes.RunnerPass.{RunnerPass}
use Rattle.proxy_wire.proofs.Pooling.{fits_idle, fits_one, on_err, on_ok}
use Rattle.shared_state.specs.PermitSeats.{IsSeatOf, seats_in}
use Rattle.shared_state.specs.declared.permits.PermitSeats.{PermitSeats}
use Rattle.std.proofs.Common.{All, refl, subst, sym, ◌∙◌}
use Rattle.proxy_wire.proofs.hiring.hire_next.Goals as goal

pub returns-clause-one : goal.returns-clause-one
returns-clause-one g c =
    let adds = c.in_ok-pass.ensures.adds in
    let next = c.in_ok-prepare.ensures.next in
    let runs = subst (λ (p : RunnerPass). IsRunnerOf adds.0 p) (sym next.pass_is) adds.2 in
    on_ok _ _ c.hire.result (λ f. fits_one g.M.Meter.bare _ c.args.task.now.config.now c.args.pool.now _ _ _ next.has.parts next.has.parts.pass adds.0 _ _ c.requires.shares (sym c.args.pool.now.workers.ok.0 ∙ sym c.requires.place.0 ∙ c.requires.place.1 ∙ c.args.pool.now.shared.posts.ok.0) next.seat next.new next.stands refl refl refl adds.1 runs c.hire.ensures.shared f)
    (c.hire.ensures.fits next.has.parts next.has.is)

pub returns-clause-none : goal.returns-clause-none
returns-clause-none g c =
    let next = c.in_ok-prepare.ensures.next in
    on_err _ _ c.hire.result (fits_idle g.M.Meter.bare _ c.args.pool.now _ next.has.parts next.has.parts.pass _ _ _ next.seat) (c.hire.ensures.some next.has.parts next.has.is)

pub returns-clause-seats : goal.returns-clause-seats
returns-clause-seats g c = subst (λ (s : PermitSeats). All (IsSeatOf c.args.pool.now.shared.permits) (seats_in s)) (sym c.hire.ensures.seats) c.in_ok-prepare.ensures.seats
