-- What the site gave is what the worker has.
use Rattle.proxy_wire.proofs.Pooling.{err_always, joins_fits, on_ok}
use Rattle.std.proofs.Common.{arith, inl, inr, ◌+◌, ◌∙◌}
use Rattle.proxy_wire.proofs.hiring.hire.Goals as goal

pub returns-in-Ok-clause-fits : goal.returns-in-Ok-clause-fits
returns-in-Ok-clause-fits g c parts is =
    let place = c.requires.place in
    let long = c.args.pool.now.workers.ok.0 in
    on_ok _ _ c.enlist.result (λ j. joins_fits g.M.Meter.bare _ _ _ (c.args.place + 1) parts parts.pass _ _ c.wrap.result (c.in-Ok.wires, (c.in-Ok.clock, c.in-Ok.journal)) _ _ c.wrap.ensures.bare (c.wrap.ensures.clusters ∙ c.in-Ok.ensures.unused.clusters) (omega (arith, place, long)) c.in-Ok.ensures.wired j)
    (c.enlist.ensures.joins parts is)

pub returns-in-Ok-clause-some : goal.returns-in-Ok-clause-some
returns-in-Ok-clause-some g c parts is =
    let place = c.requires.place in
    let long = c.args.pool.now.workers.ok.0 in
    err_always _ c.enlist.result (inr (joins_fits g.M.Meter.bare _ _ _ (c.args.place + 1) parts parts.pass _ _ c.wrap.result (c.in-Ok.wires, (c.in-Ok.clock, c.in-Ok.journal)) _ _ c.wrap.ensures.bare (c.wrap.ensures.clusters ∙ c.in-Ok.ensures.unused.clusters) (omega (arith, place, long)) c.in-Ok.ensures.wired (c.enlist.ensures.front parts is)))

pub returns-in-Err-clause-cause : goal.returns-in-Err-clause-cause
returns-in-Err-clause-cause g c e = inl (c.in-Err.ensures.cause (let f = c.unfitted.ensures.failed e in cc))
