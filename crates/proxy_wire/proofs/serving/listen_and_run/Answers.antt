-- It listened, and what ran is told from there.
use Rattle.proxy_wire.proofs.Served.{listened, listened_metered}
use Rattle.std.proofs.Common.{arith}
use Rattle.proxy_wire.proofs.serving.listen_and_run.Goals as goal

pub returns-then-config-eq0-clause-serves : goal.returns-then-config-eq0-clause-serves
returns-then-config-eq0-clause-serves g c = listened g.T.W.Wires _ c.args.task.now.config.now c.args.task.now.turns _ _ _ _ _ _ _ _ _ _ c.in-Ok.ensures.told c.run.ensures.told c.listen_for_workers.ensures.wired c.if-config-eq0.true c.run.ensures.ran

pub returns-clause-serves : goal.returns-clause-serves
returns-clause-serves g c =
    let rate = c.if-config-eq0.false in
    listened_metered g.T.W.Wires _ c.args.task.now.config.now c.args.task.now.turns _ _ _ _ _ _ _ _ _ _ c.in-Ok.ensures.told c.limit_and_run.ensures.told c.listen_for_workers.ensures.wired (omega (arith, rate)) c.limit_and_run.ensures.ran
