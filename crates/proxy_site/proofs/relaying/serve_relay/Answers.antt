-- It listened, and what the site gave was worked over.
use Rattle.proxy_site.proofs.Relayed.{listened}
use Rattle.proxy_site.specs.Relaying.{ServesRelay}
use Rattle.session_run.specs.declared.status.Status.{Status}
use Rattle.std.proofs.Common.{subst, sym}
use Rattle.proxy_site.proofs.relaying.serve_relay.Goals as goal

pub returns-clause-serves : goal.returns-clause-serves
returns-clause-serves g c =
    let serves : Status → Type 0 = λ how. ServesRelay g.T.T.Wires.seen g.T.J.Sink.contents c.args.config.now c.args.turns (g.T.Site.told c.args.site.now) (g.T.Site.told c.give_back_taps.new.self)
    (g.K.Sink.contents c.args.out.now) (g.K.Sink.contents c.relay_over-reason.new.out) how in
    subst serves (sym c.by-2.ensures.status) (listened g.T.T.Wires.seen g.T.J.Sink.contents c.args.config.now c.args.turns (g.T.Site.told c.args.site.now) (g.T.Site.told c.listen.new.self)
    (g.T.Site.told c.fit_taps.new.self) (g.T.Site.told c.give_back_taps.new.self) c.in-Ok-listen.address c.in-Ok-fit_taps.fitted (c.relay_over-reason.new.taps, c.relay_over-reason.new.journal)
    (g.K.Sink.contents c.args.out.now) (g.K.Sink.contents c.relay_over-reason.new.out) _ c.in-Ok-listen.ensures.told c.in-Ok-fit_taps.ensures.told c.give_back_taps.ensures.told c.relay_over-reason.ensures.over)
