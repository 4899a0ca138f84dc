-- What the words ask for was done.
use Rattle.proxy_site.proofs.Asked.{form_is, served_for}
use Rattle.proxy_site.specs.Relaying.{ServesRelay}
use Rattle.proxy_site.specs.Serving.{ServesUnder}
use Rattle.std.specs.Prelude.{map, ℕ}
use Rattle.std.specs.String.{string_bytes}
use Rattle.proxy_site.proofs.serving.serve_with_reason.Goals as goal
use Rattle.proxy_site.specs.declared.form.ServeForm.TheVariants as form

pub returns-in-Some-Relay-clause-relay : goal.returns-in-Some-Relay-clause-relay
returns-in-Some-Relay-clause-relay g c n asked =
    let serves : ℕ → Type 0 = λ m. ServesUnder (λ config. ServesRelay g.T.T.Wires.seen g.T.J.Sink.contents config m (g.T.Site.told c.args.site.now) (g.T.Site.told c.serve_form.new.site)
    (g.K.Sink.contents c.args.out.now) (g.K.Sink.contents c.serve_form.new.out) c.serve_form.result.status) (g.S.Source.left c.args.config.now) (g.S.Source.left c.serve_form.new.config)
    (g.T.Site.told c.args.site.now) (g.T.Site.told c.serve_form.new.site) (g.K.Sink.contents c.args.out.now) (g.K.Sink.contents c.serve_form.new.out) c.serve_form.result.status in
    let f = form_is c.in-Some-Relay.field-0 in
    let spelled = rw f.1 at c.in-Some-Relay.ensures.some in
    let served = rw f.1 at c.serve_form.ensures.relay in
    served_for serves (map string_bytes c.args.words.now) f.0 n spelled asked served

pub returns-in-None-clause-relay : goal.returns-in-None-clause-relay
returns-in-None-clause-relay g c n asked = absurd (c.in-None.ensures.none.none (form.Relay n) asked)
