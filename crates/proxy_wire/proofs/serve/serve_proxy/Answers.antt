-- What the words ask for was done.
use Rattle.proxy_wire.proofs.Asked.{has_form, no_relay, no_wire, relay_has_form, wire_served}
use Rattle.proxy_wire.specs.Serving.{ServesConfig, ServesWire}
use Rattle.std.specs.Prelude.{map, ℕ}
use Rattle.std.specs.String.{string_bytes}
use Rattle.worker_threads.specs.Starting.{outside_of}
use Rattle.proxy_wire.proofs.serve.serve_proxy.Goals as goal
use Rattle.proxy_wire.specs.declared.form.ProxyForm.TheVariants as form

pub returns-in-Some-Wire-clause-usage : goal.returns-in-Some-Wire-clause-usage
returns-in-Some-Wire-clause-usage g c = has_form (map string_bytes c.args.words.now) c.in-Some-Wire.field-0 c.serve_workers.result.status c.in-Some-Wire.ensures.some c.serve_workers.ensures.some

pub returns-in-Some-Wire-clause-nothing : goal.returns-in-Some-Wire-clause-nothing
returns-in-Some-Wire-clause-nothing g c used = absurd (c.serve_workers.ensures.some used)

pub returns-in-Some-Wire-clause-relay : goal.returns-in-Some-Wire-clause-relay
returns-in-Some-Wire-clause-relay g c n asked = no_relay _ (map string_bytes c.args.words.now) c.in-Some-Wire.field-0 c.in-Some-Wire.turns n c.in-Some-Wire.field-0-is c.in-Some-Wire.ensures.some asked

pub returns-in-Some-Wire-clause-wire : goal.returns-in-Some-Wire-clause-wire
returns-in-Some-Wire-clause-wire g c n asked =
    let serves : ℕ → Type 0 = λ m. ServesConfig (λ config. ServesWire g.T.W.Wires (outside_of g.T.W.Wires g.T.C.Clock.moments g.T.L.Sink.contents g.T.L.Journal.told g.T.L.Sink.faults) config m
    (g.T.Site.told c.args.site.now) (g.T.Site.told c.serve_workers.new.site) (g.T.WireSite.wired c.args.site.now) (g.T.WireSite.wired c.serve_workers.new.site) (g.K.Sink.contents c.args.out.now) (g.K.Sink.contents c.serve_workers.new.out) c.serve_workers.result.status)
    (g.S.Source.left c.args.config.now) (g.S.Source.left c.serve_workers.new.source) (g.T.Site.told c.args.site.now) (g.T.Site.told c.serve_workers.new.site) (g.T.WireSite.wired c.args.site.now) (g.T.WireSite.wired c.serve_workers.new.site)
    (g.K.Sink.contents c.args.out.now) (g.K.Sink.contents c.serve_workers.new.out) c.serve_workers.result.status in
    wire_served serves (map string_bytes c.args.words.now) c.in-Some-Wire.field-0 c.in-Some-Wire.turns n c.in-Some-Wire.field-0-is c.in-Some-Wire.ensures.some asked c.serve_workers.ensures.wire

pub returns-in-Some-Relay-clause-usage : goal.returns-in-Some-Relay-clause-usage
returns-in-Some-Relay-clause-usage g c = relay_has_form (map string_bytes c.args.words.now) c.in-Some-Relay.field-0 _ c.serve_with_reason-served.result.status c.in-Some-Relay.field-0-is c.in-Some-Relay.ensures.some c.serve_with_reason-served.ensures.usage

pub returns-in-Some-Relay-clause-wire : goal.returns-in-Some-Relay-clause-wire
returns-in-Some-Relay-clause-wire g c n asked = no_wire _ (map string_bytes c.args.words.now) c.in-Some-Relay.field-0 _ n c.in-Some-Relay.field-0-is c.in-Some-Relay.ensures.some asked

pub returns-in-None-clause-relay : goal.returns-in-None-clause-relay
returns-in-None-clause-relay g c n asked = absurd (c.in-None.ensures.none.none (form.Relay n) asked)

pub returns-in-None-clause-wire : goal.returns-in-None-clause-wire
returns-in-None-clause-wire g c n asked = absurd (c.in-None.ensures.none.none (form.Wire n) asked)
