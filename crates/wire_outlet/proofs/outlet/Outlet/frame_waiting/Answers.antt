use Rattle.std.proofs.Common.{ap, arith, drop, false, length, subst, sym, ◌∙◌, ◌≡◌, ◌∷◌, ◌≤◌}
use Rattle.wire_outlet.proofs.Framing.{reply_popped}
use Rattle.wire_outlet.proofs.Ready.{appended}
use Rattle.wire_outlet.proofs.outlet.Outlet.frame_waiting.Goals as goal
use Rattle.wire_outlet.specs.Outgoing.{IsReady, Outgoing}
use Rattle.wire_outlet.specs.declared.waiting.Waiting.{Waiting}
use Rattle.wire_outlet.specs.declared.waiting.Waiting.TheVariants.{Reply}

pub take_answer-octets-requires : goal.take_answer-octets-requires
take_answer-octets-requires c =
    let later = drop 1 c.self.inside.waiting in
    (c.in-Some-Answer.control, later, c.in-Some-Answer.ensures.first ∙ ap (λ (unit : Waiting). unit ∷ later) c.in-Some-Answer.field-0-is)

pub returns-in_ok-crossed-in-Some-Answer-clause-ready : goal.returns-in_ok-crossed-in-Some-Answer-clause-ready
returns-in_ok-crossed-in-Some-Answer-clause-ready c unit large ready =
    let was : IsReady unit c.self.inside.write = subst (λ (o : Outgoing). IsReady unit o.write) (sym c.self.view_is) ready in
    let low : c.self.inside.write.above ≡ false = subst (λ (o : Outgoing). o.write.above ≡ false) (sym c.self.view_is) c.requires in
    let fits : length c.as_slice.result.now ≤ unit = omega (arith, c.as_slice.ensures.fits) in
    subst (λ (o : Outgoing). IsReady unit o.write) (sym c.take_answer-octets.ensures.2)
    (appended unit c.as_slice.result.now c.self.inside.write c.add.new.self was low fits c.in_ok-crossed-in-Some-Answer.ensures.appends)

pub returns-in_ok-octets-in-Some-Reply-clause-first : goal.returns-in_ok-octets-in-Some-Reply-clause-first
returns-in_ok-octets-in-Some-Reply-clause-first c =
    let stream = c.in-Some-Reply.stream in
    let status = c.in-Some-Reply.status in
    let later = drop 1 c.self.inside.waiting in
    let here : c.self.inside.waiting ≡ Reply stream status ∷ later =
    c.in-Some-Reply.ensures.first ∙ ap (λ (unit : Waiting). unit ∷ later) c.in-Some-Reply.field-0-is in
    let waits : c.args.self.now.waiting ≡ Reply stream status ∷ drop 1 c.args.self.now.waiting =
    subst (λ (o : Outgoing). o.waiting ≡ Reply stream status ∷ drop 1 o.waiting) c.self.view_is here in
    let written = c.in_ok-octets-in-Some-Reply.ensures in
    let then = c.self-in-Some-Reply.inside in
    reply_popped c.args.self.now c.write_reply.new.self then.write then.waiting c.pop.new.self then.heads stream status
    c.in_ok-octets-in-Some-Reply.octets c.in_ok-octets-in-Some-Reply.crossed
    c.self-in-Some-Reply.view_is c.pop.ensures.rest waits written.octets written.crossed written.writes
