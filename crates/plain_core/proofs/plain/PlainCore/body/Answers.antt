-- Octets come: they arrive, or are more than there is room for, or come too late.
use Rattle.exchange_core.specs.declared.step.Received.TheVariants as received
use Rattle.flow_notes.specs.declared.events.Event.TheVariants as event
use Rattle.flow_notes.specs.declared.events.PlainEvent.TheVariants as plain
use Rattle.flow_notes.specs.declared.notes.Note.TheVariants as note
use Rattle.std.proofs.Common.{refl, ◌∙◌}
use Rattle.std.specs.Prelude.{[], ◌∷◌}
use Rattle.plain_core.proofs.EventNames.{body_goes, body_said, body_same, cut_named, cut_same, late_result, opens_named, opens_same, over_lives, over_named, received_as, take_named, take_same}
use Rattle.plain_core.proofs.EventOpens.{opened_given, opened_run}
use Rattle.plain_core.proofs.EventResults.{arrive_named, event_result}
use Rattle.plain_core.proofs.Fronts.{Opened, push_appends, turn_refused}
use Rattle.plain_core.proofs.plain.PlainCore.body.Goals.{After-note_turn, In-TooMany}
use Rattle.plain_core.specs.Carries.{ReceivesAs}
use Rattle.plain_core.proofs.plain.PlainCore.body.Goals as goal

pub receive-requires-clause-goes_on : goal.receive-requires-clause-goes_on
receive-requires-clause-goes_on c = body_goes c.args.self.now c.args.notes.now c.args.stream c.from-exchange.result c.args.octets.now c.from-exchange.ensures c.requires

-- ---- they are in the receive buffer
opened : (c : After-note_turn) → Opened c.args.self.now c.in_ok-number-in-Arrived.number (plain.Body c.args.stream c.in_ok-from_slice.field-0) (note.Arrive c.request-flow.result c.in_ok-octets-in-Arrived.octets ∷ []) c.begin_run.new.self
opened c =
    arrive_named c.args.self.now c.begin_run.new.self c.from-exchange.result c.in_ok-number-in-Arrived.number (plain.Body c.args.stream c.in_ok-from_slice.field-0) c.args.octets.now c.in_ok-octets-in-Arrived.octets c.args.octets.now c.request-flow.result c.receive.new.self
    (c.in_ok-octets-in-Arrived.ensures ∙ c.as_slice-in-Arrived.ensures) refl c.request-flow.ensures (body_same c.args.stream c.from-exchange.result c.in_ok-from_slice.field-0 c.args.octets.now c.from-exchange.ensures (c.in_ok-from_slice.ensures ∙ c.as_slice.ensures))
    (opened_run c.args.self.now c.open_turn.new.self c.begin_run.new.self _ _ _ c.request-flow.result
    (opened_given c.args.self.now (record c.args.self.now { flows = c.receive.new.self }) c.open_turn.new.self refl c.in_ok-number-in-Arrived.ensures.turn c.in_ok-number-in-Arrived.ensures.agenda c.open_turn.ensures.rest)
    c.in_ok-begin_run-in-Arrived.ensures.agenda c.begin_run.ensures.rest)
    (received_as c.from-exchange.result c.args.octets.now c.in_ok-receive.field-0 received.Arrived c.args.self.now.flows c.receive.new.self c.in-Arrived.is c.in_ok-receive.ensures) c.in_ok-number-in-Arrived.ensures.number

pub returns-in_err-note_turn-in-Arrived-clause-cut : goal.returns-in_err-note_turn-in-Arrived-clause-cut
returns-in_err-note_turn-in-Arrived-clause-cut c =
    cut_named c.args.self.now c.args.notes.now _ (event.Plain (plain.Body c.args.stream c.in_ok-from_slice.field-0)) (event.Plain (plain.Body c.args.stream c.args.octets.now)) (body_said c.args.stream c.in_ok-from_slice.field-0 c.args.octets.now (c.in_ok-from_slice.ensures ∙ c.as_slice.ensures))
    (turn_refused c.args.self.now c.begin_run.new.self _ _ c.in_ok-number-in-Arrived.number (plain.Body c.args.stream c.in_ok-from_slice.field-0) _ c.in_err-note_turn-in-Arrived.ensures (opened (goal.at.returns-in_err-note_turn-in-Arrived-clause-cut c).After-note_turn))

pub returns-in_ok-note_turn-in-Arrived : goal.returns-in_ok-note_turn-in-Arrived
returns-in_ok-note_turn-in-Arrived c =
    let v = event.Plain (plain.Body c.args.stream c.args.octets.now) in
    let u = event.Plain (plain.Body c.args.stream c.in_ok-from_slice.field-0) in
    let s = body_said c.args.stream c.in_ok-from_slice.field-0 c.args.octets.now (c.in_ok-from_slice.ensures ∙ c.as_slice.ensures) in
    let r = event_result c.args.self.now c.begin_run.new.self _ _ _ c.in_ok-number-in-Arrived.number (plain.Body c.args.stream c.in_ok-from_slice.field-0) _ c.push.result c.in_ok-note_turn-in-Arrived.ensures (push_appends _ _ _ c.push.result c.push.ensures.ok c.push.ensures.err)
    (opened (goal.at.returns-in_ok-note_turn-in-Arrived c).After-note_turn) in
    record {
      ok = opens_named c.args.self.now c.begin_run.new.self c.args.notes.now _ u v c.push.result s r.0;
      cut = cut_named c.args.self.now c.args.notes.now _ u v s r.1;
    }

-- ---- they are too many
too_many : (c : In-TooMany) → ReceivesAs c.from-exchange.result c.args.octets.now received.TooMany c.args.self.now.flows c.receive.new.self
too_many c = received_as c.from-exchange.result c.args.octets.now c.in_ok-receive.field-0 received.TooMany c.args.self.now.flows c.receive.new.self c.in-TooMany.is c.in_ok-receive.ensures

pub overrun-requires-clause-take : goal.overrun-requires-clause-take
overrun-requires-clause-take c =
    take_same c.args.self.now c.receive.new.self (event.Plain (plain.Body c.args.stream c.in_ok-from_slice.field-0)) c.args.notes.now (too_many (goal.at.overrun-requires-clause-take c).In-TooMany).2
    (take_named c.args.self.now c.args.notes.now (event.Plain (plain.Body c.args.stream c.in_ok-from_slice.field-0)) (event.Plain (plain.Body c.args.stream c.args.octets.now)) (body_said c.args.stream c.in_ok-from_slice.field-0 c.args.octets.now (c.in_ok-from_slice.ensures ∙ c.as_slice.ensures)) c.requires)

pub overrun-requires-clause-lives : goal.overrun-requires-clause-lives
overrun-requires-clause-lives c =
    over_lives c.args.self.now.flows c.receive.new.self c.from-exchange.result c.args.octets.now
    (too_many (goal.at.overrun-requires-clause-lives c).In-TooMany)

pub overrun-requires-clause-over : goal.overrun-requires-clause-over
overrun-requires-clause-over c =
    over_named c.args.self.now.flows c.receive.new.self c.args.stream c.from-exchange.result c.in_ok-from_slice.field-0 c.args.octets.now c.args.octets.now c.from-exchange.ensures
    (c.in_ok-from_slice.ensures ∙ c.as_slice.ensures) refl (too_many (goal.at.overrun-requires-clause-over c).In-TooMany)

pub returns-in-TooMany : goal.returns-in-TooMany
returns-in-TooMany c =
    let v = event.Plain (plain.Body c.args.stream c.args.octets.now) in
    let u = body_said c.args.stream c.in_ok-from_slice.field-0 c.args.octets.now (c.in_ok-from_slice.ensures ∙ c.as_slice.ensures) in
    let s = too_many (goal.at.returns-in-TooMany c).In-TooMany in
    let r = event.Plain (plain.Body c.args.stream c.in_ok-from_slice.field-0) in
    record {
      ok = opens_named c.args.self.now c.overrun.new.self c.args.notes.now c.overrun.new.notes r v c.overrun.result u (opens_same c.args.self.now c.overrun.new.self c.receive.new.self c.args.notes.now c.overrun.new.notes r c.overrun.result s.2 c.overrun.ensures.ok);
      cut = cut_named c.args.self.now c.args.notes.now c.overrun.new.notes r v u (cut_same c.args.self.now c.receive.new.self c.args.notes.now c.overrun.new.notes r s.2 c.overrun.ensures.cut);
    }

-- ---- they come too late
pub returns-in_ok-number-in-NotLive : goal.returns-in_ok-number-in-NotLive
returns-in_ok-number-in-NotLive c =
    let r = late_result c.args.self.now c.open_turn-in-NotLive.new.self c.receive.new.self _ _ c.args.stream c.from-exchange.result c.in_ok-number-in-NotLive.number c.in_ok-from_slice.field-0 c.args.octets.now c.note_turn-in-NotLive.result c.from-exchange.ensures (c.in_ok-from_slice.ensures ∙ c.as_slice.ensures) c.note_turn-in-NotLive.ensures (opened_given c.args.self.now (record c.args.self.now { flows = c.receive.new.self }) c.open_turn-in-NotLive.new.self refl c.in_ok-number-in-NotLive.ensures.turn c.in_ok-number-in-NotLive.ensures.agenda c.open_turn-in-NotLive.ensures.rest) (received_as c.from-exchange.result c.args.octets.now c.in_ok-receive.field-0 received.NotLive c.args.self.now.flows c.receive.new.self c.in-NotLive.is c.in_ok-receive.ensures) c.in_ok-number-in-NotLive.ensures.number in
    record {
      ok = r.0;
      cut = r.1;
    }
